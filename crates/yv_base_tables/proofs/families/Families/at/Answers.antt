use Rattle.std.proofs.Common.{◌≡◌, ◌≤◌, ◌<◌, ℕ, [], List, length, get_or, sym, ◌∙◌, ap, arith}
use Rattle.std.proofs.lemmas.List.{get_or_read}
use Rattle.std.specs.List.{slice_range}
use Rattle.yv_base_tables.specs.InnerParts.{start_of}
use Rattle.yv_base_tables.proofs.ListParts.{part_at, part_past, part_within}
use Rattle.yv_base_tables.proofs.families.Families.at.Goals as goal

pub returns-then-place-len : goal.returns-then-place-len
returns-then-place-len c =
    let ends : List ℕ = c.self.inside.ends.items in
    let numbers : List ℕ = c.self.inside.numbers.items in
    let past : length ends ≤ c.args.place = omega (arith, c.if-place-len.true, c.len.ensures) in
    sym (part_past numbers 0 ends c.args.place past) ∙ ap (λ l. get_or l c.args.place []) c.self.view_is

pub part-requires-clause-order : goal.part-requires-clause-order
part-requires-clause-order c =
    let ends : List ℕ = c.self.inside.ends.items in
    let p : ℕ = c.args.place in
    let within : p < length ends = omega (arith, c.if-place-len.false, c.len.ensures) in
    let bounds = part_within 0 (length c.self.inside.numbers.items) ends p c.self.invariant within in
    let start : c.start-start.result ≡ start_of 0 ends p = c.start-start.ensures ∙ ap (λ l. start_of 0 l p) c.deref.ensures.value in
    let end : c.index-end.result.now ≡ get_or ends p 0 = get_or_read ends p _ within c.index-end.ensures 0 in
    omega (arith, bounds.0, start, end)

pub part-requires-clause-within : goal.part-requires-clause-within
part-requires-clause-within c =
    let ends : List ℕ = c.self.inside.ends.items in
    let p : ℕ = c.args.place in
    let within : p < length ends = omega (arith, c.if-place-len.false, c.len.ensures) in
    let bounds = part_within 0 (length c.self.inside.numbers.items) ends p c.self.invariant within in
    let end : c.index-end.result.now ≡ get_or ends p 0 = get_or_read ends p _ within c.index-end.ensures 0 in
    omega (arith, bounds.1, end, ap length c.deref-2.ensures.value)

pub returns : goal.returns
returns c =
    let ends : List ℕ = c.self.inside.ends.items in
    let numbers : List ℕ = c.self.inside.numbers.items in
    let p : ℕ = c.args.place in
    let within : p < length ends = omega (arith, c.if-place-len.false, c.len.ensures) in
    let start : c.start-start.result ≡ start_of 0 ends p = c.start-start.ensures ∙ ap (λ l. start_of 0 l p) c.deref.ensures.value in
    let end : c.index-end.result.now ≡ get_or ends p 0 = get_or_read ends p _ within c.index-end.ensures 0 in
    c.part.ensures
    ∙ ap (λ l. slice_range l c.start-start.result c.index-end.result.now) c.deref-2.ensures.value
    ∙ ap (λ n. slice_range numbers n c.index-end.result.now) start
    ∙ ap (λ n. slice_range numbers (start_of 0 ends p) n) end
    ∙ sym (part_at numbers 0 ends p within)
    ∙ ap (λ l. get_or l p []) c.self.view_is
