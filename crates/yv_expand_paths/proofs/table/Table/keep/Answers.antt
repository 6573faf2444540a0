use Rattle.std.proofs.Common.{◌≡◌, ◌∙◌, ℕ, Some, ap, subst, arith}
use Rattle.std.specs.BTreeMap.Entry.{map_with_value}
use Rattle.std.specs.Option.{unwrap_or}
use Rattle.yv_expand_paths.specs.InnerNames.{lookup_in, keep_first}
use Rattle.yv_expand_paths.proofs.NameTableGrowth.{kept}
use Rattle.yv_expand_paths.proofs.table.Table.keep.Goals as goal

pub returns-clause-tells : goal.returns-clause-tells
returns-clause-tells c = λ n.
    let h = c.in_ok-self.ensures in
    let w : ℕ = c.or_insert-given.result.now in
    let new = map_with_value c.in_ok-self.field-0 w in
    let given : w ≡ unwrap_or (lookup_in c.args.self.now.map c.as_bytes.result.now) c.args.number =
    c.or_insert-given.ensures.value ∙ ap (λ o. unwrap_or o c.args.number) h.value in
    subst (λ m. lookup_in m n ≡ keep_first (lookup_in c.args.self.now.map) c.args.name.now c.args.number n) {x = new} {y = c.self-3-1.given.0} (grind arith)
    (kept c.args.self.now.map new c.as_bytes.result c.args.number w given (h.update.0 w) n
    ∙ ap (λ m. keep_first (lookup_in c.args.self.now.map) m c.args.number n) c.as_bytes.ensures.value)

pub returns-clause-number : goal.returns-clause-number
returns-clause-number c =
    let h = c.in_ok-self.ensures in
    let w : ℕ = c.or_insert-given.result.now in
    let new = map_with_value c.in_ok-self.field-0 w in
    subst (λ m. lookup_in m c.args.name.now ≡ Some w) {x = new} {y = c.self-3-1.given.0} (grind arith)
    (subst (λ n. lookup_in new n ≡ Some w) c.as_bytes.ensures.value ((h.update.0 w).1))
