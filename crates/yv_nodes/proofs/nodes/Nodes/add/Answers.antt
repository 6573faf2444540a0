use Rattle.std.proofs.Common.{◌≡◌, ℕ, ◌+◌, ◌-◌, ◌≤◌, List, [], ◌∷◌, ◌++◌, length, length-append, take, vec_len, arith, ap, ◌∙◌, sym, subst, refl}
use Rattle.std.proofs.lemmas.List.{take-append-le, take_all}
use Rattle.yv_nodes.specs.Rows.{Row, StandBehind, WithinLimit, rank}
use Rattle.yv_nodes.specs.InnerAlike.{AreFirsts, IsFirst}
use Rattle.yv_nodes.proofs.Firsts.{behind_more, firsts_more}
use Rattle.yv_nodes.proofs.nodes.Nodes.add.Goals as goal

pub invariant_of-self-in-Err : goal.invariant_of-self-in-Err
invariant_of-self-in-Err c =
    let rows : List Row = c.self.inside.nodes.items in
    let firsts : List ℕ = c.self.inside.firsts.items in
    let first : ℕ = c.args.first in
    let grown : c.push.new.self.items ≡ firsts ++ first ∷ [] = c.in_ok-push.ensures.items in
    let long : vec_len c.push.new.self - 1 ≡ length firsts = omega (arith, c.push.new.self.ok.0, ap length grown, length-append firsts (first ∷ [])) in
    let popped : c.pop.new.self.items ≡ firsts = c.pop.ensures.rest ∙ ap (λ (k : ℕ). take k c.push.new.self.items) long ∙ ap (take (length firsts)) grown
    ∙ take-append-le (length firsts) firsts (first ∷ []) (omega arith) ∙ take_all (length firsts) firsts (omega arith) in
    let same : rows ≡ c.push-2.new.self.items = sym c.in-Err.ensures.items in
    subst (λ (fs : List ℕ). (length c.push-2.new.self.items ≤ c.self.inside.limit) × StandBehind c.push-2.new.self.items × AreFirsts c.push-2.new.self.items fs) (sym popped)
    (subst (λ (rs : List Row). (length rs ≤ c.self.inside.limit) × StandBehind rs × AreFirsts rs firsts) same c.self.invariant)

pub invariant_of-self-in_default : goal.invariant_of-self-in_default
invariant_of-self-in_default c =
    let rows : List Row = c.self.inside.nodes.items in
    let firsts : List ℕ = c.self.inside.firsts.items in
    let node : Row = c.args.node in
    let same : c.args.self.now.rows ≡ rows = ap (λ (b : WithinLimit). b.rows) (sym c.self.view_is) in
    let room : length rows + 1 ≤ c.self.inside.limit = omega (arith, c.requires.room, ap (length {A = Row}) same, ap (λ (b : WithinLimit). b.limit) c.self.view_is) in
    let within : rank node.parent ≤ length rows = subst (λ (rs : List Row). rank node.parent ≤ length rs) same c.requires.parent in
    let first : IsFirst (rows ++ node ∷ []) (length rows) c.args.first = subst (λ (rs : List Row). IsFirst (rs ++ node ∷ []) (length rs) c.args.first) same c.requires.first in
    let now : List Row = rows ++ node ∷ [] in
    subst (λ (fs : List ℕ). (length c.push-2.new.self.items ≤ c.self.inside.limit) × StandBehind c.push-2.new.self.items × AreFirsts c.push-2.new.self.items fs) (sym c.in_ok-push.ensures.items)
    (subst (λ (rs : List Row). (length rs ≤ c.self.inside.limit) × StandBehind rs × AreFirsts rs (firsts ++ c.args.first ∷ [])) (sym c.in_default.ensures.items)
    (omega (arith, room, length-append rows (node ∷ [])), behind_more rows node c.self.invariant.1 within, firsts_more rows firsts node c.args.first c.self.invariant.2 first))
