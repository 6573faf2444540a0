use Rattle.std.proofs.Common.{◌≡◌, ℕ, ◌<◌, ◌++◌, ◌∷◌, List, [], length, get_or, sym, ap, ◌∙◌, subst, arith}
use Rattle.std.proofs.lemmas.List.{get_or_read}
use Rattle.yv_nodes.specs.Rows.{Row, WithinLimit, blank_row}
use Rattle.yv_nodes.specs.InnerAlike.{IsFirst}
use Rattle.yv_nodes.proofs.Firsts.{first_through}
use Rattle.yv_nodes.proofs.nodes.Nodes.push_alike.Goals as goal

pub add-requires-clause-first : goal.add-requires-clause-first
add-requires-clause-first c =
    let rows : List Row = c.self.inside.nodes.items in
    let firsts : List ℕ = c.self.inside.firsts.items in
    let node : Row = c.share_with.new.self in
    let same : rows ≡ c.args.self.now.rows = ap (λ (b : WithinLimit). b.rows) c.self.view_is in
    let lt : c.args.earlier.0 < length rows = omega (arith, c.requires.earlier, ap (length {A = Row}) same) in
    let known : c.args.earlier.0 < length firsts = omega (arith, lt, c.self.invariant.2.each) in
    subst (λ (rs : List Row). IsFirst (rs ++ node ∷ []) (length rs) c.index-first.result.now) same
    (first_through rows firsts node c.args.earlier.0 c.index-first.result.now c.self.invariant.2 lt
    (get_or_read firsts c.args.earlier.0 c.index-first.result.now known c.index-first.ensures 0)
    (c.share_with.ensures.said c.if-share_with.true ∙ ap (λ (r : Row). r.label.defined) (get_or_read rows c.args.earlier.0 c.index.result.now lt c.index.ensures blank_row)))
