use Rattle.std.proofs.Common.{◌≡◌, Bool, if◌then◌else◌, length, sym, ◌∙◌, ap, arith}
use Rattle.yv_link_scopes.specs.Views.{rows_in}
use Rattle.yv_expand_uses.specs.AugmentOrder.{augments_giving}
use Rattle.yv_expand_uses.specs.Spots.{copies_of}
use Rattle.yv_expand_uses.proofs.Bounds.{ordinal_within}
use Rattle.yv_expand_uses.proofs.plan.Plan.used_group.Goals as goal

pub given_group-requires-clause-few : goal.given_group-requires-clause-few
given_group-requires-clause-few c =
    let rows = rows_in c.args.self.now.rows.now in
    let spot = c.args.spot.now in
    let count : copies_of rows spot ≡ length (augments_giving rows spot.statement) = ap (λ (b : Bool). if b then length (augments_giving rows spot.statement) else 0) c.requires.uses in
    let l = ordinal_within rows spot.statement _ (sym c.is_giving.ensures ∙ c.if-is_giving.true) in
    let m = c.requires.few in
    omega (arith, l, m, count)
