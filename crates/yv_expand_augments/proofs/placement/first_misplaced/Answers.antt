use Rattle.std.proofs.Common.{◌≡◌, ℕ, length, subst, arith}
use Rattle.std.proofs.lemmas.Option.{slice_get-get_or}
use Rattle.yv_text_statement.specs.Order.{Among, IsLeast}
use Rattle.yv_link_scopes.specs.Views.{rows_in}
use Rattle.yv_expand_augments.specs.Placement.{IsMisplaced}
use Rattle.yv_expand_augments.proofs.MisplacementRefusals.{misplaced_more}
use Rattle.yv_expand_augments.proofs.placement.first_misplaced.Goals as goal

pub loop-row-preserved : goal.loop-row-preserved
loop-row-preserved c =
    misplaced_more (rows_in c.args.rows.now) c.args.spots.now c.args.tree.now c.loop-row.row-index _ c.loop-row.least c.placement_refusal_at.result c.lesser-least.result
    (slice_get-get_or c.args.tree.now c.loop-row.row-index _ c.loop-row-test.true) c.placement_refusal_at.ensures c.lesser-least.ensures c.loop-row.invariant

pub returns : goal.returns
returns c =
    let all : c.loop-row.row-index ≡ length c.args.tree.now = omega (arith, c.loop-row-test.false, c.loop-row.auto.row-index-end) in
    subst (λ (n : ℕ). IsLeast (Among c.args.tree.now (λ place x. IsMisplaced (rows_in c.args.rows.now) c.args.spots.now x) n) c.loop-row.least) all c.loop-row.invariant
