use Rattle.std.proofs.Common.{ℕ, Vec, Global, ap, ◌∙◌}
use Rattle.std.proofs.lemmas.Option.{slice_get-get_or}
use Rattle.yv_link_scopes.specs.Views.{lent_in}
use Rattle.yv_expand_changes.specs.InnerLists.{lists_of}
use Rattle.yv_expand_changes.proofs.RefineRuns.{nothing_from, reads_more, reads_same}
use Rattle.yv_expand_changes.proofs.runs.read_runs.Goals as goal
use Rattle.yv_expand_changes.proofs.runs.read_runs.Goals.{in-Some+in_ok-push_at, in_default}

pub loop-refine_target-init : goal.loop-refine_target-init
loop-refine_target-init c =
    nothing_from (lent_in c.args.rows.now) c.args.ways.now _ 0 c.args.ways.now c.in_ok-runs.ensures.each c.in_ok-runs.ensures.none

pub loop-refine_target-preserved : goal.loop-refine_target-preserved
loop-refine_target-preserved c =
    let files = lent_in c.args.rows.now in
    let ways = c.args.ways.now in
    let refine_targets = c.args.refine_targets.now in
    let k = c.loop-refine_target.refine_target-index in
    elim c.match-changed_path.branch [
      | in-Some+in_ok-push_at w ↦ reads_more files ways refine_targets k w.in-Some.path _ (lists_of c.loop-refine_target.runs.items) (lists_of c.match-changed_path.runs.items) (slice_get-get_or refine_targets k _ c.loop-refine_target-test.true) w.in-Some.ensures c.loop-refine_target.invariant
          (ap (λ (v : Vec (Vec ℕ Global) Global). lists_of v.items) w.runs-is ∙ w.in_ok-push_at.ensures)
      | in_default w ↦ reads_same files ways refine_targets k _ (lists_of c.loop-refine_target.runs.items) (lists_of c.match-changed_path.runs.items) (slice_get-get_or refine_targets k _ c.loop-refine_target-test.true) w.in_default.ensures c.loop-refine_target.invariant
          (ap (λ (v : Vec (Vec ℕ Global) Global). lists_of v.items) w.runs-is)
    ]
