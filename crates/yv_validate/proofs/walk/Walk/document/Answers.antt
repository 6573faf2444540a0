use Rattle.std.proofs.Common.{◌++◌, [], List, refl, ap, ◌∙◌, arith}
use Rattle.std.specs.List.{flat_map}
use Rattle.serde_json.specs.Data.{object}
use Rattle.serde_json.specs.View.{members_view}
use Rattle.yv_nodes.specs.Link.{link_in}
use Rattle.yv_data_leafrefs.specs.Meetings.{all_met}
use Rattle.yv_data_leafrefs.specs.Place.{Place}
use Rattle.yv_data_leafrefs.specs.References.{lookups_at}
use Rattle.yv_validate.specs.Faults.{faults_at, reference_faults}
use Rattle.yv_data_faults.specs.Flaw.{Flaw}
use Rattle.yv_validate.specs.InnerWalk.{progress_view}
use Rattle.yv_validate.specs.Work.{work_at}
use Rattle.yv_validate.proofs.WalkGrowth.{all_grown}
use Rattle.yv_validate.proofs.Steps.{sum_of_both}
use Rattle.yv_validate.proofs.walk.Walk.document.Goals as goal

pub returns-clause-faults : goal.returns-clause-faults
returns-clause-faults c =
    let k = c.args.self.now.kind in
    let s = c.args.self.now.schema.now in
    let ms = members_view c.args.members.now.entries in
    let start = c.in_ok-progress.ensures in
    let grown = all_grown k s ms (progress_view c.in_ok-progress.progress) (progress_view c.object.new.progress) start.faults start.finds start.meter (c.in_ok-object.ensures.grows [] 0 refl) in
    let walked : List Flaw = flat_map (faults_at k s) (all_met k s (object ms)) in
    c.into_vec.ensures
    ∙ c.in_ok-tell_references.ensures
    ∙ ap (λ (fs : List Flaw). fs ++ reference_faults c.in_ok-paths.paths.items) grown.faults
    ∙ ap (λ (ps : List (List Place)). walked ++ reference_faults ps) (c.in_ok-paths.ensures.tells k ms grown.found)

pub returns-clause-steps : goal.returns-clause-steps
returns-clause-steps c =
    let k = c.args.self.now.kind in
    let s = c.args.self.now.schema.now in
    let ms = members_view c.args.members.now.entries in
    let start = c.in_ok-progress.ensures in
    let grown = all_grown k s ms (progress_view c.in_ok-progress.progress) (progress_view c.object.new.progress) start.faults start.finds start.meter (c.in_ok-object.ensures.grows [] 0 refl) in
    omega (
      arith,
      grown.steps,
      c.in_ok-paths.ensures.steps k ms grown.found,
      sum_of_both (work_at k s) (lookups_at (link_in s.links)) (all_met k s (object ms)),
      c.steps.ensures,
      c.steps.type_inv,
    )
