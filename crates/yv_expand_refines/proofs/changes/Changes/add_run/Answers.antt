use Rattle.std.proofs.Common.{◌∙◌, ap}
use Rattle.yv_expand_refines.specs.InnerPlaces.{places_in}
use Rattle.yv_expand_refines.specs.Changes.{ChangesView}
use Rattle.yv_expand_refines.proofs.RunSequences.{run_added}
use Rattle.yv_expand_refines.proofs.changes.Changes.add_run.Goals as goal

pub returns-clause-sequences : goal.returns-clause-sequences
returns-clause-sequences c =
    run_added c.self.inside.runs.items c.push.new.self.items c.args.refines c.self.inside.joints.made.items (places_in c.self.inside.of) c.in_ok-push.ensures.items c.self.invariant
    ∙ ap (λ (x : ChangesView). x.sequences) c.self.view_is
