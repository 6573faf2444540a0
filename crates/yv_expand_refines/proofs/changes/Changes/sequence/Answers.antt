use Rattle.std.proofs.Common.{ap}
use Rattle.yv_expand_refines.specs.InnerPlaces.{places_in}
use Rattle.yv_expand_refines.specs.Changes.{ChangesView}
use Rattle.yv_expand_refines.proofs.RunSequences.{had, items_of}
use Rattle.yv_expand_refines.proofs.changes.Changes.sequence.Goals as goal

pub returns-clause-within : goal.returns-clause-within
returns-clause-within c =
    had _ c.self.inside.joints.made.items (places_in c.self.inside.of) c.args.item (items_of c.self.inside.runs.items) c.args.self.now.sequences c.get.result c.self.invariant
    (ap (λ (x : ChangesView). x.sequences) c.self.view_is) c.get.ensures
