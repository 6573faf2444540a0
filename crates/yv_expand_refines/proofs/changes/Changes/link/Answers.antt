use Rattle.std.proofs.Common.{◌≡◌, None, Some, ap, rules}
use Rattle.std.specs.List.{slice_get}
use Rattle.yv_expand_refines.specs.InnerPlaces.{places_in}
use Rattle.yv_expand_refines.specs.Changes.{ChangesView}
use Rattle.yv_expand_refines.proofs.RunSequences.{items_of, linked_in, none_in}
use Rattle.yv_expand_refines.proofs.changes.Changes.link.Goals as goal

pub returns-in-Some-clause-sequence : goal.returns-in-Some-clause-sequence
returns-in-Some-clause-sequence c =
    let at : slice_get c.self.inside.joints.made.items c.args.sequence ≡ Some c.in-Some.joint = search rules in
    linked_in _ c.self.inside.joints.made.items (places_in c.self.inside.of) c.args.sequence c.in-Some.joint (items_of c.self.inside.runs.items) c.args.self.now.runs c.args.self.now.sequences c.run.result.now
    c.self.invariant at (ap (λ (x : ChangesView). x.runs) c.self.view_is) (ap (λ (x : ChangesView). x.sequences) c.self.view_is) c.run.ensures

pub returns-in-None-clause-sequence : goal.returns-in-None-clause-sequence
returns-in-None-clause-sequence c =
    let at : slice_get c.self.inside.joints.made.items c.args.sequence ≡ None = search rules in
    none_in c.self.inside.joints.made.items c.args.sequence (items_of c.self.inside.runs.items) c.args.self.now.sequences at (ap (λ (x : ChangesView). x.sequences) c.self.view_is)
