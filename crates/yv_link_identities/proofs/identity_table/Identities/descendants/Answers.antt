use Rattle.std.proofs.Common.{◌≡◌, List, length, refl, sym, ◌∙◌, ap, Some}
use Rattle.std.proofs.lemmas.List.{map-id}
use Rattle.std.proofs.lemmas.Map.Iter.{iter_end}
use Rattle.std.proofs.lemmas.Option.{slice_get_read}
use Rattle.std.specs.List.{slice_get}
use Rattle.yv_link_identities.specs.declared.references.IdentityRef.{IdentityRef}
use Rattle.yv_link_identities.proofs.MeantIdentities.{picking_more, descendants_found}
use Rattle.yv_link_identities.proofs.identity_table.Identities.descendants.Goals as goal

pub loop-node-preserved-in-Continue-branch-2 : goal.loop-node-preserved-in-Continue-branch-2
loop-node-preserved-in-Continue-branch-2 c =
    let refs : List IdentityRef = c.args.self.now.identities.items in
    let found = c.in-Some-get.ensures.lookup in
    let at : slice_get refs c.in-Some-node.node ≡ Some c.in-Some-get.identity.now =
    ap (λ xs. slice_get xs c.in-Some-node.node) (sym c.deref.ensures.value)
    ∙ slice_get_read c.deref.result.now (length c.deref.result.now) c.in-Some-node.node c.in-Some-get.identity.now refl found.3.0 found.1 in
    picking_more refs c.loop-node.yielded _ c.in-Some-node.node c.loop-node.found.items _ c.in-Some-get.identity.now c.loop-node.invariant refl at c.in_ok-push.ensures.items

pub returns : goal.returns
returns c files t =
    let given = c.into_iter-node-iterator.ensures.into_iter_gives in
    let end = iter_end (λ x. x) c.in_ok-below.below.keys c.loop-node.yielded _ _ _ _ given.0 c.loop-node.yielded_by c.in-None.is c.next.ensures.steps in
    descendants_found _ _ c.args.self.now.hierarchy.bases.items c.args.self.now.identities.items _ c.in_ok-below.below _ c.loop-node.yielded _ t.bases t.refs (c.in-Some.ensures.means files t) c.in-Some.ensures.within c.in_ok-below.ensures c.args.self.now.hierarchy.graph given.4 (sym (map-id c.loop-node.yielded) ∙ end.0) c.loop-node.invariant
