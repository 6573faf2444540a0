use Rattle.std.proofs.lemmas.List.{get_or_default}
use Rattle.yv_link_identities.proofs.FirstIdentities.{places_more}
use Rattle.yv_link_identities.proofs.references.References.read.Goals as goal

pub loop-node-preserved : goal.loop-node-preserved
loop-node-preserved c =
    places_more c.args.identities.now c.loop-node.node _ _ _ c.loop-node-test.true (get_or_default c.args.identities.now c.loop-node.node _ _ c.loop-node-test.true) c.loop-node.invariant c.in_ok-keep.ensures
