use Rattle.yv_link_identities.proofs.MeantIdentities.{Picking}
use Rattle.yv_link_identities.proofs.identity_table.Identities.descendants.Given as goal

abbrev pub invariant-loop-node : goal.invariant-loop-node
invariant-loop-node l = Picking l.self.identities.items l.yielded l.found.items
