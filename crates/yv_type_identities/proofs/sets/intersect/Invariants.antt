use Rattle.yv_type_identities.specs.InnerSets.{has, is_left}
use Rattle.yv_type_identities.proofs.PlaceSets.{Narrowing}
use Rattle.yv_type_identities.proofs.sets.intersect.Given as goal

abbrev pub invariant-loop-identity : goal.invariant-loop-identity
invariant-loop-identity l = Narrowing (is_left l.left) l.identities l.identity-index (has l.both)
