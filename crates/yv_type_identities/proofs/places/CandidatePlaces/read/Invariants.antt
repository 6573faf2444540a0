use Rattle.yv_type_identities.proofs.NumbersByPlace.{PlacedFirst}
use Rattle.yv_type_identities.proofs.places.CandidatePlaces.read.Given as goal

abbrev pub invariant-loop-number : goal.invariant-loop-number
invariant-loop-number l = PlacedFirst l.candidates l.number l.places
