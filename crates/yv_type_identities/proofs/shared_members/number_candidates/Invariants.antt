use Rattle.std.proofs.Common.{◌≡◌, map, take}
use Rattle.yv_values.specs.Identities.{numbered_of}
use Rattle.yv_type_identities.specs.InnerRuns.{numbered_by}
use Rattle.yv_type_identities.proofs.shared_members.number_candidates.Given as goal

abbrev pub invariant-loop-candidate : goal.invariant-loop-candidate
invariant-loop-candidate l = map numbered_of l.members.items ≡ map (numbered_by l.places l.ranks) (take l.candidate-index l.candidates)
