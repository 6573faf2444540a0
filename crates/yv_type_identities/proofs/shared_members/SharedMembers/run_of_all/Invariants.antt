use Rattle.yv_type_identities.proofs.Meeting.{Meets}
use Rattle.yv_type_identities.proofs.shared_members.SharedMembers.run_of_all.Given as goal

abbrev pub invariant-loop-base : goal.invariant-loop-base
invariant-loop-base l = Meets l.self l.key l.base-index l.met
