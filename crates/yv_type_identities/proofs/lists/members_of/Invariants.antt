use Rattle.yv_type_identities.proofs.ChosenCandidates.{is_one, id_in}
use Rattle.yv_type_identities.proofs.ListMembers.{Gathering}
use Rattle.yv_type_identities.proofs.lists.members_of.Given as goal

abbrev pub invariant-loop-number : goal.invariant-loop-number
invariant-loop-number l = Gathering l.number-items (is_one l.candidates.list.items) (id_in l.candidates.list.items) l.number-index l.members.items
