use Rattle.yv_type_identities.proofs.SharedMemberList.{part_found}
use Rattle.yv_type_identities.proofs.shared_members.SharedMembers.members.Goals as goal

pub returns-in_ok-between-in-Some-clause-right : goal.returns-in_ok-between-in-Some-clause-right
returns-in_ok-between-in-Some-clause-right c = λ linked cs are all. part_found linked cs c.args.self.now are all c.args.key.now c.in-Some.run' c.in-Some.ensures.known c.in-Some.ensures.met c.in_ok-between-in-Some.field-0 c.in_ok-between-in-Some.ensures.same
