use Rattle.std.proofs.Common.{List, Option, subst}
use Rattle.std.specs.Prelude.{IfSome}
use Rattle.yv_values.specs.Identities.{Id}
use Rattle.yv_type_identities.specs.Identities.{IsFound}
use Rattle.yv_type_identities.proofs.identities.IdentityLists.find.Goals as goal

pub returns-in-Some-2-clause-right : goal.returns-in-Some-2-clause-right
returns-in-Some-2-clause-right c = λ linked are.
    let told = c.in_ok-members.ensures.right linked c.args.self.now.candidates.list.items (are.shared c.in-Some.shared c.in-Some.is) are.candidates in
    subst (λ (o : Option (List Id)). IfSome o (IsFound linked c.args.key.now)) c.in-Some-2.is told
