use Rattle.yv_type_identities.proofs.KeyLists.{again_found}
use Rattle.yv_type_identities.proofs.identities.IdentityLists.find_made.Goals as goal

pub returns-in_ok-copy-clause-right : goal.returns-in_ok-copy-clause-right
returns-in_ok-copy-clause-right c = λ linked are.
    again_found linked c.args.self.now.found.items c.deref.result.now c.in-Some-get.found.now c.in-Some.place.now c.args.key.now c.deref-2.result.now c.in_ok-copy.field-0 c.deref.ensures.value c.in-Some-get.ensures.lookup.3.0 c.in-Some-get.ensures.lookup.1 c.deref-2.ensures.value (c.is_same.ensures c.if-is_same.true) c.in_ok-copy.ensures.same are.found
