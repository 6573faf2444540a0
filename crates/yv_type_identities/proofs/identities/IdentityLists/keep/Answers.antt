use Rattle.yv_type_identities.proofs.KeyLists.{one_found}
use Rattle.yv_type_identities.proofs.identities.IdentityLists.keep.Goals as goal

pub returns-in_err-insert : goal.returns-in_err-insert
returns-in_err-insert c = λ linked are is. record {
  bases = are.bases;
  candidates = are.candidates;
  shared = are.shared;
  found = one_found linked c.args.self.now.found.items c.push.new.self.items _ c.in_ok-push.ensures.items is are.found;
}

pub returns : goal.returns
returns c = λ linked are is. record {
  bases = are.bases;
  candidates = are.candidates;
  shared = are.shared;
  found = one_found linked c.args.self.now.found.items c.push.new.self.items _ c.in_ok-push.ensures.items is are.found;
}
