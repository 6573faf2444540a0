use Rattle.std.proofs.Common.{◌≡◌, sym, ◌∙◌, None, rules}
use Rattle.yv_link_identities.proofs.FirstIdentities.{kept_new}
use Rattle.yv_link_identities.proofs.references.References.keep.Goals as goal

pub returns-in_ok-insert : goal.returns-in_ok-insert
returns-in_ok-insert c = kept_new c.args.self.now.map c.insert.new.self c.args.identity c.args.node (let h : c.get.result ≡ None = search rules in sym c.get.ensures ∙ h) c.in_ok-insert.ensures.updates
