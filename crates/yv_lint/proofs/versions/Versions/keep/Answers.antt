use Rattle.std.proofs.Common.{sym, ◌∙◌}
use Rattle.yv_lint.proofs.VersionTable.{keep_new, none_of}
use Rattle.yv_lint.proofs.versions.Versions.keep.Goals as goal

pub returns-in_ok-insert : goal.returns-in_ok-insert
returns-in_ok-insert c = keep_new c.args.self.now.map c.insert.new.self c.args.name.now c.args.is_newer (none_of _ (sym c.contains_key.ensures ∙ c.if-not-contains_key.true)) c.in_ok-insert.ensures.updates
