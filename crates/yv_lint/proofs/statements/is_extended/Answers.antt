use Rattle.std.proofs.Common.{◌∙◌}
use Rattle.yv_link_scopes.proofs.Keywords.{extended_by_colon}
use Rattle.yv_lint.proofs.statements.is_extended.Goals as goal

pub returns : goal.returns
returns c = c.is.ensures.kind ∙ extended_by_colon c.args.statement.now.head.keyword
