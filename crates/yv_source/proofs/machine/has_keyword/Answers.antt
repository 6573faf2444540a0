use Rattle.std.proofs.Common.{sym, ◌∙◌}
use Rattle.yv_source.proofs.KnownKeywords.{known_is_keyword}
use Rattle.yv_source.proofs.machine.has_keyword.Goals as goal

pub returns : goal.returns
returns c = sym (known_is_keyword c.args.statement.now.head.keyword (sym c.is.ensures.kind ∙ c.if-is.false) (sym c.is-else-is.ensures.kind ∙ c.if-is-2.false))
