use Rattle.yv_text_statement.proofs.KeywordTexts.{has_text}
use Rattle.yv_text_statement.proofs.statement.Statement.is.Goals as goal

pub returns-clause-text : goal.returns-clause-text
returns-clause-text c =
    rw (c.eq.ensures, c.self.invariant, ← c.self.view_is)
    (has_text c.self.inside.keyword.now c.args.keyword)
