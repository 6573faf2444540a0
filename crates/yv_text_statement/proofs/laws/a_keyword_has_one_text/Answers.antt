use Rattle.yv_text_statement.proofs.KeywordTexts.{has_text}
use Rattle.yv_text_statement.proofs.laws.a_keyword_has_one_text.Goals as goal

pub returns : goal.returns
returns c = has_text
