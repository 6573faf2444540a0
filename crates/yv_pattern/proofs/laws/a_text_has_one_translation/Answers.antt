use Rattle.yv_pattern.proofs.One.{translates_one}
use Rattle.yv_pattern.proofs.laws.a_text_has_one_translation.Goals as goal

pub returns : goal.returns
returns c = translates_one
