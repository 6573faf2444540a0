use Rattle.yv_text_if_feature.specs.Tokens.{tokens}
use Rattle.yv_text_if_feature.proofs.One.{one_condition}
use Rattle.yv_text_if_feature.proofs.laws.a_text_spells_one_if_feature.Goals as goal

pub returns : goal.returns
returns c = λ text. one_condition (tokens text)
