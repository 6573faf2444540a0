use Rattle.yv_text_if_feature.proofs.ConditionSpelling.{spelled_by}
use Rattle.yv_text_if_feature.proofs.laws.a_text_spells_an_if_feature_or_none.Goals as goal

pub returns : goal.returns
returns c = spelled_by
