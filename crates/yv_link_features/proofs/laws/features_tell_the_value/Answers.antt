use Rattle.yv_link_features.specs.Features.{meaning_in, on_in, truth_of}
use Rattle.yv_link_features.proofs.AssignmentAgreement.{has_told, told_by}
use Rattle.yv_text_if_feature.proofs.ConditionSpelling.{spelled_by}
use Rattle.yv_link_features.proofs.laws.features_tell_the_value.Goals as goal

pub returns-clause-tells : goal.returns-clause-tells
unfolding truth_of
returns-clause-tells c = λ features files file text. has_told (meaning_in features files) (on_in features) file text (spelled_by text)

pub returns-clause-alone : goal.returns-clause-alone
unfolding truth_of
returns-clause-alone c = λ features files file text value tells.
    told_by c.a_text_spells_one_if_feature.ensures (meaning_in features files) (on_in features) file text value tells (spelled_by text)
