use Rattle.std.proofs.Common.{map, subst}
use Rattle.yv_link_scopes.specs.Files.{brief_of}
use Rattle.yv_link_scopes.specs.RowList.{rows_of}
use Rattle.yv_link_scopes.specs.Tables.{Table}
use Rattle.yv_text_if_feature.proofs.ConditionSpelling.{spelled_by}
use Rattle.yv_link_features.specs.Meaning.{looked_up}
use Rattle.yv_link_features.specs.Features.{AreFeatures, from_marks, meaning_in, truth_of}
use Rattle.yv_link_features.specs.Value.{HasValue}
use Rattle.yv_link_features.proofs.AssignmentAgreement.{has_told}
use Rattle.yv_link_features.proofs.laws.features_tell_what_holds.Goals as goal

pub returns : goal.returns
unfolding AreFeatures truth_of
returns c = λ files choice features are file text. record {
  on = from_marks features.on.items;
  are_on = are.1;
  has_value = subst (λ (table : Table). HasValue (looked_up table (map brief_of files) (rows_of files)) (from_marks features.on.items) file text (truth_of features files file text)) are.0 (has_told (meaning_in features files) (from_marks features.on.items) file text (spelled_by text));
}
