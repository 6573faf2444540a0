use Rattle.yv_expand.proofs.FileConformance.{file_spared}
use Rattle.yv_expand.proofs.conformance_laws.what_is_not_refused_fits.Goals as goal

pub returns : goal.returns
returns c = λ x t clear.
    file_spared c.a_text_spells_an_if_feature_or_none.ensures c.a_text_is_a_path_or_none.ensures x t clear
