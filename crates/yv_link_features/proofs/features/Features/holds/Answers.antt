use Rattle.std.proofs.Common.{List, Bool, map, subst}
use Rattle.yv_link_scopes.specs.Files.{brief_of}
use Rattle.yv_link_scopes.specs.RowList.{rows_of}
use Rattle.yv_link_scopes.specs.Views.{lent_in}
use Rattle.yv_link_scopes.specs.Tables.{Table}
use Rattle.yv_text_if_feature.proofs.ConditionSpelling.{spelled_by}
use Rattle.yv_link_features.specs.Meaning.{looked_up}
use Rattle.yv_link_features.specs.Features.{AreFeatures, from_marks, meaning_in, truth_of}
use Rattle.yv_link_features.specs.Value.{HasValue}
use Rattle.yv_link_features.proofs.AssignmentAgreement.{told_by}
use Rattle.yv_link_features.proofs.features.Features.holds.Goals as goal

pub returns-clause-truth : goal.returns-clause-truth
unfolding truth_of
returns-clause-truth c =
    let files = lent_in c.args.rows.now in
    let has = subst (λ (on : List Bool). HasValue (meaning_in c.args.self.now files) (from_marks on) c.args.file c.args.text.now c.value.result) c.deref.ensures.value c.value.ensures in
    told_by c.a_text_spells_one_if_feature.ensures (meaning_in c.args.self.now files) (from_marks c.args.self.now.on.items) c.args.file c.args.text.now c.value.result has (spelled_by c.args.text.now)

pub returns-clause-holds : goal.returns-clause-holds
unfolding AreFeatures
returns-clause-holds c = λ choice are.
    let files = lent_in c.args.rows.now in
    let has = subst (λ (on : List Bool). HasValue (meaning_in c.args.self.now files) (from_marks on) c.args.file c.args.text.now c.value.result) c.deref.ensures.value c.value.ensures in
    record {
      on = from_marks c.args.self.now.on.items;
      are_on = are.1;
      has_value = subst (λ (table : Table). HasValue (looked_up table (map brief_of files) (rows_of files)) (from_marks c.args.self.now.on.items) c.args.file c.args.text.now c.value.result) are.0 has;
    }
