use Rattle.std.proofs.Common.{◌↔◌, ◌<◌, IsTrue, List, ℕ, length, ◌∙◌, subst, arith}
use Rattle.yv_text_statement.specs.Selection.{selected_of}
use Rattle.yv_link_scopes.specs.Views.{files_in, rows_in}
use Rattle.yv_link_scopes.specs.Rows.{row}
use Rattle.yv_link_features.specs.Features.{from_marks}
use Rattle.yv_link_features.specs.InnerGraph.{AllTrue}
use Rattle.yv_link_features.specs.InnerNames.{means_in}
use Rattle.yv_link_features.proofs.AssignmentAgreement.{on_told}
use Rattle.yv_link_features.proofs.Lists.{mapped_at, mapped_len, numbers_read}
use Rattle.yv_link_features.proofs.names.FeatureNames.is_on.Goals as goal

pub returns : goal.returns
returns c = λ r at _.
    let means = means_in c.args.self.now in
    let rows = rows_in c.args.self.now.rows.now in
    let here : c.args.number < length c.entries.result.now = omega (arith, c.requires.within, mapped_len row _ _ c.entries.ensures) in
    let listed : c.args.number < length c.args.lists.now = omega (arith, c.requires.within, c.requires.lists.each) in
    on_told means (files_in c.args.self.now.rows.now) rows (selected_of c.args.selection.now) (from_marks c.args.on.now) c.args.lists.now c.args.number (row c.index-entries-number.result) c.has_support-supported.result c.all_hold-hold.result c.both.result
    c.requires.lists
    (mapped_at row _ _ c.args.number c.index-entries-number.result c.entries.ensures here c.index-entries-number.is)
    c.has_support-supported.ensures
    (subst (λ (xs : List ℕ). IsTrue c.all_hold-hold.result ↔ AllTrue means rows (from_marks c.args.on.now) xs) (c.deref.ensures.value ∙ numbers_read c.args.lists.now c.args.number c.index-lists-number.result listed c.index-lists-number.is) c.all_hold-hold.ensures)
    c.both.ensures r at
