use Rattle.std.proofs.Common.{◌≡◌, ℕ, true, None, Some, Err, length, ap, subst}
use Rattle.std.specs.List.{slice_get}
use Rattle.yv_text_statement.specs.Order.{Among, IsLeast}
use Rattle.yv_text_statement.specs.declared.refusal.Stop.TheVariants.{Fault}
use Rattle.yv_text_statement.specs.Selection.{selected_of}
use Rattle.yv_link_scopes.specs.Views.{files_in, rows_in}
use Rattle.yv_link_scopes.specs.Rows.{Row}
use Rattle.yv_link_scopes.specs.Tables.{Table}
use Rattle.yv_link_features.specs.Meaning.{is_feature, looked_up}
use Rattle.yv_link_features.specs.Refusals.{BadRow}
use Rattle.yv_link_features.specs.Features.{AreFeatures, from_marks}
use Rattle.yv_link_features.specs.On.{IsOn}
use Rattle.yv_link_features.proofs.features.Features.read.Goals as goal

pub returns-in-Ok-clause-clear : goal.returns-in-Ok-clause-clear
returns-in-Ok-clause-clear c =
    let files = files_in c.args.rows.now in
    let rows = rows_in c.args.rows.now in
    subst (λ (t : Table). IsLeast (Among rows (BadRow (looked_up t files rows) rows) (length rows)) None) c.in_ok-places.ensures c.in-Ok.ensures.clear

pub returns-in-Ok-clause-features : goal.returns-in-Ok-clause-features
unfolding AreFeatures
returns-in-Ok-clause-features c =
    let files = files_in c.args.rows.now in
    let rows = rows_in c.args.rows.now in (
      c.in_ok-places.ensures,
      subst (λ (t : Table). (k : ℕ) (r : Row) → slice_get rows k ≡ Some r → is_feature r ≡ true → IsOn (looked_up t files rows) files rows (selected_of c.args.selection.now) (from_marks c.in-Ok.on.items) k r) c.in_ok-places.ensures c.in-Ok.ensures.on,
    )

pub returns-clause-refusal : goal.returns-clause-refusal
returns-clause-refusal c = λ r e.
    let files = files_in c.args.rows.now in
    let rows = rows_in c.args.rows.now in
    let same : c.in-Err.stop ≡ Fault r = cc in
    subst (λ (t : Table). IsLeast (Among rows (BadRow (looked_up t files rows) rows) (length rows)) (Some r)) c.in_ok-places.ensures (c.in-Err.ensures.refusal r (ap Err same))
