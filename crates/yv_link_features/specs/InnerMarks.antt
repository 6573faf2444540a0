-- Only private clauses cite this: what is refused and what is on, by what names mean in the code.
use Rattle.std.specs.Prelude.{◌≡◌, ℕ, true, length, Some, slice_get}
use Rattle.yv_text_statement.specs.Order.{Among}
use Rattle.yv_text_statement.specs.declared.refusal.Refusal.{Refusal}
use Rattle.yv_text_statement.specs.Selection.{ModuleChoice}
use Rattle.yv_link_scopes.specs.Views.{files_in, rows_in}
use Rattle.yv_link_scopes.specs.Rows.{Row}
use Rattle.yv_link_features.specs.Meaning.{is_feature}
use Rattle.yv_link_features.specs.Value.{Assignment}
use Rattle.yv_link_features.specs.On.{IsOn}
use Rattle.yv_link_features.specs.Refusals.{BadRow}
use Rattle.yv_link_features.specs.InnerNames.{means_in}
use Rattle.yv_link_features.specs.declared.names.FeatureNames.{FeatureNames}

abbrev pub BadIn : FeatureNames → Refusal → Type 0
BadIn names f = Among (rows_in names.rows.now) (BadRow (means_in names) (rows_in names.rows.now))
    (length (rows_in names.rows.now)) f

abbrev pub AreOnIn : FeatureNames → ModuleChoice → Assignment → Type 0
AreOnIn names choice on =
    (k : ℕ) (r : Row) → slice_get (rows_in names.rows.now) k ≡ Some r → is_feature r ≡ true
    → IsOn (means_in names) (files_in names.rows.now) (rows_in names.rows.now) choice on k r
