-- What is refused of features: a name that means none, and a feature that depends on itself (RFC
-- 7950, section 7.20.1).
use Rattle.std.specs.Prelude.{◌≡◌, ◌⊎◌, ℕ, ◌&&◌, Bool, true, not, List, length, map}
use Rattle.std.specs.List.{list_all}
use Rattle.yv_text_statement.specs.Order.{Among, Stands, refusal_at}
use Rattle.yv_text_statement.specs.declared.refusal.Refusal.{Refusal}
use Rattle.yv_text_statement.specs.declared.refusal.Code.TheVariants as code
use Rattle.yv_link_scopes.specs.Files.{Files, brief_of}
use Rattle.yv_link_scopes.specs.Rows.{Row}
use Rattle.yv_link_scopes.specs.RowList.{rows_of}
use Rattle.yv_link_features.specs.Meaning.{Meaning, meaning_of, is_if_feature}
use Rattle.yv_link_features.specs.Value.{is_known}
use Rattle.yv_link_features.specs.Depends.{LeadsTo, names_of}

-- a condition one of whose names means no feature
abbrev pub has_unknown : Meaning → Row → Bool
has_unknown means r = is_if_feature r && not (list_all (is_known means r.file) (names_of r))

-- the numbered statement is refused
abbrev pub BadRow : Meaning → List Row → ℕ → Row → Refusal → Type 0
BadRow means rows k r f =
    Stands (has_unknown means r ≡ true) (refusal_at code.UnknownFeature r.file r.head) f
    ⊎ Stands (LeadsTo means rows k k) (refusal_at code.FeatureCycle r.file r.head) f

-- a statement of the files is refused
abbrev pub BadFeatures : Files → Refusal → Type 0
BadFeatures files f =
    Among (rows_of files) (BadRow (meaning_of (map brief_of files) (rows_of files)) (rows_of files))
    (length (rows_of files)) f
