-- The features that are on, and which expressions hold (RFC 7950, sections 5.6.1, 7.20.1 and
-- 7.20.2).
use Rattle.std.specs.Prelude.{◌≡◌, ◌↔◌, ℕ, ◌==◌, ◌&&◌, Bool, true, List, [], map, Option, Some, None, IsTrue, slice_get}
use Rattle.yv_text_statement.specs.Selection.{ModuleChoice, is_supported}
use Rattle.yv_link_scopes.specs.Files.{Files, Brief, Briefs, brief_of}
use Rattle.yv_link_scopes.specs.Rows.{Row, name_in}
use Rattle.yv_link_scopes.specs.RowList.{rows_of}
use Rattle.yv_link_features.specs.Meaning.{Meaning, meaning_of, is_feature, is_if_feature}
use Rattle.yv_link_features.specs.Value.{Assignment, HasValue}

-- the name of the module to which a file belongs
abbrev pub module_name_in : Option Brief → List ℕ
module_name_in None = []
module_name_in (Some f) = f.module_name

-- the feature of a statement is one of those of its file's module that are supported
abbrev pub has_support : Briefs → ModuleChoice → Row → Bool
has_support files choice r =
    is_supported choice (module_name_in (slice_get files r.file)) (name_in r)

-- a statement is a condition of the numbered one
abbrev pub is_if_feature_of : ℕ → Row → Bool
is_if_feature_of number q = is_if_feature q && (q.scope == number)

-- each condition of a numbered statement is true in its file, where this says which expressions are
-- true in which files
abbrev pub AllHoldBy : (IsTrueIn : (file : ℕ) → (text : List ℕ) → Type 0) → List Row → ℕ → Type 0
AllHoldBy IsTrueIn rows number =
    (i : ℕ) (q : Row) → slice_get rows i ≡ Some q → is_if_feature_of number q ≡ true
    → IsTrueIn q.file (name_in q)

-- the same by the value of expressions
abbrev pub AllHold : Meaning → List Row → Assignment → ℕ → Type 0
AllHold means rows on = AllHoldBy (λ file text. HasValue means on file text true) rows

-- a feature is on exactly where it is supported and its conditions hold
abbrev pub IsOn : Meaning → Briefs → List Row → ModuleChoice → Assignment → ℕ → Row → Type 0
IsOn means files rows choice on number r =
    IsTrue (on number) ↔ ((has_support files choice r ≡ true) × AllHold means rows on number)

-- the features that are on: an assignment that agrees with itself
abbrev pub AreOn : Briefs → List Row → ModuleChoice → Assignment → Type 0
AreOn files rows choice on =
    (k : ℕ) (r : Row) → slice_get rows k ≡ Some r → is_feature r ≡ true
    → IsOn (meaning_of files rows) files rows choice on k r

-- the truth of an if-feature expression in one of the files
pub record Holds (files : Files) (choice : ModuleChoice) (file : ℕ) (text : List ℕ)
    (value : Bool) : Type 0 where
  pub on : Assignment
  pub are_on : AreOn (map brief_of files) (rows_of files) choice on
  pub has_value : HasValue (meaning_of (map brief_of files) (rows_of files)) on file text value
