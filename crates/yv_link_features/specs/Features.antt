-- The features of files, as they are found and asked for.
use Rattle.std.specs.Prelude.{◌≡◌, ◌⊎◌, ℕ, Bool, false, List, map, slice_index_or}
use Rattle.std.proofs.Common.{inl, inr}
use Rattle.yv_text_if_feature.specs.IfFeature.{IfFeature, Spells}
use Rattle.yv_text_statement.specs.Selection.{ModuleChoice}
use Rattle.yv_link_scopes.specs.Files.{Files, brief_of}
use Rattle.yv_link_scopes.specs.RowList.{rows_of}
use Rattle.yv_link_scopes.specs.Tables.{table_of, first_of}
use Rattle.yv_link_scopes.specs.declared.kind.NameKind.TheVariants.{Feature}
use Rattle.yv_link_features.specs.Meaning.{Meaning, looked_up}
use Rattle.yv_link_features.specs.Value.{Assignment, HasValue, value_of}
use Rattle.yv_link_features.specs.On.{AreOn}
use Rattle.yv_link_features.specs.declared.features.Features.{Features}
use Rattle.yv_text_if_feature.proofs.ConditionSpelling.{spelled_by}

-- those that are marked are on
abbrev pub from_marks : List Bool → Assignment
from_marks marks feature = slice_index_or marks feature false

-- what names mean to the features that were found
abbrev pub meaning_in : Features → Files → Meaning
meaning_in features files =
    looked_up (table_of features.places) (map brief_of files) (rows_of files)

-- which features are on of those that were found
abbrev pub on_in : Features → Assignment
on_in features = from_marks features.on.items

-- they are the features of these files, and those are marked that are on where this is chosen
unfoldable pub AreFeatures : Files → ModuleChoice → Features → Type 0
AreFeatures files choice features =
    (table_of features.places ≡ first_of Feature (rows_of files))
    × AreOn (map brief_of files) (rows_of files) choice (on_in features)

-- what the features that were found tell of an expression in a file is its value by them
abbrev pub Tell : Features → Files → ℕ → List ℕ → Bool → Type 0
Tell features files file text value =
    HasValue (meaning_in features files) (on_in features) file text value

-- a text spells a condition, or none
abbrev pub IsSpelledOrNot : List ℕ → Type 0
IsSpelledOrNot text = ((c : IfFeature) × Spells text c) ⊎ ((c : IfFeature) → Spells text c → ⊥)

-- the value of the condition that a text spells, if it spells one
abbrev pub value_of_text : (IfFeature → Bool) → (text : List ℕ) → IsSpelledOrNot text → Bool
value_of_text value text (inl q) = value q.0
value_of_text value text (inr none) = false

-- the one value that they tell; a text spells a condition or none, as is proved
unfoldable pub truth_of : Features → Files → ℕ → List ℕ → Bool
truth_of features files file text =
    value_of_text (value_of (meaning_in features files) (on_in features) file) text
    (spelled_by text)
