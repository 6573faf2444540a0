-- The value of an if-feature expression where each feature is on or off (RFC 7950, section 7.20.2).
use Rattle.std.specs.Prelude.{◌≡◌, ℕ, Bool, false, ◌&&◌, List, Option, Some, None, is_some}
use Rattle.std.specs.List.{list_all}
use Rattle.yv_text_if_feature.specs.IfFeature.{IfFeature, Spells, names_in, truth}
use Rattle.yv_link_features.specs.Meaning.{Meaning}

-- which numbered features are on
abbrev pub Assignment : Type 0
Assignment = ℕ → Bool

-- a feature is meant, and it is on
abbrev pub is_on : Assignment → Option ℕ → Bool
is_on on None = false
is_on on (Some feature) = on feature

-- a name means a feature in a file
abbrev pub is_known : Meaning → ℕ → List ℕ → Bool
is_known means file name = is_some (means file name)

-- all names of a condition mean features, and it holds
abbrev pub value_of : Meaning → Assignment → ℕ → IfFeature → Bool
value_of means on file c =
    list_all (is_known means file) (names_in c) && truth (λ name. is_on on (means file name)) c

-- the value of a text in a file: that of the condition that it spells; where it spells none, it is
-- false
pub data HasValue (means : Meaning) (on : Assignment) (file : ℕ) (text : List ℕ)
    (value : Bool) : Type 0 where
  expression : (c : IfFeature) → Spells text c → value ≡ value_of means on file c
      → HasValue means on file text value
  no_expression : ((c : IfFeature) → Spells text c → ⊥) → value ≡ false
      → HasValue means on file text value
