-- What is to be answered of the words of an expression.
use Rattle.std.specs.Prelude.{◌≡◌, ℕ, Bool, List, Option, Some, None}
use Rattle.yv_text_if_feature.specs.Tokens.{Token}
use Rattle.yv_text_if_feature.specs.IfFeature.{IfFeature, IsIfFeature, truth}

-- the truth of the condition that the words are, or nothing where they are none
abbrev pub IsTruth : (List ℕ → Bool) → List Token → Option Bool → Type 0
IsTruth names ts None = (c : IfFeature) → IsIfFeature ts c → ⊥
IsTruth names ts (Some b) = (c : IfFeature) × IsIfFeature ts c × (b ≡ truth names c)
