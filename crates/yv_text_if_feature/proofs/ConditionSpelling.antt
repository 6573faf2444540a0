-- Each text spells a condition, or none.
use Rattle.std.proofs.Common.{◌⊎◌, inl, inr, ℕ, Bool, true, false, List, [], Option, Some, None, refl}
use Rattle.yv_text_if_feature.specs.Tokens.{tokens}
use Rattle.yv_text_if_feature.specs.IfFeature.{IfFeature, Spells}
use Rattle.yv_text_if_feature.specs.State.{empty, ends}
use Rattle.yv_text_if_feature.specs.Truth.{IsTruth}
use Rattle.yv_text_if_feature.proofs.Passes.{told}

-- by the truth that the pass finds where no name holds
spelled_where : (text : List ℕ) (truth : Option Bool) → IsTruth (λ _. false) (tokens text) truth → ((c : IfFeature) × Spells text c) ⊎ ((c : IfFeature) → Spells text c → ⊥)
spelled_where text None h = inr h
spelled_where text (Some b) h = inl (h.0, h.1)

pub spelled_by : (text : List ℕ) → ((c : IfFeature) × Spells text c) ⊎ ((c : IfFeature) → Spells text c → ⊥)
spelled_by text = spelled_where text (ends (λ _. false) true empty [] (tokens text)) (told (λ _. false) (tokens text) _ refl)
