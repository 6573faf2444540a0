-- Words are a condition exactly where there is a truth to tell.
use Rattle.std.proofs.Common.{◌↔◌, ℕ, Bool, false, IsTrue, List, Option, Some, None, is_some, refl}
use Rattle.std.proofs.lemmas.Bool.{false≢true}
use Rattle.yv_text_if_feature.specs.Tokens.{Token}
use Rattle.yv_text_if_feature.specs.Tokens.{Open, Close, Not, And, Or, Name, Wrong}
use Rattle.yv_text_if_feature.specs.IfFeature.{IfFeature, IsIfFeature}
use Rattle.yv_text_if_feature.specs.Reads.{Agrees}
use Rattle.yv_text_if_feature.specs.Truth.{IsTruth}

-- where no name holds, a word may be said not to
pub none_agrees : (t : Token) → Agrees (λ _. false) t false
none_agrees Open = tt
none_agrees Close = tt
none_agrees Not = tt
none_agrees And = tt
none_agrees Or = tt
none_agrees (Name n) = refl
none_agrees Wrong = tt

pub decided : (names : List ℕ → Bool) (ts : List Token) (r : Option Bool) → IsTruth names ts r → IsTrue (is_some r) ↔ ((c : IfFeature) × IsIfFeature ts c)
decided names ts None h = (λ e. absurd (false≢true e), λ p. absurd (h p.0 p.1))
decided names ts (Some b) h = (λ e. (h.0, h.1), λ p. refl)
