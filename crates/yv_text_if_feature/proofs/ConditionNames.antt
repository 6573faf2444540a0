-- The names of a condition stand in order among the words.
use Rattle.std.proofs.Common.{◌≡◌, ℕ, List, [], ◌∷◌, ◌++◌, append-nil, ◌∙◌, ap, refl}
use Rattle.yv_text_if_feature.specs.Tokens.{Token, names_among}
use Rattle.yv_text_if_feature.specs.Tokens.{Open, Close, Not, And, Or, Name, Wrong}
use Rattle.yv_text_if_feature.specs.IfFeature.{IfFeature, IsExpression, IsTerm, IsFactor, term, either, factor, both, name, after_not, inner, names_in}

along : (xs ys : List Token) → names_among (xs ++ ys) ≡ names_among xs ++ names_among ys
along [] ys = refl
along (Open ∷ xs) ys = along xs ys
along (Close ∷ xs) ys = along xs ys
along (Not ∷ xs) ys = along xs ys
along (And ∷ xs) ys = along xs ys
along (Or ∷ xs) ys = along xs ys
along (Name n ∷ xs) ys = ap (λ ns. n ∷ ns) (along xs ys)
along (Wrong ∷ xs) ys = along xs ys

mutual
  of_factor : {n : ℕ} {ts : List Token} {c : IfFeature} → IsFactor n ts c → names_among ts ≡ names_in c
  of_factor name = refl
  of_factor (after_not h) = of_factor h
  of_factor (inner {n} {xs} h same) = ap names_among same ∙ along xs (Close ∷ []) ∙ append-nil (names_among xs) ∙ of_expression h

  of_term : {n : ℕ} {ts : List Token} {c : IfFeature} → IsTerm n ts c → names_among ts ≡ names_in c
  of_term (factor h) = of_factor h
  of_term (both {n} {xs} {ys} h g same) = ap names_among same ∙ along xs (And ∷ ys) ∙ rw (of_factor h, of_term g) refl

  pub of_expression : {n : ℕ} {ts : List Token} {c : IfFeature} → IsExpression n ts c → names_among ts ≡ names_in c
  of_expression (term h) = of_term h
  of_expression (either {n} {xs} {ys} h g same) = ap names_among same ∙ along xs (Or ∷ ys) ∙ rw (of_term h, of_expression g) refl
