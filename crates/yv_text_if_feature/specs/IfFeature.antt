-- The grammar of an if-feature expression (RFC 7950, sections 7.20.2 and 14), and what it means.
use Rattle.std.proofs.Common.{suc}
use Rattle.std.specs.Prelude.{◌≡◌, ℕ, Bool, not, ◌&&◌, ◌||◌, List, [], ◌∷◌, ◌++◌}
use Rattle.yv_text_if_feature.specs.Tokens.{Token, tokens}
use Rattle.yv_text_if_feature.specs.Tokens as token

-- a condition is a feature's name, or is made of conditions
pub data IfFeature : Type 0 where
  Name : List ℕ → IfFeature
  Not : IfFeature → IfFeature
  And : IfFeature → IfFeature → IfFeature
  Or : IfFeature → IfFeature → IfFeature

-- an expression, a term and a factor in which parentheses nest at most n deep, and the condition
-- that each is
mutual
  -- an expression is terms with `or` between
  pub data IsExpression : ℕ → List Token → IfFeature → Type 0 where
    term : {n : ℕ} {ts : List Token} {c : IfFeature} → IsTerm n ts c → IsExpression n ts c
    either : {n : ℕ} {xs ys ts : List Token} {c d : IfFeature} → IsTerm n xs c → IsExpression n ys d
        → ts ≡ xs ++ token.Or ∷ ys → IsExpression n ts (Or c d)

  -- a term is factors with `and` between
  pub data IsTerm : ℕ → List Token → IfFeature → Type 0 where
    factor : {n : ℕ} {ts : List Token} {c : IfFeature} → IsFactor n ts c → IsTerm n ts c
    both : {n : ℕ} {xs ys ts : List Token} {c d : IfFeature} → IsFactor n xs c → IsTerm n ys d
        → ts ≡ xs ++ token.And ∷ ys → IsTerm n ts (And c d)

  -- a factor is a name, `not` and a factor, or an expression in parentheses
  pub data IsFactor : ℕ → List Token → IfFeature → Type 0 where
    name : {n : ℕ} {word : List ℕ} → IsFactor n (token.Name word ∷ []) (Name word)
    after_not : {n : ℕ} {ts : List Token} {c : IfFeature} → IsFactor n ts c
        → IsFactor n (token.Not ∷ ts) (Not c)
    inner : {n : ℕ} {xs ts : List Token} {c : IfFeature} → IsExpression n xs c
        → ts ≡ token.Open ∷ xs ++ token.Close ∷ [] → IsFactor (suc n) ts c

-- words that are a condition; parentheses nest at most 64 deep
abbrev pub IsIfFeature : List Token → IfFeature → Type 0
IsIfFeature ts c = IsExpression 64 ts c

-- a text spells the condition that its words are
abbrev pub Spells : List ℕ → IfFeature → Type 0
Spells text c = IsIfFeature (tokens text) c

-- the truth of a condition where each name is true or false
abbrev pub truth : (List ℕ → Bool) → IfFeature → Bool
truth names (Name n) = names n
truth names (Not c) = not (truth names c)
truth names (And c d) = truth names c && truth names d
truth names (Or c d) = truth names c || truth names d

-- the names of a condition, in order
abbrev pub names_in : IfFeature → List (List ℕ)
names_in (Name n) = n ∷ []
names_in (Not c) = names_in c
names_in (And c d) = names_in c ++ names_in d
names_in (Or c d) = names_in c ++ names_in d
