-- Words read one by one: whether their names are known, and which features they mean.
use Rattle.std.proofs.Common.{◌≡◌, ℕ, Bool, true, false, ◌&&◌, List, [], ◌∷◌, ◌++◌, Option, Some, None, unwrap_or, refl, ◌∙◌, ap}
use Rattle.std.specs.List.{list_all}
use Rattle.yv_text_if_feature.specs.Tokens.{Token, names_among, tokens}
use Rattle.yv_text_if_feature.specs.Tokens.{Open, Close, Not, And, Or, Name, Wrong}
use Rattle.yv_text_if_feature.specs.IfFeature.{IfFeature, Spells, names_in}
use Rattle.yv_text_if_feature.specs.Reads.{Agrees}
use Rattle.yv_text_if_feature.specs.Truth.{IsTruth}
use Rattle.yv_link_features.specs.Meaning.{Meaning}
use Rattle.yv_link_features.specs.Value.{Assignment, HasValue, expression, no_expression, is_known, is_on}
use Rattle.yv_link_features.specs.InnerNames.{is_settled, feature_of_word}

and_true : (a : Bool) → (a && true) ≡ a
and_true true = refl
and_true false = refl

and_false : (a : Bool) → (a && false) ≡ false
and_false true = refl
and_false false = refl

and_assoc : (a b c : Bool) → (a && (b && c)) ≡ ((a && b) && c)
and_assoc true b c = refl
and_assoc false b c = refl

module _ (means : Meaning) (file : ℕ) where
  abbrev pub all_known : List Token → Bool
  all_known ts = list_all (is_known means file) (names_among ts)

  -- one more word
  pub known_more : (ts : List Token) (t : Token) → all_known (ts ++ t ∷ []) ≡ (all_known ts && is_settled t (feature_of_word means file t))
  known_more [] (Name n) = and_true (is_known means file n)
  known_more [] t = refl
  known_more (Name n ∷ ts) t = ap (λ b. is_known means file n && b) (known_more ts t) ∙ and_assoc (is_known means file n) (all_known ts) (is_settled t (feature_of_word means file t))
  known_more (Open ∷ ts) t = known_more ts t
  known_more (Close ∷ ts) t = known_more ts t
  known_more (Not ∷ ts) t = known_more ts t
  known_more (And ∷ ts) t = known_more ts t
  known_more (Or ∷ ts) t = known_more ts t
  known_more (Wrong ∷ ts) t = known_more ts t

  abbrev pub names_on : Assignment → List ℕ → Bool
  names_on on name = is_on on (means file name)

  -- a word holds as its name does
  pub agrees : (on : Assignment) (t : Token) (b : Bool) → b ≡ is_on on (feature_of_word means file t) → Agrees (names_on on) t b
  agrees on (Name n) b e = e
  agrees on t b e = tt

  -- what the pass finds is the value
  pub valued : (on : Assignment) (text : List ℕ) (r : Option Bool) (known told value : Bool) → ((c : IfFeature) → Spells text c → names_among (tokens text) ≡ names_in c) → IsTruth (names_on on) (tokens text) r → known ≡ all_known (tokens text) → told ≡ unwrap_or r false → value ≡ (known && told) → HasValue means on file text value
  valued on text None known told value order none k t v = no_expression none (v ∙ ap (λ b. known && b) t ∙ and_false known)
  valued on text (Some b) known told value order (c, h, e) k t v =
      expression c h (v ∙ ap (λ x. x && told) (k ∙ ap (list_all (is_known means file)) (order c h)) ∙ ap (λ x. list_all (is_known means file) (names_in c) && x) (t ∙ e))
