-- The predicates of an instance-identifier (RFC 7950, sections 9.13 and 14).
use Rattle.std.specs.Prelude.{◌≡◌, ℕ, Bool, true, false, not, ◌&&◌, ◌==◌, List, [], ◌∷◌, ◌++◌, Contains, codes}
use Rattle.std.specs.List.{list_all}
use Rattle.yv_text_if_feature.specs.Bytes.{is_digit}
use Rattle.yv_text_if_feature.specs.Names.{is_name}
use Rattle.yv_text_path.specs.Bytes.{opening_bracket, closing_bracket}
use Rattle.yv_text_path.specs.SpacedTokens.{AreSpaced}
use Rattle.yv_text_instance.specs.Bytes.{double_quote, single_quote, zero_digit}

-- a position is digits, of which the first is not `0`
abbrev pub is_position : List ℕ → Bool
is_position [] = false
is_position (b ∷ bs) = (is_digit b && not (b == zero_digit)) && list_all is_digit bs

-- a text in single or double quotes, with no such quote in it
pub data IsQuoted : List ℕ → Type 0 where
  single : (inside : List ℕ) → (Contains inside single_quote → ⊥)
      → IsQuoted (single_quote ∷ inside ++ single_quote ∷ [])
  double : (inside : List ℕ) → (Contains inside double_quote → ⊥)
      → IsQuoted (double_quote ∷ inside ++ double_quote ∷ [])

-- a position; or `.` or a name, `=`, and a value in quotes
pub data ArePredicateTokens : List (List ℕ) → Type 0 where
  position : {digits : List ℕ} → is_position digits ≡ true → ArePredicateTokens (digits ∷ [])
  value : {quoted : List ℕ} → IsQuoted quoted
      → ArePredicateTokens (codes "." ∷ codes "=" ∷ quoted ∷ [])
  key : {name quoted : List ℕ} → is_name name ≡ true → IsQuoted quoted
      → ArePredicateTokens (name ∷ codes "=" ∷ quoted ∷ [])

-- a predicate is `[`, its tokens, perhaps with blanks, and `]`
pub data IsPredicate : List ℕ → Type 0 where
  predicate : {inside text : List ℕ} {tokens : List (List ℕ)} → ArePredicateTokens tokens
      → AreSpaced tokens inside → text ≡ opening_bracket ∷ inside ++ closing_bracket ∷ []
      → IsPredicate text

-- predicates of any form, one after the other with no blank between, or none
pub data ArePredicates : List ℕ → Type 0 where
  none : ArePredicates []
  more : {first rest text : List ℕ} → IsPredicate first → ArePredicates rest
      → text ≡ first ++ rest → ArePredicates text
