-- The predicates in the path of a leafref (RFC 7950, sections 9.9.2 and 14). Each relation also
-- says which names a predicate has, in order.
use Rattle.std.specs.Prelude.{◌≡◌, ℕ, true, List, [], ◌∷◌, ◌++◌, codes}
use Rattle.yv_text_if_feature.specs.Names.{is_name}
use Rattle.yv_text_path.specs.Bytes.{opening_bracket, closing_bracket}
use Rattle.yv_text_path.specs.SpacedTokens.{AreSpaced}

-- names with `/` between
pub data AreNameTokens : List (List ℕ) → List (List ℕ) → Type 0 where
  last_name : {name : List ℕ} → is_name name ≡ true → AreNameTokens (name ∷ []) (name ∷ [])
  more_names : {name : List ℕ} {tokens names : List (List ℕ)} → is_name name ≡ true
      → AreNameTokens tokens names → AreNameTokens (name ∷ codes "/" ∷ tokens) (name ∷ names)

-- `..` and `/`, once or more, and then names with `/` between
pub data AreUpTokens : List (List ℕ) → List (List ℕ) → Type 0 where
  up_once : {tokens names : List (List ℕ)} → AreNameTokens tokens names
      → AreUpTokens (codes ".." ∷ codes "/" ∷ tokens) names
  up_again : {tokens names : List (List ℕ)} → AreUpTokens tokens names
      → AreUpTokens (codes ".." ∷ codes "/" ∷ tokens) names

-- a name, `=`, `current`, `(`, `)`, `/`, and the path up and down from there
pub data AreKeyTokens : List (List ℕ) → List (List ℕ) → Type 0 where
  key : {name : List ℕ} {tokens names : List (List ℕ)} → is_name name ≡ true
      → AreUpTokens tokens names
      → AreKeyTokens
      (name ∷ codes "=" ∷ codes "current" ∷ codes "(" ∷ codes ")" ∷ codes "/" ∷ tokens)
      (name ∷ names)

-- a predicate is `[`, its tokens, perhaps with blanks, and `]`
pub data IsPredicate : List ℕ → List (List ℕ) → Type 0 where
  predicate : {inside text : List ℕ} {tokens names : List (List ℕ)} → AreKeyTokens tokens names
      → AreSpaced tokens inside → text ≡ opening_bracket ∷ inside ++ closing_bracket ∷ []
      → IsPredicate text names

-- predicates one after the other, or none, with no blank between
pub data ArePredicates : List ℕ → List (List ℕ) → Type 0 where
  none : ArePredicates [] []
  more : {first rest text : List ℕ} {names others : List (List ℕ)} → IsPredicate first names
      → ArePredicates rest others → text ≡ first ++ rest → ArePredicates text (names ++ others)
