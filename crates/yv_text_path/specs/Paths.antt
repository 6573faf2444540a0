-- The paths of leafrefs (RFC 7950, sections 9.9.2 and 14). Each relation also says what a path is
-- without its predicates, and which names they have, in order.
use Rattle.std.specs.Prelude.{◌≡◌, ℕ, true, List, ◌∷◌, ◌++◌}
use Rattle.yv_text_if_feature.specs.Bytes.{dot}
use Rattle.yv_text_if_feature.specs.Names.{is_name}
use Rattle.yv_text_path.specs.Bytes.{slash}
use Rattle.yv_text_path.specs.Predicates.{ArePredicates}

-- names with `/` between; after each there may be predicates, with no blank before them
pub data Descends : List ℕ → List ℕ → List (List ℕ) → Type 0 where
  last : {name predicates text : List ℕ} {names : List (List ℕ)} → is_name name ≡ true
      → ArePredicates predicates names → text ≡ name ++ predicates → Descends text name names
  more : (name : List ℕ) {predicates rest bare text : List ℕ} {names others : List (List ℕ)}
      → is_name name ≡ true → ArePredicates predicates names → Descends rest bare others
      → text ≡ name ++ (predicates ++ slash ∷ rest)
      → Descends text (name ++ slash ∷ bare) (names ++ others)

-- `../`, once or more, and what descends
pub data IsRelativePath : List ℕ → List ℕ → List (List ℕ) → Type 0 where
  once : {text bare : List ℕ} {names : List (List ℕ)} → Descends text bare names
      → IsRelativePath (dot ∷ dot ∷ slash ∷ text) (dot ∷ dot ∷ slash ∷ bare) names
  again : {text bare : List ℕ} {names : List (List ℕ)} → IsRelativePath text bare names
      → IsRelativePath (dot ∷ dot ∷ slash ∷ text) (dot ∷ dot ∷ slash ∷ bare) names

-- a path is `/` and what descends, or a relative path
pub data IsPath : List ℕ → List ℕ → List (List ℕ) → Type 0 where
  absolute : {text bare : List ℕ} {names : List (List ℕ)} → Descends text bare names
      → IsPath (slash ∷ text) (slash ∷ bare) names
  relative : {text bare : List ℕ} {names : List (List ℕ)} → IsRelativePath text bare names
      → IsPath text bare names
