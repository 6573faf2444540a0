-- Instance-identifiers in JSON (RFC 7951, section 6.11; RFC 7950, sections 9.13 and 14).
use Rattle.std.specs.Prelude.{◌≡◌, ℕ, true, List, [], ◌∷◌, ◌++◌}
use Rattle.yv_text_if_feature.specs.Names.{is_name}
use Rattle.yv_text_path.specs.Bytes.{slash}
use Rattle.yv_text_instance.specs.QualifiedNames.{IsQualifiedName}
use Rattle.yv_text_instance.specs.Predicates.{ArePredicates}

-- steps, or none: each is `/`, a name, perhaps with its module, and its predicates
pub data AreSteps : List ℕ → Type 0 where
  none : AreSteps []
  more : (name : List ℕ) {predicates rest text : List ℕ} → is_name name ≡ true
      → ArePredicates predicates → AreSteps rest
      → text ≡ slash ∷ name ++ (predicates ++ rest) → AreSteps text

-- an instance-identifier is `/`, a name with its module, its predicates, and further steps
pub data IsInstance : List ℕ → Type 0 where
  instance : {name predicates steps text : List ℕ} → IsQualifiedName name
      → ArePredicates predicates → AreSteps steps
      → text ≡ slash ∷ name ++ (predicates ++ steps) → IsInstance text
