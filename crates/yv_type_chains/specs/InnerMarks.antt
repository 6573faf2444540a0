-- Only private clauses cite this: parts of what is wrong with a type, and marks by number.
use Rattle.std.specs.Prelude.{◌≡◌, ◌↔◌, ℕ, Bool, true, List, Some, codes, slice_get}
use Rattle.yv_base_graph.specs.Marks.{is_marked}
use Rattle.yv_link_scopes.specs.Files.{Briefs}
use Rattle.yv_link_scopes.specs.Rows.{Row, name_in}
use Rattle.yv_type_chains.specs.Kinds.{is_of_built_in, is_foreign, needs}
use Rattle.yv_type_chains.specs.Types.{HasKind, is_union}
use Rattle.yv_type_chains.specs.Refusals.{IsChild, is_derived}

-- those are marked in whose block a statement is of which P holds
abbrev pub AreMarked : (ℕ → Row → Type 0) → List Row → List Bool → Type 0
AreMarked P rows marks =
    (k : ℕ) → (is_marked marks k ≡ true) ↔ ((c : ℕ) × (s : Row) × IsChild rows k c s × P k s)

-- statement k passes a test
abbrev pub Passes : (Row → Bool) → List Row → ℕ → Type 0
Passes test rows k = (r : Row) × (slice_get rows k ≡ Some r) × (test r ≡ true)

-- type k names a typedef, and no derived type takes the substatement
abbrev pub IsInherited : List Row → ℕ → List ℕ → Type 0
IsInherited rows k word = Passes is_derived rows k × (is_of_built_in word ≡ true)

-- the built-in type to which type k leads doesn't take it
abbrev pub IsForeign : Briefs → List Row → ℕ → List ℕ → Type 0
IsForeign files rows k word =
    (kind : List ℕ) × HasKind files rows k kind × (is_foreign kind word ≡ true)

-- the statement is one that type k needs
abbrev pub Meets : List Row → ℕ → Row → Type 0
Meets rows k s = Passes (λ r. needs (name_in r) s.head.keyword) rows k

abbrev pub IsJoined : Briefs → List Row → ℕ → Row → Type 0
IsJoined files rows k r = HasKind files rows k (codes "leafref") × Passes is_union rows r.scope
