-- How many plain types the values of a type may have, unions opened (RFC 7950, section 9.12).
use Rattle.std.specs.Prelude.{◌≡◌, ℕ, ◌+◌, ◌<◌, true, false, List, [], ◌∷◌, Some, slice_get}
use Rattle.yv_link_scopes.specs.Files.{Briefs}
use Rattle.yv_link_scopes.specs.Rows.{Row, name_in}
use Rattle.yv_link_definitions.specs.BuiltIn.{is_built_in}
use Rattle.yv_link_definitions.specs.Refers.{is_type}
use Rattle.yv_type_chains.specs.Types.{Follows, is_leafref, is_union, types_in}

mutual
  -- a leafref has none, since its values are its target's; a union has those of its members, a
  -- derived type those of the type that it follows, and any other type is one
  pub data Counts (files : Briefs) (rows : List Row) : ℕ → ℕ → Type 0 where
    leafref : {k : ℕ} {r : Row} → slice_get rows k ≡ Some r → is_leafref r ≡ true
        → Counts files rows k 0
    union : {k n : ℕ} {r : Row} → slice_get rows k ≡ Some r → is_union r ≡ true
        → CountAll files rows (types_in rows k) n → Counts files rows k n
    plain : {k : ℕ} {r : Row} → slice_get rows k ≡ Some r → is_type r ≡ true
        → is_built_in (name_in r) ≡ true → is_leafref r ≡ false → is_union r ≡ false
        → Counts files rows k 1
    through_typedef : {k j n : ℕ} → Follows files rows k j → Counts files rows j n
        → Counts files rows k n

  -- the sum of several types' counts
  pub data CountAll (files : Briefs) (rows : List Row) : List ℕ → ℕ → Type 0 where
    none : CountAll files rows [] 0
    more : {m a b n : ℕ} {ms : List ℕ} → Counts files rows m a → CountAll files rows ms b
        → n ≡ a + b → CountAll files rows (m ∷ ms) n

-- the values of type k may have more than 64 types
abbrev pub HasTooMany : Briefs → List Row → ℕ → Type 0
HasTooMany files rows k = (n : ℕ) × Counts files rows k n × (64 < n)
