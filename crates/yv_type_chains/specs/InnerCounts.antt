-- Only private clauses cite this: counts up to 65, more than which says no more.
use Rattle.std.specs.Prelude.{◌≡◌, ℕ, ◌+◌, min, List, [], ◌∷◌, Option, Some}
use Rattle.std.specs.Option.{option_and_then}
use Rattle.yv_link_scopes.specs.Files.{Briefs}
use Rattle.yv_link_scopes.specs.Rows.{Row}
use Rattle.yv_type_chains.specs.Counts.{Counts}
use Rattle.yv_base_tables.specs.Slots.{at}

abbrev pub cap : ℕ → ℕ
cap n = min n 65

-- a total and the counts of the members, if each has one
abbrev pub total_from : List (Option ℕ) → ℕ → List ℕ → Option ℕ
total_from counts total [] = Some total
total_from counts total (m ∷ ms) =
    option_and_then (λ count. total_from counts (cap (total + count)) ms) (at counts m)

-- this is the count of type k, up to 65, or it has none
pub record IsCount (files : Briefs) (rows : List Row) (k : ℕ) (count : Option ℕ) : Type 0 where
  pub exists : (c : ℕ) → count ≡ Some c → (n : ℕ) × Counts files rows k n × (c ≡ cap n)
  pub all : (n : ℕ) → Counts files rows k n → count ≡ Some (cap n)

-- these are the counts of the types
abbrev pub AreCounts : Briefs → List Row → List (Option ℕ) → Type 0
AreCounts files rows counts = (k : ℕ) → IsCount files rows k (at counts k)
