-- How many units the expansion of statements takes (RFC 7950, sections 7.12 and 7.13).
use Rattle.std.specs.Prelude.{◌≡◌, ℕ, ◌+◌, List, [], ◌∷◌, Some, None, slice_get}
use Rattle.yv_link_scopes.specs.Files.{Briefs}
use Rattle.yv_link_scopes.specs.Rows.{Row}
use Rattle.yv_link_definitions.specs.Refers.{RefersTo}
use Rattle.yv_expand_statements.specs.Units.{units_of}
use Rattle.yv_expand_statements.specs.StatementBlocks.{block_of}

-- The numbered statements take so many units: each what it counts by itself, what the statements of
-- its block take, and, if it uses a grouping, once more what those in the block of that grouping
-- take. A grouping itself takes none. No number is that of a statement from which a grouping is
-- reached that leads to itself.
pub data Weigh (files : Briefs) (rows : List Row) : List ℕ → ℕ → Type 0 where
  nothing : Weigh files rows [] 0
  other : {k m : ℕ} {r : Row} {others : List ℕ} → slice_get rows k ≡ Some r
      → units_of r.head.keyword ≡ None → Weigh files rows others m
      → Weigh files rows (k ∷ others) m
  node : {k own n m : ℕ} {r : Row} {others : List ℕ} → slice_get rows k ≡ Some r
      → units_of r.head.keyword ≡ Some own
      → ((d : ℕ) → RefersTo files rows k d → ⊥) → Weigh files rows (block_of rows k) n
      → Weigh files rows others m
      → Weigh files rows (k ∷ others) (own + n + m)
  uses : {k d own g n m : ℕ} {r : Row} {others : List ℕ} → slice_get rows k ≡ Some r
      → units_of r.head.keyword ≡ Some own
      → RefersTo files rows k d → Weigh files rows (block_of rows d) g
      → Weigh files rows (block_of rows k) n → Weigh files rows others m
      → Weigh files rows (k ∷ others) (own + g + n + m)

-- one statement takes so many
abbrev pub Weighs : Briefs → List Row → ℕ → ℕ → Type 0
Weighs files rows k n = Weigh files rows (k ∷ []) n
