-- Only private clauses cite this: from each statement to those whose units it takes.
use Rattle.std.specs.Prelude.{◌≡◌, ◌↔◌, ℕ, ◌+◌, ◌⊎◌, List, [], ◌∷◌, ◌++◌, length, Option, Some, None, slice_get, slice_index_or}
use Rattle.std.specs.declared.vec.Vec.{Vec}
use Rattle.std.specs.declared.alloc.Global.{Global}
use Rattle.yv_link_scopes.specs.Files.{Briefs}
use Rattle.yv_link_scopes.specs.Rows.{Row}
use Rattle.yv_link_definitions.specs.Refers.{RefersTo}
use Rattle.yv_expand_statements.specs.Units.{units_of, saturate}
use Rattle.yv_expand_statements.specs.StatementBlocks.{block_of}
use Rattle.yv_expand_statements.specs.Weigh.{Weigh}
use Rattle.yv_expand.specs.InnerLists.{Lists, part_place, placed_from}

-- a statement that counts uses a grouping
abbrev pub IsUsed : Briefs → List Row → ℕ → ℕ → Type 0
IsUsed files rows k d = (r : Row) × (own : ℕ) × (slice_get rows k ≡ Some r)
    × (units_of r.head.keyword ≡ Some own) × RefersTo files rows k d

abbrev pub list_of : Option ℕ → List ℕ
list_of None = []
list_of (Some d) = d ∷ []

-- those in its block that count, and the grouping that it uses
abbrev pub Takes : Briefs → List Row → ℕ → List ℕ → Type 0
Takes files rows k items =
    (used : Option ℕ) × (items ≡ placed_from part_place k 0 rows ++ list_of used)
    × ((d : ℕ) → (used ≡ Some d) ↔ IsUsed files rows k d)

pub record AreSteps (files : Briefs) (rows : List Row) (g : Lists) : Type 0 where
  pub each : length g ≡ length rows
  pub takes : (k : ℕ) (v : Vec ℕ Global) → slice_get g k ≡ Some v → Takes files rows k v.items

-- what a statement takes by its uses
abbrev pub Brings : Briefs → List Row → ℕ → ℕ → Type 0
Brings files rows k g = ((d : ℕ) × RefersTo files rows k d × Weigh files rows (block_of rows d) g)
    ⊎ (((d : ℕ) → RefersTo files rows k d → ⊥) × (g ≡ 0))

-- the worth of a statement that counts is what it takes, that of another what the statements in its
-- block take
abbrev pub WorthBy : Briefs → List Row → ℕ → Option ℕ → ℕ → Type 0
WorthBy files rows k None n = Weigh files rows (block_of rows k) n
WorthBy files rows k (Some own) n = (g : ℕ) × (b : ℕ) × Brings files rows k g
    × Weigh files rows (block_of rows k) b × (n ≡ own + g + b)

-- the value of a statement is its worth, saturated
abbrev pub IsSettled : Briefs → List Row → List ℕ → ℕ → Type 0
IsSettled files rows values k =
    (r : Row) × (n : ℕ) × (slice_get rows k ≡ Some r)
    × WorthBy files rows k (units_of r.head.keyword) n × (slice_index_or values k 0 ≡ saturate n)

abbrev pub AreSettled : Briefs → List Row → List ℕ → Type 0
AreSettled files rows values =
    (k : ℕ) (r : Row) → slice_get rows k ≡ Some r → IsSettled files rows values k
