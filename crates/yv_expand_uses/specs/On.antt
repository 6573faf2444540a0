-- Which items are there by their conditions, and by those of what gave them (RFC 7950, sections
-- 7.13, 7.17 and 7.20.2).
use Rattle.std.specs.Prelude.{◌≡◌, ℕ, ◌&&◌, Bool, true, false, List, if◌then◌else◌, Option, Some, None, length, slice_get}
use Rattle.yv_link_scopes.specs.Rows.{Row}
use Rattle.yv_expand_statements.specs.Origin.{number_of}
use Rattle.yv_expand.specs.Tree.{Item}
use Rattle.yv_base_graph.specs.Marks.{is_marked}
use Rattle.yv_expand_statements.specs.Kinds.{is_uses}
use Rattle.yv_expand_statements.specs.StatementBlocks.{is_augment}
use Rattle.yv_expand_uses.specs.declared.spot.Spot.{Spot}

-- an item that isn't a `uses` is on; one that is, by this mark
abbrev pub uses_on : Option Spot → Bool → Bool
uses_on None mark = true
uses_on (Some s) mark = if is_uses s.label.kind then mark else true

-- what is in a uses is there where the uses is; what is below a node asks the node where it is in
-- the final tree
abbrev pub above_on : List Spot → (marks : List Bool) → Option ℕ → Bool
above_on spots marks None = true
above_on spots marks (Some p) = uses_on (slice_get spots p) (is_marked marks p)

-- a block that isn't an augment's is on; one that is, by the mark of its statement
abbrev pub block_on : (statements : ℕ → Bool) → (block : ℕ) → Option Row → Bool
block_on statements block None = true
block_on statements block (Some r) = if is_augment r then statements block else true

-- what an augment gives is there where the conditions of the augment hold
abbrev pub augment_on : List Row → (statements : ℕ → Bool) → Option Row → Bool
augment_on rows statements None = true
augment_on rows statements (Some r) = block_on statements r.scope (slice_get rows r.scope)

-- The marks of items: an item is there where the conditions of its statement and of the refines
-- that change it hold, as `own` tells, and those of what gave it, where `statements` tells whether
-- those of a numbered statement hold.
pub record AreOn (rows : List Row) (spots : List Spot) (items : List Item)
    (statements own : ℕ → Bool) (marks : List Bool) : Type 0 where
  pub each : length marks ≡ length items
  pub at : (i : ℕ) (x : Item) → slice_get items i ≡ Some x → is_marked marks i
      ≡ (own i && (above_on spots marks x.parent
      && augment_on rows statements (slice_get rows (number_of x.origin))))
