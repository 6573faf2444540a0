-- Only private clauses cite this: items by the block or the file in which they are, and what they
-- give.
use Rattle.std.specs.Prelude.{◌≡◌, ℕ, zero, suc, ◌<◌, ◌==◌, ◌&&◌, not, Bool, true, false, List, [], ◌∷◌, ◌++◌, length, map, if◌then◌else◌, Option, Some, None, slice_get, slice_index_or}
use Rattle.std.specs.Option.{is_some}
use Rattle.std.specs.declared.vec.Vec.{Vec}
use Rattle.std.specs.declared.alloc.Global.{Global}
use Rattle.yv_link_scopes.specs.Files.{Briefs, module_file_at}
use Rattle.yv_link_scopes.specs.Rows.{Row}
use Rattle.yv_link_definitions.specs.Refers.{RefersTo}
use Rattle.yv_expand_statements.specs.StatementBlocks.{block_of, numbers_from, is_node_or_uses, is_operation, is_input, is_output, is_augment, those, part, input_of, output_of}
use Rattle.yv_expand_statements.specs.declared.origin.Origin.{Origin}
use Rattle.yv_expand_statements.specs.declared.origin.Origin.TheVariants.{Statement, Input, Output}
use Rattle.yv_expand_statements.specs.Units.{units_of}
use Rattle.yv_expand.specs.Tree.{Tree, Item, none, item}
use Rattle.yv_expand.specs.Expands.{blocks_of}
use Rattle.yv_expand.specs.declared.blocks.Blocks.{Blocks}
use Rattle.yv_expand.specs.declared.lists.WantedStatements.{WantedStatements}
use Rattle.yv_expand.specs.declared.lists.WantedStatements.TheVariants.{Items, Inputs, Outputs, Augments, Counted}

abbrev pub Lists : Type 0
Lists = List (Vec ℕ Global)

-- whether a statement counts units, by itself or with what is in it
abbrev pub counts : Row → Bool
counts r = is_some (units_of r.head.keyword)

-- whether a statement is one of those that are wanted
abbrev pub is_wanted : WantedStatements → Row → Bool
is_wanted Items r = is_node_or_uses r
is_wanted Inputs r = is_input r
is_wanted Outputs r = is_output r
is_wanted Augments r = is_augment r
is_wanted Counted r = counts r

-- the block in which a statement is that passes a test
abbrev pub block_place : (Row → Bool) → ℕ → Row → Option ℕ
block_place test k r = if test r && not (r.scope == k) then Some r.scope else None

-- the file at whose top a statement is that passes a test
abbrev pub top_place : (Row → Bool) → Briefs → ℕ → Row → Option ℕ
top_place test files k r =
    if test r && ((r.scope == module_file_at files r.file) && not (r.scope == k)) then Some r.file
    else None

abbrev pub is_place : ℕ → Option ℕ → Bool
is_place p None = false
is_place p (Some q) = q == p

-- the statements of a place, from this number on
abbrev pub placed_from : (ℕ → Row → Option ℕ) → ℕ → ℕ → List Row → List ℕ
placed_from place p n rows = numbers_from (λ k r. is_place p (place k r)) n rows

abbrev pub AreEmpty : Lists → Type 0
AreEmpty lists = (p : ℕ) (v : Vec ℕ Global) → slice_get lists p ≡ Some v → v.items ≡ []

-- for each of so many places its statements
pub record ArePlaced (place : ℕ → Row → Option ℕ) (rows : List Row) (count : ℕ)
    (lists : Lists) : Type 0 where
  pub each : length lists ≡ count
  pub items : (p : ℕ) (v : Vec ℕ Global) → slice_get lists p ≡ Some v
      → v.items ≡ placed_from place p 0 rows

abbrev pub numbers_in : Option (Vec ℕ Global) → List ℕ
numbers_in None = []
numbers_in (Some v) = v.items

-- those of the list of a number; none past the last
abbrev pub numbers_at : Lists → ℕ → List ℕ
numbers_at lists n = numbers_in (slice_get lists n)

-- those at the top of a file that are listed, if it is given
abbrev pub top_at : Lists → List Bool → ℕ → List ℕ
top_at lists marks file = if slice_index_or marks file false then numbers_at lists file else []

-- those of the first files
abbrev pub tops_before : Lists → List Bool → ℕ → List ℕ
tops_before lists marks zero = []
tops_before lists marks (suc file) = tops_before lists marks file ++ top_at lists marks file

-- for each statement the items in its block, the inputs and outputs there, and the items in the
-- blocks of the augments there
pub record AreBlocks (rows : List Row) (blocks : Blocks) : Type 0 where
  pub own : (k : ℕ) → k < length rows
      → numbers_at blocks.own.items k ≡ those is_node_or_uses rows (block_of rows k)
  pub inputs : (k : ℕ) → k < length rows
      → numbers_at blocks.inputs.items k ≡ those is_input rows (block_of rows k)
  pub outputs : (k : ℕ) → k < length rows
      → numbers_at blocks.outputs.items k ≡ those is_output rows (block_of rows k)
  pub given : (k : ℕ) → k < length rows
      → numbers_at blocks.given.items k
      ≡ those is_node_or_uses rows (blocks_of rows (block_of rows k))

-- what numbered statements are as origins, and the items among them
abbrev pub origins : List ℕ → List Origin
origins numbers = map Statement numbers

abbrev pub items_among : List Row → List ℕ → List Origin
items_among rows numbers = origins (those is_node_or_uses rows numbers)

-- what is below an item, in order: below an operation its two parts, below a uses what it copies
-- and what its augments give, below another statement the items of its block, and below a part that
-- isn't written nothing
pub data StandBelow (files : Briefs) (rows : List Row) : Origin → List Origin → Type 0 where
  below_node : {k : ℕ} {r : Row} → slice_get rows k ≡ Some r → is_operation r ≡ false
      → ((d : ℕ) → RefersTo files rows k d → ⊥)
      → StandBelow files rows (Statement k) (items_among rows (block_of rows k))
  below_operation : {k : ℕ} {r : Row} → slice_get rows k ≡ Some r → is_operation r ≡ true
      → StandBelow files rows (Statement k)
      (part (Input k) (input_of rows k) ∷ part (Output k) (output_of rows k) ∷ [])
  below_uses : {k d : ℕ} {r : Row} → slice_get rows k ≡ Some r → is_operation r ≡ false
      → RefersTo files rows k d
      → StandBelow files rows (Statement k)
      (items_among rows (block_of rows d)
      ++ items_among rows (blocks_of rows (block_of rows k)))
  below_input : {k : ℕ} → StandBelow files rows (Input k) []
  below_output : {k : ℕ} → StandBelow files rows (Output k) []

-- the items give this tree
pub data Give (files : Briefs) (rows : List Row) : List Origin → Tree → Type 0 where
  no_more : Give files rows [] none
  one_more : {origin : Origin} {inner others : List Origin} {below behind : Tree}
      → StandBelow files rows origin inner
      → Give files rows inner below → Give files rows others behind
      → Give files rows (origin ∷ others) (item origin below behind)

abbrev pub item_at : Option ℕ → Origin → Item
item_at parent origin = record { origin = origin; parent = parent }

-- the items of one parent, in order
abbrev pub items_below : Option ℕ → List Origin → List Item
items_below parent these = map (item_at parent) these
