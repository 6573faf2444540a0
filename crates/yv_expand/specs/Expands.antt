-- The expansion of numbered statements (RFC 7950, sections 7.12 to 7.15 and 7.17).
use Rattle.std.specs.Prelude.{◌≡◌, ℕ, true, false, List, [], ◌∷◌, Some, slice_get}
use Rattle.std.specs.List.{flat_map}
use Rattle.yv_link_scopes.specs.Files.{Briefs}
use Rattle.yv_link_scopes.specs.Rows.{Row}
use Rattle.yv_link_definitions.specs.Refers.{RefersTo}
use Rattle.yv_expand_statements.specs.StatementBlocks.{block_of, is_operation, is_node_or_uses, is_augment, those, part, part_block, input_of, output_of}
use Rattle.yv_expand_statements.specs.declared.origin.Origin.TheVariants.{Statement, Input, Output}
use Rattle.yv_expand.specs.Tree.{Tree, none, item, join}

-- what is in the blocks of the augments among numbered statements, augment by augment
abbrev pub blocks_of : List Row → List ℕ → List ℕ
blocks_of rows numbers = flat_map (block_of rows) (those is_augment rows numbers)

-- The numbered statements, in order, give these items: each is one, above what is in its block; an
-- operation above its input and then its output, written or not, each above what is in it; and a
-- uses above a copy of what is in the block of its grouping and, after that, what is in the blocks
-- of its augments. Statements that aren't items give none.
pub data Expands (files : Briefs) (rows : List Row) : List ℕ → Tree → Type 0 where
  nothing : Expands files rows [] none
  other : {k : ℕ} {r : Row} {others : List ℕ} {t : Tree} → slice_get rows k ≡ Some r
      → is_node_or_uses r ≡ false → Expands files rows others t
      → Expands files rows (k ∷ others) t
  node : {k : ℕ} {r : Row} {others : List ℕ} {below behind : Tree} → slice_get rows k ≡ Some r
      → is_node_or_uses r ≡ true → is_operation r ≡ false
      → ((d : ℕ) → RefersTo files rows k d → ⊥) → Expands files rows (block_of rows k) below
      → Expands files rows others behind
      → Expands files rows (k ∷ others) (item (Statement k) below behind)
  operation : {k : ℕ} {r : Row} {others : List ℕ} {input output behind : Tree}
      → slice_get rows k ≡ Some r → is_operation r ≡ true
      → Expands files rows (part_block rows (input_of rows k)) input
      → Expands files rows (part_block rows (output_of rows k)) output
      → Expands files rows others behind → Expands files rows (k ∷ others)
      (item (Statement k) (item (part (Input k) (input_of rows k)) input
      (item (part (Output k) (output_of rows k)) output none)) behind)
  uses : {k d : ℕ} {r : Row} {others : List ℕ} {copies given behind : Tree}
      → slice_get rows k ≡ Some r → is_node_or_uses r ≡ true → RefersTo files rows k d
      → Expands files rows (block_of rows d) copies
      → Expands files rows (blocks_of rows (block_of rows k)) given
      → Expands files rows others behind
      → Expands files rows (k ∷ others) (item (Statement k) (join copies given) behind)
