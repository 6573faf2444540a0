-- The expansion of the files that are given, and what the augments of modules give.
use Rattle.std.specs.Prelude.{◌≡◌, ℕ, Bool, List, length, map, None, Some, slice_get}
use Rattle.yv_link_scopes.specs.Files.{Files, Briefs, brief_of}
use Rattle.yv_link_scopes.specs.Rows.{Row}
use Rattle.yv_link_scopes.specs.RowList.{rows_of}
use Rattle.yv_expand_statements.specs.StatementBlocks.{given_at, block_of, augments_of}
use Rattle.yv_expand.specs.Tree.{Tree, Item, all_of, count, join, item_list}
use Rattle.yv_expand.specs.Expands.{Expands}

-- a tree for each of the files of this order: what the statements at its top give; a file that
-- isn't given has an empty one
pub record AreTrees (files : Briefs) (rows : List Row) (marks : List Bool) (order : List ℕ)
    (trees : List Tree) : Type 0 where
  pub each : length trees ≡ length order
  pub expands : (n file : ℕ) (t : Tree) → slice_get order n ≡ Some file → slice_get trees n ≡ Some t
      → Expands files rows (given_at files rows marks file) t

-- a tree for each augment of a module: what is in its block
pub record AreAdded (files : Briefs) (rows : List Row) (marks : List Bool)
    (trees : List Tree) : Type 0 where
  pub each : length trees ≡ length (augments_of files rows marks)
  pub expands : (n k : ℕ) (t : Tree) → slice_get (augments_of files rows marks) n ≡ Some k
      → slice_get trees n ≡ Some t
      → Expands files rows (block_of rows k) t

-- these are so many items of the expansion of these files, one file after the other in this order,
-- and after them what the augments of modules give, augment by augment
pub record IsWhole (files : Files) (marks : List Bool) (order : List ℕ) (own : ℕ)
    (items : List Item) : Type 0 where
  pub trees : List Tree
  pub are : AreTrees (map brief_of files) (rows_of files) marks order trees
  pub added : List Tree
  pub are_added : AreAdded (map brief_of files) (rows_of files) marks added
  pub own_are : own ≡ count (all_of trees)
  pub listed : items ≡ item_list None 0 (join (all_of trees) (all_of added))
