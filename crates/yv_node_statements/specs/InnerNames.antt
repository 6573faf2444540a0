-- Only private clauses cite this: what the `key` and `unique` statements of a block name, and the
-- path of its leafref.
use Rattle.std.specs.Prelude.{◌≡◌, ℕ, map}
use Rattle.yv_text_statement.specs.Tree.{Forest, trees}
use Rattle.yv_link_scopes.specs.Files.{Files}
use Rattle.yv_node_content.specs.Definition.{paths_in}
use Rattle.yv_node_statements.specs.declared.keys.BlockPaths.{BlockPaths}
use Rattle.yv_node_statements.specs.Definitions.{keys_in, path_in, uniques_in}

-- these are what the statements of a block of a file name
pub record AreNamed (files : Files) (file : ℕ) (block : Forest) (names : BlockPaths) : Type 0 where
  pub keys : names.keys.value ≡ keys_in files file block
  pub uniques : map paths_in names.uniques.value.items ≡ uniques_in files file (trees block)
  pub path : names.path.value.items ≡ path_in files file block
