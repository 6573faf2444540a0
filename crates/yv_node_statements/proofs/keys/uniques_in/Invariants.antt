use Rattle.std.proofs.Common.{◌≡◌, ◌++◌, drop, map}
use Rattle.yv_link_scopes.specs.Files.{Files}
use Rattle.yv_node_paths.specs.LeafPaths.{AreLeafPaths}
use Rattle.yv_node_content.specs.Definition.{paths_in}
use Rattle.yv_node_statements.specs.Definitions.{uniques_in}
use Rattle.yv_node_statements.proofs.keys.uniques_in.Given as goal

-- with those of the statements behind, these are all
abbrev pub invariant-loop-child : goal.invariant-loop-child
invariant-loop-child l = (files : Files) → AreLeafPaths files l.paths
    → map paths_in l.uniques.items ++ uniques_in files l.file (drop l.child-index l.child-items) ≡ uniques_in files l.file l.child-items
