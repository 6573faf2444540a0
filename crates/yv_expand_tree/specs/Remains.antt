-- The nodes that are left of the final tree (RFC 7950, sections 7.13, 7.17 and 7.20.2).
use Rattle.std.specs.Prelude.{◌≡◌, Bool, List}
use Rattle.yv_link_scopes.specs.Files.{Files}
use Rattle.yv_link_scopes.specs.RowList.{rows_of}
use Rattle.yv_expand.specs.Tree.{Nodes}
use Rattle.yv_expand.specs.Tree as nodes
use Rattle.yv_expand_rounds.specs.Tree.{Tree, none, item}
use Rattle.yv_expand_augments.specs.Remains.{is_left, remains}
use Rattle.yv_base_graph.specs.Marks.{is_marked}
use Rattle.yv_expand_uses.specs.On.{AreOn}
use Rattle.yv_expand_statements.specs.Truth.{Truth}
use Rattle.yv_expand_changes.specs.IfFeatures.{item_marks, statement_marks}
use Rattle.yv_expand_tree.specs.Final.{Final, changes_of, spots_of}

-- the items of a tree as nodes, each with the number of its item
abbrev pub nodes_of : Tree → Nodes
nodes_of none = nodes.none
nodes_of (item i below behind) = nodes.item i (nodes_of below) (nodes_of behind)

-- these are the nodes that are left: the items of the final tree that are there by their conditions
-- and by those of what gave them, as all nodes above them are; a uses isn't a node
pub record AreLeft (truth : Truth) (files : Files) (f : Final) (left_nodes : Nodes) : Type 0 where
  pub marks : List Bool
  pub on : AreOn (rows_of files) (spots_of files f) f.items
      (is_marked (statement_marks truth files))
      (is_marked (item_marks (statement_marks truth files) (spots_of files f) (changes_of files f)))
      marks
  pub are : left_nodes ≡ nodes_of (remains (is_left (spots_of files f) marks) f.tree)
