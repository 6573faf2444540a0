-- What the files of implemented modules come to when all augments were applied (RFC 7950, sections
-- 7.12, 7.13 and 7.17).
use Rattle.std.specs.Prelude.{◌≡◌, ℕ, List, length, map, None}
use Rattle.yv_text_statement.specs.Selection.{ModuleChoice}
use Rattle.yv_link_scopes.specs.Files.{Files, brief_of}
use Rattle.yv_link_scopes.specs.RowList.{rows_of}
use Rattle.yv_expand.specs.Tree.{Item}
use Rattle.yv_expand.specs.Expansion.{IsWhole}
use Rattle.yv_expand_statements.specs.StatementBlocks.{augments_of}
use Rattle.yv_expand_rounds.specs.Tree.{IsTree, Tree, tree_list}
use Rattle.yv_expand_rounds.specs.Turns.{State}
use Rattle.yv_expand_rounds.specs.declared.row.ItemRow.{ItemRow}
use Rattle.yv_expand_refines.specs.Targets.{RefineMeaning}
use Rattle.yv_expand_augments.specs.Augmentation.{AreAugmented}
use Rattle.yv_expand_augments.specs.RefineMeanings.{refined_all}
use Rattle.yv_expand_uses.specs.Spots.{Whole, labels_of, layout_of, whole}
use Rattle.yv_expand_uses.specs.declared.spot.Spot.{Spot}
use Rattle.yv_expand_changes.specs.Changes.{all_changes}
use Rattle.yv_node_properties.specs.declared.properties.StatedProperties.{StatedProperties}
use Rattle.yv_expand_changes.specs.Properties.{said_of_all}
use Rattle.yv_expand_statements.specs.FileOrder.{marks_of, order_of}

-- the items of an expansion, the augments of modules by file and statement, where these items are
-- when all augments were applied, and the tree that they then make
pub record Final : Type 0 where
  pub items : List Item
  pub augments : List ℕ
  pub state : State
  pub tree : Tree

-- the statements of files with these augments and items
abbrev pub whole_of : Files → Final → Whole
whole_of files f = whole (map brief_of files) (rows_of files) f.augments (length f.items)

-- this is what the files of implemented modules come to
pub record IsFinal (choice : ModuleChoice) (files : Files) (f : Final) : Type 0 where
  pub own : ℕ
  pub expanded : IsWhole files (marks_of choice files) (order_of choice files) own f.items
  pub augments : f.augments
      ≡ augments_of (map brief_of files) (rows_of files) (marks_of choice files)
  pub grafted : AreAugmented (whole_of files f) f.items f.state
  pub is_tree : IsTree (labels_of (layout_of (whole_of files f) f.items).spots) f.state.groups
      f.tree

-- the items of the final tree in order
abbrev pub final_items : Final → List ItemRow
final_items f = tree_list None 1 f.tree

-- what is known of each item before any augment is applied
abbrev pub spots_of : Files → Final → List Spot
spots_of files f = (layout_of (whole_of files f) f.items).spots

-- what each refine means at each copy of its uses
abbrev pub refined_of : Files → Final → List RefineMeaning
refined_of files f = refined_all (whole_of files f) f.items

-- the refines that change each item
abbrev pub changes_of : Files → Final → List (List ℕ)
changes_of files f = all_changes files (spots_of files f) (refined_of files f)

-- what is said of each item
abbrev pub said_of : Files → Final → List StatedProperties
said_of files f = said_of_all files f.items (changes_of files f)
