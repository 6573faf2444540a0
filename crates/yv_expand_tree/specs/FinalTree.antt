-- What is kept of a final tree.
use Rattle.std.specs.Prelude.{◌≡◌, ℕ, ◌+◌, ◌-◌, ◌&&◌, nat_lt, List, [], ◌∷◌, length, if◌then◌else◌, Option, Some, None, slice_get, slice_index_or}
use Rattle.yv_text_statement.specs.Selection.{ModuleChoice}
use Rattle.yv_link_scopes.specs.Files.{Files}
use Rattle.yv_expand.specs.Tree.{Item, Node, Nodes, item_list}
use Rattle.yv_expand_statements.specs.declared.origin.Origin.{Origin}
use Rattle.yv_expand_statements.specs.declared.origin.Origin.TheVariants.{Statement}
use Rattle.yv_expand_rounds.specs.Turns.{State, target_of}
use Rattle.yv_expand_rounds.specs.declared.label.Label.{Label}
use Rattle.yv_expand_refines.specs.Changes.{ChangesView, each}
use Rattle.yv_expand_uses.specs.Spots.{labels_of}
use Rattle.yv_expand_uses.specs.declared.spot.Spot.{Spot}
use Rattle.yv_expand_statements.specs.Truth.{Truth}
use Rattle.yv_expand_tree.specs.Final.{Final, IsFinal, changes_of, spots_of}
use Rattle.yv_expand_tree.specs.Remains.{AreLeft}

-- what contracts see of a `FinalTree`: the most items that there may be, the items, what was known
-- of each, the augments of modules, the refines that change each item, and the nodes that are left
pub record FinalTreeView : Type 0 where
  pub limit : ℕ
  pub items : List Item
  pub spots : List Spot
  pub augments : List ℕ
  pub changes : ChangesView
  pub left : List Node

-- the nodes to which augments add, one for each
abbrev pub targets_from : List Label → State → (place : ℕ) → (augments : List ℕ) → List (Option ℕ)
targets_from labels st place [] = []
targets_from labels st place (a ∷ others) =
    target_of labels st.ends place ∷ targets_from labels st (place + 1) others

-- the items to which the augments of modules add, where they add to one
abbrev pub targets_of : Files → Final → List (Option ℕ)
targets_of files f = targets_from (labels_of (spots_of files f)) f.state 0 f.augments

-- this is kept of what the files of implemented modules come to, where conditions hold so
pub record AreKept (choice : ModuleChoice) (files : Files) (truth : Truth)
    (k : FinalTreeView) : Type 0 where
  pub final : Final
  pub is_final : IsFinal choice files final
  pub items : k.items ≡ final.items
  pub spots : k.spots ≡ spots_of files final
  pub augments : k.augments ≡ final.augments
  pub changes : each k.changes ≡ changes_of files final
  pub nodes : Nodes
  pub are_left : AreLeft truth files final nodes
  pub left : k.left ≡ item_list None 0 nodes

-- what is where there is no item
abbrev pub no_item : Item
no_item = record { origin = Statement 0; parent = None }

-- what an item is made of
abbrev pub origin_at : List Item → (item : ℕ) → Origin
origin_at items item = (slice_index_or items item no_item).origin

-- the file of the module of an item
abbrev pub module_file_of_spot : Option Spot → ℕ
module_file_of_spot None = 0
module_file_of_spot (Some s) = s.module_file

-- the file of the module to which an item belongs (sections 7.13 and 7.17)
abbrev pub module_file_of_item : List Spot → (item : ℕ) → ℕ
module_file_of_item spots item = module_file_of_spot (slice_get spots item)

-- the place of the augment that gives an item, if one does
abbrev pub source_of_spot : (items : ℕ) → (augments : List ℕ) → Option Spot → Option ℕ
source_of_spot items augments None = None
source_of_spot items augments (Some s) =
    if nat_lt items s.group && nat_lt (s.group - items - 1) (length augments)
    then Some (s.group - items - 1) else None

-- the place of the augment of a module in whose block an item is, if it is in one: what these give
-- comes after the groups of all items, one group for each of the augments in order
abbrev pub source_at : List Spot → (augments : List ℕ) → (item : ℕ) → Option ℕ
source_at spots augments item = source_of_spot (length spots) augments (slice_get spots item)
