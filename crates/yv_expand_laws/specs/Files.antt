-- What the items of files show (RFC 7950, sections 7.12, 7.13 and 7.17).
use Rattle.std.specs.Prelude.{◌≡◌, ℕ, ◌+◌, zero, suc, Bool, true, false, List, [], ◌∷◌, length, map, Option, Some, None, codes, slice_get, slice_index_or}
use Rattle.std.specs.List.{Contains}
use Rattle.yv_text_statement.specs.Tree as statement
use Rattle.yv_link_scopes.specs.Files.{Files, brief_of, has_word}
use Rattle.yv_link_scopes.specs.RowList.{rows_of}
use Rattle.yv_expand_statements.specs.StatementBlocks.{block_of, augments_of}
use Rattle.yv_expand.specs.Tree.{Item, Tree, count}
use Rattle.yv_expand.specs.Expansion.{IsWhole}
use Rattle.yv_expand_rounds.specs.declared.label.Label.{Label}
use Rattle.yv_expand_rounds.specs.Groups.{group_of_augment}
use Rattle.yv_expand_rounds.specs.Turns.{State}
use Rattle.yv_expand_augments.specs.Augmentation.{AreAugmented, placement}
use Rattle.yv_expand_uses.specs.Spots.{Whole, source_in, labels_of, layout_of, whole}
use Rattle.yv_expand_uses.specs.declared.spot.Spot.{Spot}
use Rattle.yv_expand_definition.specs.Expansion.{Expand, Tops}
use Rattle.yv_expand_definition.specs.Gives.{Gives, Product}
use Rattle.yv_expand_definition.specs.Nodes.{nodes_given}
use Rattle.yv_expand_definition.specs.Rounds.{IsModuleFile}
use Rattle.yv_expand_laws.specs.StatementItems.{AreSound, ShowNodes}
use Rattle.yv_expand_laws.specs.Shows.{Items, Shows}

-- the statements of files with the augments of the modules that are marked, and so many items
abbrev pub expansion_of : Files → List Bool → List Item → Whole
expansion_of files marks items =
    whole (map brief_of files) (rows_of files)
    (augments_of (map brief_of files) (rows_of files) marks) (length items)

-- what is known of the items of an expansion
abbrev pub labels_in : Files → List Bool → List Item → List Label
labels_in files marks items = labels_of (layout_of (expansion_of files marks items) items).spots

-- the place of the augment that gives an item
abbrev pub giver_by : Whole → Option Spot → Option ℕ
giver_by w None = None
giver_by w (Some s) = source_in w.items w.augments s.group

-- the augment of a module in whose block an item is, if it is in one
abbrev pub giver_of : Whole → List Item → ℕ → Option ℕ
giver_of w items i = giver_by w (slice_get (layout_of w items).spots i)

-- of each item of files the node that it shows
abbrev pub ShowFiles : Files → List Bool → List Item → Items → Type 0
ShowFiles files marks items its =
    ShowNodes files (expansion_of files marks items) items
    (giver_of (expansion_of files marks items) items) its

-- the items of an expansion of files have such nodes
abbrev pub ItemsShow : Files → Type 0
ItemsShow files =
    (marks : List Bool) (order : List ℕ) (own : ℕ) (items : List Item)
    → IsWhole files marks order own items
    → (its : Items) × ShowFiles files marks items its

-- the root of no file is an augment: files that conform have modules and submodules
abbrev pub HaveRoots : Files → Type 0
HaveRoots files = (n : ℕ) (t : statement.Tree) → slice_get files n ≡ Some t
    → has_word (codes "augment") t.head ≡ false

-- the files of this order are marked, and all files are sound
pub record AreGiven (files : Files) (marks : List Bool) (order : List ℕ) : Type 0 where
  pub sound : AreSound files
  pub roots : HaveRoots files
  pub marked : (file : ℕ) → Contains order file → slice_index_or marks file false ≡ true

-- where the items of the block of an augment begin, which are laid block after block
abbrev pub begins_at : (from : ℕ) → (added : List Tree) → (place : ℕ) → ℕ
begins_at n [] k = n
begins_at n (t ∷ ts) zero = n
begins_at n (t ∷ ts) (suc k) = begins_at (n + count t) ts k

-- where items are when all have entered and the augments of uses had their turns
abbrev pub start_of : Files → List Bool → List Item → State
start_of files marks items =
    placement (expansion_of files marks items) (layout_of (expansion_of files marks items) items)

-- Before any augment of a module has its turn, the top shows what the files of the modules give,
-- module by module, and the group of each of their augments what its block gives, as nodes that it
-- gives.
abbrev pub ModulesShow : Files → Type 0
ModulesShow files =
    (marks : List Bool) (order : List ℕ) (own : ℕ) (items : List Item) (its : Items)
    → AreGiven files marks order
    → (expanded : IsWhole files marks order own items) → ShowFiles files marks items its
    → ((m : Product) → Tops files order m
    → Shows its (start_of files marks items).groups 0 0 own m.nodes)
    × ((k a module_file : ℕ) (m : Product)
    → slice_get (augments_of (map brief_of files) (rows_of files) marks) k ≡ Some a
    → IsModuleFile files a module_file
    → Gives files module_file (a ∷ []) (block_of (rows_of files) a) m
    → Shows its (start_of files marks items).groups
    (group_of_augment (labels_in files marks items) k) (begins_at own expanded.added k)
    (begins_at own expanded.added (suc k)) (nodes_given a m.nodes))

-- When the rounds are over, the items at the top show what the files expand to.
abbrev pub FilesShow : Files → Type 0
FilesShow files =
    (marks : List Bool) (order : List ℕ) (own : ℕ) (items : List Item) (its : Items) (m : Product)
    (st : State) → AreGiven files marks order
    → IsWhole files marks order own items → ShowFiles files marks items its
    → Expand files marks order m
    → AreAugmented (expansion_of files marks items) items st
    → Shows its st.groups 0 0 (length (labels_in files marks items)) m.nodes
