-- What statements give is what their items show (RFC 7950, sections 7.12 to 7.17).
use Rattle.std.specs.Prelude.{◌≡◌, ℕ, ◌≤◌, true, List, [], ◌∷◌, ◌++◌, length, map, Option, Some, None, slice_get, if◌then◌else◌}
use Rattle.std.specs.List.{Contains}
use Rattle.yv_link_scopes.specs.Files.{Files, brief_of}
use Rattle.yv_link_scopes.specs.RowList.{rows_of}
use Rattle.yv_link_scopes.specs.Rows.{Row}
use Rattle.yv_expand_statements.specs.StatementBlocks.{block_of, is_node_or_uses}
use Rattle.yv_expand_statements.specs.Origin.{number_of}
use Rattle.yv_expand.specs.Tree.{Item, Tree, count, item_list}
use Rattle.yv_expand.specs.Expands.{Expands}
use Rattle.yv_expand_uses.specs.AugmentOrder.{is_giving}
use Rattle.yv_expand_augments.specs.Augmentation.{placement}
use Rattle.yv_expand_statements.specs.Kinds.{is_uses}
use Rattle.yv_expand_augments.specs.Placement.{augment_around}
use Rattle.yv_expand_augments.specs.RefineMeanings.{refined_all}
use Rattle.yv_expand_uses.specs.Spots.{Whole, layout_of, own_module_file, spot_at, top_group, whole}
use Rattle.yv_expand_uses.specs.declared.spot.Spot.{Spot}
use Rattle.yv_expand_changes.specs.Changes.{changes}
use Rattle.yv_expand_definition.specs.Expansion.{AllRefer}
use Rattle.yv_expand_definition.specs.Gives.{Gives, Product}
use Rattle.yv_expand_laws.specs.Shows.{Items, Shows}
use Rattle.yv_expand_laws.specs.ItemProperties.{AreItems}

-- a number that may be there, as a list
abbrev pub one_of : Option ℕ → List ℕ
one_of None = []
one_of (Some n) = n ∷ []

-- the augment in whose block a statement is, if it is in one
abbrev pub around : List Row → Option Row → List ℕ
around rows r = one_of (augment_around rows r)

-- the uses and augments round a statement that gives an item, which is below this one
abbrev pub under_of : List Row → Items → Option Row → (parent : Option ℕ) → Option Spot → List ℕ
under_of rows its r None s = around rows r
under_of rows its r (Some p) None = []
under_of rows its r (Some p) (Some s) =
    if is_uses s.label.kind then around rows r ++ s.statement ∷ (its.node_of p).under
    else (its.node_of p).under

-- of each item the node that it shows: with what gives it, what is round that, the refines that
-- change it, and the augment of a module that gives it, if this tells of one
pub record ShowNodes (files : Files) (w : Whole) (items : List Item) (giver_at : ℕ → Option ℕ)
    (its : Items) : Type 0 where
  pub told : AreItems w items its
  pub origin : (i : ℕ) (x : Item) → slice_get items i ≡ Some x → (its.node_of i).origin ≡ x.origin
  pub under : (i : ℕ) (x : Item) → slice_get items i ≡ Some x → (its.node_of i).under
      ≡ under_of w.rows its (slice_get w.rows (number_of x.origin)) x.parent
      (spot_at (layout_of w items).spots x.parent)
  pub refines : (i : ℕ)
      → (its.node_of i).refines ≡ changes files (layout_of w items).spots (refined_all w items) i
  pub giver : (i : ℕ) → (its.node_of i).giver ≡ giver_at i

-- These files have no more statements than can be numbered; each of their uses refers to a
-- grouping; and an augment of a uses that gives something has an item in its block: in files that
-- conform no `input` or `output` is there alone.
pub record AreSound (files : Files) : Type 0 where
  pub few : length (rows_of files) ≤ 4294967293
  pub refer : AllRefer (map brief_of files) (rows_of files)
  pub gives : (block a : ℕ) → is_giving (rows_of files) block a ≡ true
      → (k : ℕ) × (r : Row) × Contains (block_of (rows_of files) a) k
      × (slice_get (rows_of files) k ≡ Some r) × (is_node_or_uses r ≡ true)

-- a statement is at the top, in the module of a file
abbrev pub StandsAtTop : Whole → (module_file : ℕ) → Row → Type 0
StandsAtTop w module_file r = (top_group w (Some r) ≡ 0)
    × (own_module_file w.files (Some r) ≡ module_file) × (augment_around w.rows (Some r) ≡ None)

-- Statements that are at the top, in files of one module, show what they give: each uses with what
-- its refines change and its augments add, when their items are laid, have entered, and the
-- augments of uses have had their turns.
abbrev pub StatementsShow : Files → (augments : List ℕ) → Type 0
StatementsShow files augments =
    (numbers : List ℕ) (t : Tree) (module_file : ℕ) (m : Product) (its : Items) → AreSound files
    → Expands (map brief_of files) (rows_of files) numbers t
    → ((k : ℕ) (r : Row) → Contains numbers k → slice_get (rows_of files) k ≡ Some r
    → StandsAtTop (whole (map brief_of files) (rows_of files) augments (count t)) module_file r)
    → ShowNodes files (whole (map brief_of files) (rows_of files) augments (count t))
    (item_list None 0 t) (λ i. None) its
    → Gives files module_file [] numbers m
    → Shows its (placement (whole (map brief_of files) (rows_of files) augments (count t))
    (layout_of (whole (map brief_of files) (rows_of files) augments (count t))
    (item_list None 0 t))).groups 0 0 (count t) m.nodes
