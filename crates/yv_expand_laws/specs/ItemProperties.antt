-- What the items of an expansion show, before any refine changes one.
use Rattle.std.specs.Prelude.{◌≡◌, ℕ, ◌<◌, ◌≤◌, Bool, true, false, List, length, map, Option, Some, None, codes, slice_get}
use Rattle.yv_link_scopes.specs.Files.{Briefs, Files, brief_of}
use Rattle.yv_link_scopes.specs.RowList.{rows_of}
use Rattle.yv_link_scopes.specs.Rows.{Row}
use Rattle.yv_expand_statements.specs.Names.{node_name}
use Rattle.yv_expand_paths.specs.InnerSteps.{has_path}
use Rattle.yv_expand_statements.specs.Origin.{number_of}
use Rattle.yv_expand.specs.Tree.{Item, Tree, item_list}
use Rattle.yv_expand_statements.specs.declared.origin.Origin.{Origin}
use Rattle.yv_expand_statements.specs.declared.origin.Origin.TheVariants.{Statement, Input, Output}
use Rattle.yv_expand.specs.Expands.{Expands}
use Rattle.yv_expand_rounds.specs.declared.label.Label.{Label}
use Rattle.yv_expand_statements.specs.Kinds as kinds_are
use Rattle.yv_expand_rounds.specs.Order.{is_given}
use Rattle.yv_expand_uses.specs.Paths.{path_in}
use Rattle.yv_expand_uses.specs.Spots.{Whole, labels_of, layout_of, whole}
use Rattle.yv_expand_uses.specs.declared.spot.Spot.{Spot}
use Rattle.yv_expand_definition.specs.Paths.{path_of}
use Rattle.yv_expand_laws.specs.Shows.{Agree, AreLabels, Items}

-- the name of the node of a statement
abbrev pub name_at : Option Row → List ℕ
name_at None = codes ""
name_at (Some r) = node_name r.head

-- the name of the node that an item is
abbrev pub name_of : List Row → Origin → List ℕ
name_of rows (Statement k) = name_at (slice_get rows k)
name_of rows (Input k) = codes "input"
name_of rows (Output k) = codes "output"

-- an item is there and shows a node
abbrev pub is_some_node : Option Label → Bool
is_some_node None = false
is_some_node (Some l) = kinds_are.is_node l.kind

-- these are known as the items of an expansion are laid: of each its module_file, kind and name,
-- and whether an augment of a module gives it
pub record AreItems (w : Whole) (items : List Item) (its : Items) : Type 0 where
  pub given : (i : ℕ) → its.given i ≡ is_given (labels_of (layout_of w items).spots) i
  pub node : (i : ℕ) → its.is_node i
      ≡ is_some_node (slice_get (labels_of (layout_of w items).spots) i)
  pub kind : (i : ℕ) (s : Spot) → slice_get (layout_of w items).spots i ≡ Some s
      → (its.node_of i).kind ≡ s.label.kind
  pub module_file : (i : ℕ) (s : Spot) → slice_get (layout_of w items).spots i ≡ Some s
      → (its.node_of i).module_file ≡ s.module_file
  pub name : (i : ℕ) (x : Item) → slice_get items i ≡ Some x
      → (its.node_of i).name ≡ name_of w.rows x.origin

-- each item is made of a statement that is there
abbrev pub HaveStatements : List Row → List Item → Type 0
HaveStatements rows items =
    (i : ℕ) (x : Item) → slice_get items i ≡ Some x → number_of x.origin < length rows

-- the items of an expansion are
abbrev pub ExpansionsHaveStatements : Briefs → List Row → Type 0
ExpansionsHaveStatements files rows =
    (numbers : List ℕ) (t : Tree) (parent : Option ℕ) (first : ℕ) → Expands files rows numbers t
    → HaveStatements rows (item_list parent first t)

-- labels tell of such items what nodes do
abbrev pub LabelsTell : Whole → List Item → Items → Type 0
LabelsTell w items its = AreItems w items its → AreLabels (labels_of (layout_of w items).spots) its

-- A path by numbers is the path by steps of a refine or an augment of files, where no more
-- statements are than can be numbered with their names.
abbrev pub PathsAgree : Files → (augments : List ℕ) → (count : ℕ) → List Item → Items → Type 0
PathsAgree files augments count items its =
    (module_file k : ℕ) (r : Row) → length (rows_of files) ≤ 4294967293
    → HaveStatements (rows_of files) items
    → AreItems (whole (map brief_of files) (rows_of files) augments count) items its
    → slice_get (rows_of files) k ≡ Some r → has_path r ≡ true
    → Agree (labels_of (layout_of
    (whole (map brief_of files) (rows_of files) augments count) items).spots) its
    (path_in (whole (map brief_of files) (rows_of files) augments count) module_file k)
    (path_of files module_file r)
