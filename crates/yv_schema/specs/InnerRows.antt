-- Only private clauses cite this: rows made of items, one by one.
use Rattle.std.specs.Prelude.{◌≡◌, ℕ, ◌+◌, ◌<◌, ◌&&◌, Bool, false, List, [], ◌∷◌, ◌++◌, length, map, Option, Some, None, slice_index_or}
use Rattle.yv_expand.specs.Tree.{Node}
use Rattle.yv_nodes.specs.declared.node.NodeId.{NodeId}
use Rattle.yv_nodes.specs.Tree.{Label}
use Rattle.yv_node_content.specs.Definition.{Definition}
use Rattle.yv_node_content.specs.Kinds.{is_leaf}
use Rattle.yv_node_statements.specs.Definitions.{refined_definition}
use Rattle.yv_expand_tree.specs.Final.{changes_of}
use Rattle.yv_expand_tree.specs.FinalTree.{origin_at}
use Rattle.yv_nodes.specs.Labels.{has_key_called}
use Rattle.yv_nodes.specs.Rows.{Row, blank_row, root}
use Rattle.yv_nodes.specs.Above.{View, seen_of}
use Rattle.yv_schema.specs.InnerBasis.{NumberedBasis, label_at, module_file_of}

-- a place, where there is one, is before this
abbrev pub IsWithin : Option ℕ → ℕ → Type 0
IsWithin None many = Unit {0}
IsWithin (Some place) many = place < many

-- the number of the node at a place
abbrev pub number_at : ℕ → NodeId
number_at place = record { 0 = place }

abbrev pub numbers_at : List ℕ → List NodeId
numbers_at places = map number_at places

-- the number of the node above: the root's at the top
abbrev pub parent_of : Option ℕ → NodeId
parent_of None = root
parent_of (Some place) = number_at place

-- the nodes above the items below one, where there are lines of nodes by its place; none at the top
abbrev pub line_at : List (List Label) → Option ℕ → List Label
line_at lines None = []
line_at lines (Some place) = slice_index_or lines place []

-- the node of an item and those above it, the nearest first
abbrev pub line_of : NumberedBasis → List (List Label) → Node → List Label
line_of b lines x = label_at b (line_at lines x.parent) x.origin ∷ line_at lines x.parent

-- the row of an item below these nodes
abbrev pub row_of : NumberedBasis → (above : List Label) → Node → (parent : NodeId)
    → (children : List NodeId) → Row
row_of b above x parent children =
    record { label = label_at b above x.origin; parent = parent; children = children }

-- the rows of items, the first having this number, where these are the lines of the items before
abbrev pub rows_of_items : NumberedBasis → List (List ℕ) → List (List Label) → ℕ → List Node
    → List Row
rows_of_items b below lines number [] = []
rows_of_items b below lines number (x ∷ xs) =
    row_of b (line_at lines x.parent) x (parent_of x.parent)
    (numbers_at (slice_index_or below number []))
    ∷ rows_of_items b below (lines ++ line_of b lines x ∷ []) (number + 1) xs

-- this is seen of the lines of items
pub record AreSeen (lines : List (List Label)) (seen : List View) : Type 0 where
  pub are : seen ≡ map seen_of lines

-- the item that is read at a place past the last one
abbrev pub no_node : Node
no_node = record { origin = 0; parent = None }

-- what is said of the node of an item
abbrev pub said_at : NumberedBasis → (item : ℕ) → Definition
said_at b item = refined_definition b.typing b.files (origin_at b.final.items item)
    (slice_index_or (changes_of b.files b.final) item [])

-- whether the item at the place above, if there is one, has a key of this module and name
abbrev pub is_key_above : NumberedBasis → List Node → (above : Option ℕ) → (module_file : ℕ)
    → (name : List ℕ) → Bool
is_key_above b xs None module_file name = false
is_key_above b xs (Some place) module_file name =
    has_key_called (label_at b [] (slice_index_or xs place no_node).origin ∷ []) module_file name

-- the node of one of these items is a key of the list just above
abbrev pub is_key_at : NumberedBasis → List Node → Node → Bool
is_key_at b xs x = is_leaf (said_at b x.origin).kind
    && is_key_above b xs x.parent (module_file_of b x.origin) (said_at b x.origin).name

-- these rows are those of the first items: each has what is said of its item, and whether it is a
-- key
pub record AreOfItems (b : NumberedBasis) (xs : List Node) (rows : List Row) : Type 0 where
  pub said : (k : ℕ) → k < length rows
      → (slice_index_or rows k blank_row).label.defined
      ≡ said_at b (slice_index_or xs k no_node).origin
  pub keys : (k : ℕ) → k < length rows
      → (slice_index_or rows k blank_row).label.is_key
      ≡ is_key_at b xs (slice_index_or xs k no_node)
