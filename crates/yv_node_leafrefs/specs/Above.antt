-- Data nodes above and below a node (RFC 7950, sections 3 and 7.9).
use Rattle.std.specs.Prelude.{◌≡◌, ℕ, ◌+◌, ◌<◌, ◌≤◌, true, false, List, Option, Some, None, slice_get, if◌then◌else◌}
use Rattle.yv_node_content.specs.Kinds.{is_passed, is_operation_or_notification, is_data}
use Rattle.yv_nodes.specs.declared.node.NodeId.{NodeId}
use Rattle.yv_nodes.specs.Rows.{Row, is_root}

-- the place of a number: None is the document, in place of the root
abbrev pub place_of : NodeId → Option ℕ
place_of n = if is_root n then None else Some n.0

-- the place just above a row, choices and cases too
abbrev pub parent_of : Row → Option ℕ
parent_of r = place_of r.parent

-- each row comes after the one above it
abbrev pub AreBehind : List Row → Type 0
AreBehind rows = (n p : ℕ) (r : Row) → slice_get rows n ≡ Some r → parent_of r ≡ Some p → p < n

-- the closest place, from one upwards, that isn't a choice and no case
pub data Closest (rows : List Row) : Option ℕ → Option ℕ → Type 0 where
  document : Closest rows None None
  here : {p : ℕ} (r : Row) → slice_get rows p ≡ Some r → is_passed r.label.defined.kind ≡ false
      → Closest rows (Some p) (Some p)
  further : {p : ℕ} {a : Option ℕ} (r : Row) → slice_get rows p ≡ Some r
      → is_passed r.label.defined.kind ≡ true
      → Closest rows (parent_of r) a → Closest rows (Some p) a

-- a is above c, choices and cases being passed over
abbrev pub IsAbove : List Row → Option ℕ → ℕ → Type 0
IsAbove rows a c = (r : Row) × (slice_get rows c ≡ Some r) × Closest rows (parent_of r) a

-- c is a data node of the module of this number and of this name, and the place a is the one above
-- it
pub record IsDataChild (rows : List Row) (a : Option ℕ) (module_file : ℕ) (name : List ℕ)
    (c : ℕ) : Type 0 where
  pub row : Row
  pub at : slice_get rows c ≡ Some row
  pub is_data_node : is_data row.label.defined.kind ≡ true
  pub above : Closest rows (parent_of row) a
  pub same_module : row.label.module_file ≡ module_file
  pub same_name : row.label.defined.name ≡ name

-- the node, or one above it, is an operation or a notification
pub data IsInside (rows : List Row) : Option ℕ → Type 0 where
  here : {p : ℕ} (r : Row) → slice_get rows p ≡ Some r
      → is_operation_or_notification r.label.defined.kind ≡ true → IsInside rows (Some p)
  further : {p : ℕ} (r : Row) → slice_get rows p ≡ Some r → IsInside rows (parent_of r)
      → IsInside rows (Some p)

-- c is the first in order of which P holds
abbrev pub IsFirst : (ℕ → Type 0) → ℕ → Type 0
IsFirst P c = P c × ((d : ℕ) → P d → c ≤ d)

-- b is a, or is anywhere below it, choices and cases being passed over
pub data IsUnder (rows : List Row) (a : Option ℕ) : Option ℕ → Type 0 where
  same : IsUnder rows a a
  under : {b : Option ℕ} {c : ℕ} → IsUnder rows a b → IsAbove rows b c → IsUnder rows a (Some c)

-- how many data nodes are from the document down to a place
pub data IsDepth (rows : List Row) : Option ℕ → ℕ → Type 0 where
  top : IsDepth rows None 0
  deeper : {a : Option ℕ} {c d : ℕ} → IsAbove rows a c → IsDepth rows a d
      → IsDepth rows (Some c) (d + 1)
