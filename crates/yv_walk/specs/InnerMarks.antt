-- Only private clauses cite this: room for marks.
use Rattle.std.specs.Prelude.{◌≡◌, ◌<◌, ℕ, length, Bool, true, is_some}
use Rattle.std.specs.Ordering.{nat_cmp}
use Rattle.std.specs.BTreeMap.{get_by}
use Rattle.yv_nodes.specs.declared.node.NodeId.{NodeId}
use Rattle.yv_nodes.specs.Rows.{Rows, below, rank}
use Rattle.yv_walk.specs.declared.marks.Marks.{Marks}
use Rattle.yv_walk.specs.Existence.{holds, passes}

-- there is an entry at this number, so that another mark there takes no memory
abbrev pub has_room : Marks → ℕ → Bool
has_room m n = is_some (get_by (nat_cmp n) m.rows)

-- there is one for each choice and case in which the node is
abbrev pub HasRoomAround : Rows → Marks → NodeId → Type 0
HasRoomAround s m id =
    (a : NodeId) → a.0 < length s.nodes → passes s a ≡ true → holds (rank a) (below s a) id ≡ true
    → has_room m a.0 ≡ true
