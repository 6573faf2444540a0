-- Only private clauses cite this: nodes that are the same so far from others.
use Rattle.std.specs.Prelude.{◌≡◌, ℕ, ◌+◌, ◌<◌, ◌≤◌, Bool, false, List, [], ◌∷◌, map}
use Rattle.std.specs.declared.alloc.Global.{Global}
use Rattle.std.specs.declared.vec.Vec.{Vec}
use Rattle.yv_node_content.specs.declared.kind.NodeKind.{NodeKind}
use Rattle.yv_nodes.specs.declared.node.NodeId.{NodeId}
use Rattle.yv_nodes.specs.Rows.{Row}
use Rattle.yv_node_keys.specs.Numbers.{children_at, is_kind_at}
use Rattle.yv_node_keys.specs.InnerCounterparts.{AreCalledAlike}
use Rattle.yv_node_keys.specs.InnerMixedConfig.{is_mixed_at}
use Rattle.yv_node_keys.specs.declared.shift.Shift.{Shift}

-- the node so far from one
abbrev pub moved_id : ℕ → NodeId → NodeId
moved_id by n = record { 0 = n.0 + by }

-- a node is one of those of a shift
pub record IsInside (s : Shift) (n : NodeId) : Type 0 where
  pub from : s.first ≤ n.0
  pub to : n.0 < s.end

-- all these are
abbrev pub AreInside : Shift → List NodeId → Type 0
AreInside s [] = Unit {0}
AreInside s (n ∷ ns) = IsInside s n × AreInside s ns

-- a node and the one so far from it are called alike and are of one kind, and those below them are
-- so far from each other
pub record IsMoved (rows : List Row) (s : Shift) (n : NodeId) : Type 0 where
  pub called : AreCalledAlike rows n (moved_id s.by n)
  pub kinds : (test : NodeKind → Bool)
      → is_kind_at rows test n ≡ is_kind_at rows test (moved_id s.by n)
  pub below : children_at rows (moved_id s.by n) ≡ map (moved_id s.by) (children_at rows n)
  pub inside : AreInside s (children_at rows n)

-- all nodes of a shift are so
abbrev pub AreMoved : List Row → Shift → Type 0
AreMoved rows s = (n : NodeId) → IsInside s n → IsMoved rows s n

-- no list of these has nodes that are configuration and others that aren't
abbrev pub AreUnmixed : List Row → List (Vec NodeId Global) → Type 0
AreUnmixed rows [] = Unit {0}
AreUnmixed rows (v ∷ vs) = (is_mixed_at rows v.items ≡ false) × AreUnmixed rows vs
