-- Only private clauses cite this: what is kept of nodes by their numbers.
use Rattle.std.specs.Prelude.{◌≡◌, ◌<◌, ◌≤◌, ℕ, List, [], Option, Some, None, map, slice_get}
use Rattle.std.specs.Ordering.{nat_cmp}
use Rattle.std.specs.BTreeMap.{BTreeMap, get_by}
use Rattle.std.specs.declared.vec.Vec.{Vec}
use Rattle.std.specs.declared.alloc.Global.{Global}
use Rattle.yv_nodes.specs.declared.node.NodeId.{NodeId}
use Rattle.yv_nodes.specs.Rows.{Row}
use Rattle.yv_node_keys.specs.Numbers.{default_case_at, key_leaf_at, unique_leaf_at}
use Rattle.yv_nodes.specs.InnerSpots.{node_id}
use Rattle.yv_node_keys.specs.declared.targets.ListLeafs.{ListLeafs}
use Rattle.yv_node_keys.specs.declared.targets.LeafTargets.{LeafTargets}

abbrev pub lists_at : BTreeMap ℕ ListLeafs → ℕ → Option ListLeafs
lists_at lists k = get_by (nat_cmp k) lists

abbrev pub cases_at : BTreeMap ℕ NodeId → ℕ → Option NodeId
cases_at cases k = get_by (nat_cmp k) cases

abbrev pub keys_in : Option ListLeafs → List NodeId
keys_in None = []
keys_in (Some leafs) = leafs.keys.items

abbrev pub uniques_in : Option ListLeafs → List (Vec NodeId Global)
uniques_in None = []
uniques_in (Some leafs) = leafs.uniques.items

-- these are the leafs that the numbered node names
pub record AreLeafsOf (rows : List Row) (k : ℕ) (r : Row) (leafs : Option ListLeafs) : Type 0 where
  pub keys : map (λ n. Some n) (keys_in leafs)
      ≡ map (key_leaf_at rows (node_id k)) r.label.defined.keys
  pub uniques : map (λ ns. map (λ n. Some n) ns.items) (uniques_in leafs)
      ≡ map (map (unique_leaf_at rows (node_id k))) r.label.defined.uniques

abbrev pub HasLeafs : List Row → ℕ → Option ListLeafs → Type 0
HasLeafs rows k leafs = (r : Row) → slice_get rows k ≡ Some r → AreLeafsOf rows k r leafs

abbrev pub HasCase : List Row → ℕ → Option NodeId → Type 0
HasCase rows k case = case ≡ default_case_at rows (node_id k)

-- this is kept of the numbers before n, and nothing of those from it on
pub record IsKeptUpTo {V : Type 0} (at : ℕ → Option V) (Holds : ℕ → Option V → Type 0)
    (n : ℕ) : Type 0 where
  pub before : (k : ℕ) → k < n → Holds k (at k)
  pub behind : (k : ℕ) → n ≤ k → at k ≡ None

-- these are what the nodes before number n name
pub record AreUpTo (rows : List Row) (targets : LeafTargets) (n : ℕ) : Type 0 where
  pub lists : IsKeptUpTo (lists_at targets.lists) (HasLeafs rows) n
  pub cases : IsKeptUpTo (cases_at targets.cases) (HasCase rows) n

-- what is kept of a number is right
abbrev pub IsRight : {V : Type 0} → (at : ℕ → Option V) → (Holds : ℕ → Option V → Type 0) → Type 0
IsRight {V} at Holds = (k : ℕ) (v : V) → at k ≡ Some v → Holds k (Some v)

-- what is kept is what nodes name, of whichever it is kept
pub record AreRight (rows : List Row) (targets : LeafTargets) : Type 0 where
  pub lists : IsRight (lists_at targets.lists) (HasLeafs rows)
  pub cases : IsRight (cases_at targets.cases) (HasCase rows)
