-- Only private clauses cite this: nodes whose names below are known.
use Rattle.std.specs.Prelude.{◌≡◌, ℕ, List, Some}
use Rattle.std.specs.Ordering.{nat_cmp}
use Rattle.std.specs.BTreeMap.{BTreeMap, get_by}
use Rattle.yv_nodes.specs.Rows.{Row}
use Rattle.yv_node_keys.specs.Numbers.{children_at}
use Rattle.yv_node_keys.specs.InnerNames.{AreNames, told_of}
use Rattle.yv_nodes.specs.InnerSpots.{node_id}
use Rattle.yv_node_keys.specs.declared.names.ChildNames.{ChildNames}

-- what is kept of a numbered node are the names of those directly below it
abbrev pub AreKnown : List Row → BTreeMap ℕ ChildNames → Type 0
AreKnown rows known =
    (n : ℕ) (names : ChildNames) → get_by (nat_cmp n) known ≡ Some names
    → AreNames rows (children_at rows (node_id n)) (told_of names)
