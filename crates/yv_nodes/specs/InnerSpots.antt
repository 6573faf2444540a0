-- Only private clauses cite this: places with the numbers of the nodes above and below.
use Rattle.std.specs.Prelude.{◌≡◌, ℕ, ◌+◌, ◌<◌, ◌⊎◌, List, [], ◌∷◌, ◌++◌, Some, slice_get, length}
use Rattle.yv_nodes.specs.declared.node.NodeId.{NodeId}
use Rattle.yv_nodes.specs.Tree.{Label, node, Forest, no_trees, tree, count}
use Rattle.yv_nodes.specs.Places.{Place}
use Rattle.yv_nodes.specs.Rows.{Row, root}
use Rattle.yv_nodes.specs.Numbers.{numbers_from, rows_from}

-- these are the rows of a schema tree
abbrev pub AreRows : List Row → Forest → Type 0
AreRows rows ts = rows ≡ rows_from 0 ts

pub record Spot : Type 0 where
  pub place : Place
  pub parent : NodeId
  pub children : List NodeId

abbrev pub node_id : ℕ → NodeId
node_id n = record { 0 = n }

abbrev pub spots_below : NodeId → List Label → ℕ → Forest → List Spot
spots_below parent above first no_trees = []
spots_below parent above first (tree (node l kids) ts) =
    record {
      place = record { label = l; above = above; kids = kids };
      parent = parent;
      children = numbers_from (first + 1) kids;
    }
    ∷ spots_below (node_id first) (l ∷ above) (first + 1) kids
    ++ spots_below parent above (first + 1 + count kids) ts

abbrev pub spots : Forest → List Spot
spots ts = spots_below root [] 0 ts

abbrev pub row_of : Spot → Row
row_of s = record { label = s.place.label; parent = s.parent; children = s.children }

abbrev pub place_of : Spot → Place
place_of s = s.place

-- a node of this number is just above: the root, or one of a lesser number
abbrev pub IsUnder : List Spot → ℕ → NodeId → List Label → Type 0
IsUnder all at p above =
    ((p ≡ root) × (above ≡ []))
    ⊎ ((p.0 < at) × ((q : Spot) × (slice_get all p.0 ≡ Some q)
    × (above ≡ q.place.label ∷ q.place.above)))

-- the spots of these trees are among others, the first at this number
pub record Sits (all : List Spot) (at : ℕ) (ts : Forest) : Type 0 where
  pub parent : NodeId
  pub above : List Label
  pub front : List Spot
  pub back : List Spot
  pub split : all ≡ front ++ spots_below parent above at ts ++ back
  pub before : length front ≡ at
  pub under : IsUnder all at parent above
