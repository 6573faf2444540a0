-- The places of a schema tree.
use Rattle.std.specs.Prelude.{List, [], ◌∷◌, ◌++◌}
use Rattle.yv_nodes.specs.Tree.{Label, node, Forest, no_trees, tree}

-- a node with the nodes above it, the nearest first, and the trees below it
pub record Place : Type 0 where
  pub label : Label
  pub above : List Label
  pub kids : Forest

-- the places of these trees below these nodes, each node before those below it
abbrev pub places_below : List Label → Forest → List Place
places_below above no_trees = []
places_below above (tree (node l kids) ts) =
    record { label = l; above = above; kids = kids } ∷ places_below (l ∷ above) kids
    ++ places_below above ts

-- the places of a schema tree
abbrev pub places : Forest → List Place
places ts = places_below [] ts
