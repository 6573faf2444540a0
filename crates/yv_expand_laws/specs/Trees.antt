-- What the final tree by number shows.
use Rattle.std.specs.Prelude.{◌≡◌, List, length, if◌then◌else◌}
use Rattle.yv_expand_rounds.specs.declared.label.Label.{Label}
use Rattle.yv_expand_rounds.specs.Groups.{Groups}
use Rattle.yv_expand_rounds.specs.Placements.{StandOnce}
use Rattle.yv_expand_rounds.specs.Tree.{Tree, IsTree}
use Rattle.yv_expand_rounds.specs.Tree as by_number
use Rattle.yv_expand_definition.specs.Nodes.{Forest, none, node}
use Rattle.yv_expand_laws.specs.Shows.{Items, Shows}

-- what a tree by number shows
abbrev pub forest_shown : Items → Tree → Forest
forest_shown its by_number.none = none
forest_shown its (by_number.item i below behind) = if its.is_node i
    then node (its.node_of i) (forest_shown its below) (forest_shown its behind)
    else forest_shown its behind

-- what is shown is what the tree by number shows
abbrev pub TreeShows : List Label → Items → Type 0
TreeShows labels its =
    (groups : Groups) (t : Tree) (f : Forest) → StandOnce (length labels) groups
    → Shows its groups 0 0 (length labels) f → IsTree labels groups t
    → f ≡ forest_shown its t
