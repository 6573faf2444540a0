-- Lists of trees, one after the other.
use Rattle.yv_nodes.specs.Tree.{Forest, no_trees, tree}

-- one list of trees after the other
abbrev pub join : Forest → Forest → Forest
join no_trees us = us
join (tree t ts) us = tree t (join ts us)
