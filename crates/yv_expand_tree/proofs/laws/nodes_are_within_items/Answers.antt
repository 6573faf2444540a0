use Rattle.yv_expand_tree.proofs.Finals.{left_within}
use Rattle.yv_expand_tree.proofs.laws.nodes_are_within_items.Goals as goal

pub returns : goal.returns
returns c = λ choice files truth f nodes is are. left_within choice files truth f is c.items_stand_once.ensures c.a_tree_has_no_item_twice.ensures.count nodes are
