use Rattle.yv_expand_tree.proofs.ParentKinds.{parents_left}
use Rattle.yv_expand_tree.proofs.laws.nothing_stands_below_a_leaf.Goals as goal

pub returns : goal.returns
returns c = λ choice files truth f nodes place p x fine is are at up.
    parents_left files fine c.no_node_stands_in_a_leaf.ensures choice truth f is c.items_stand_in_one_group.ensures.below c.items_stand_once.ensures
    c.a_tree_has_no_item_twice.ensures.within nodes place p x are at up
