use Rattle.yv_expand_augments.proofs.ModuleAugments.{given_below}
use Rattle.yv_expand_augments.proofs.laws.what_is_given_stands_below_its_target.Goals as goal

pub returns : goal.returns
returns c =
    given_below c.each_item_stands_once.ensures.applies c.entering_keeps_groups.ensures.groups c.entering_keeps_groups.ensures.augments
    c.items_stay_when_others_enter.ensures.enters c.items_stay_when_others_enter.ensures.stays c.what_is_given_follows_the_augment.ensures.turns
    c.what_is_given_follows_the_augment.ensures.applies c.items_stand_in_one_group.ensures.below c.items_stand_in_one_group.ensures.one
    c.a_tree_has_no_item_twice.ensures.within c.parents_come_first.ensures
