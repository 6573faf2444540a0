use Rattle.yv_expand_laws.proofs.MisplacementsJoined.{misplacements_by_uses}
use Rattle.yv_expand_laws.proofs.Parents.{stands_below}
use Rattle.yv_expand_laws.proofs.laws.misplacements_by_uses_are_one.Goals as goal

pub returns : goal.returns
returns c =
    λ files. misplacements_by_uses files c.what_is_given_stands_below_its_target.ensures
    (stands_below c.each_item_stands_once.ensures.applies c.entering_keeps_groups.ensures.groups c.entering_keeps_groups.ensures.augments
    c.items_stay_when_others_enter.ensures.enters c.items_stay_when_others_enter.ensures.stays c.items_stay_below_their_nodes.ensures.turns
    c.items_stay_below_their_nodes.ensures.applies c.items_stand_in_one_group.ensures.below c.items_stand_in_one_group.ensures.one)
    (record {
      stand = c.each_item_stands_once.ensures.applies;
      room = c.entering_keeps_groups.ensures.groups;
      many = c.entering_keeps_groups.ensures.augments;
      enters = c.items_stay_when_others_enter.ensures.enters;
      stays = c.items_stay_when_others_enter.ensures.stays;
      turned = c.items_stay_below_their_nodes.ensures.turns;
      applied = c.items_stay_below_their_nodes.ensures.applies;
      below = c.items_stand_in_one_group.ensures.below;
      one = c.items_stand_in_one_group.ensures.one;
      given_turned = c.what_is_given_follows_the_augment.ensures.turns;
      given_applied = c.what_is_given_follows_the_augment.ensures.applies;
    }) c.a_copy_ends_where_its_turn_led.ensures c.what_a_copy_gives_stands_below_its_target.ensures (c.blocks_of_uses_are_one.ensures files)
