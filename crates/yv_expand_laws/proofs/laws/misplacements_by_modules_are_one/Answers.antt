use Rattle.yv_expand_definition.proofs.Meaning.{refers_to_one}
use Rattle.yv_expand_laws.proofs.ModulesMisplaced.{misplacements_by_modules}
use Rattle.yv_expand_laws.proofs.Parents.{stands_below}
use Rattle.yv_expand_laws.proofs.laws.misplacements_by_modules_are_one.Goals as goal

pub returns : goal.returns
returns c =
    λ files. misplacements_by_modules files (refers_to_one c.a_name_means_one_thing.ensures files) c.items_of_the_final_tree_were_placed.ensures
    c.what_is_given_stands_below_its_target.ensures
    (stands_below c.each_item_stands_once.ensures.applies c.entering_keeps_groups.ensures.groups c.entering_keeps_groups.ensures.augments
    c.items_stay_when_others_enter.ensures.enters c.items_stay_when_others_enter.ensures.stays c.items_stay_below_their_nodes.ensures.turns
    c.items_stay_below_their_nodes.ensures.applies c.items_stand_in_one_group.ensures.below c.items_stand_in_one_group.ensures.one)
    c.each_item_stands_once.ensures.enters (c.blocks_of_modules_are_one.ensures files)
