use Rattle.yv_expand_laws.proofs.FinalTreeOrigins.{final_stands}
use Rattle.yv_expand_laws.proofs.laws.items_of_the_final_tree_were_placed.Goals as goal

pub returns : goal.returns
returns c = final_stands c.each_item_stands_once.ensures.enters c.items_stand_in_one_group.ensures.one c.entering_keeps_groups.ensures.groups c.entering_keeps_groups.ensures.augments
