use Rattle.yv_expand_augments.proofs.ModuleAugments.{once_of}
use Rattle.yv_expand_augments.proofs.laws.items_stand_once.Goals as goal

pub returns : goal.returns
returns c = once_of c.each_item_stands_once.ensures.applies
