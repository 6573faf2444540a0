use Rattle.yv_expand_laws.proofs.TakenBlocks.{targets_take}
use Rattle.yv_expand_laws.proofs.laws.a_target_takes_a_block_item_by_item.Goals as goal

pub returns : goal.returns
returns c = λ rows. targets_take rows
