use Rattle.yv_expand_laws.proofs.BlockFrame.{block_keeps}
use Rattle.yv_expand_laws.proofs.laws.a_block_leaves_the_rest.Goals as goal

pub returns : goal.returns
returns c = λ labels g lo hi n e block st may. block_keeps labels g block st may
