use Rattle.yv_expand_laws.proofs.RefinedBlocks.{block_is_missed, block_is_refined}
use Rattle.yv_expand_laws.proofs.laws.a_refined_block_gives_refined_nodes.Goals as goal

pub returns-clause-changes : goal.returns-clause-changes
returns-clause-changes c = block_is_refined

pub returns-clause-misses : goal.returns-clause-misses
returns-clause-misses c = block_is_missed
