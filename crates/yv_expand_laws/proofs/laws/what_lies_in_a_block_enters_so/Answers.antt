use Rattle.yv_expand_laws.proofs.BlockSpots.{placed_is}
use Rattle.yv_expand_laws.proofs.PlacedSpots.{placed_is_told}
use Rattle.yv_expand_laws.proofs.laws.what_lies_in_a_block_enters_so.Goals as goal

pub returns-clause-tells : goal.returns-clause-tells
returns-clause-tells c = placed_is_told

pub returns-clause-enters : goal.returns-clause-enters
returns-clause-enters c = λ labels g lo hi n e block spots st lie. placed_is labels g block spots st lie
