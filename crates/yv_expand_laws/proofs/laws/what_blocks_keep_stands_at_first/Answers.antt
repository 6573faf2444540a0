use Rattle.yv_expand_laws.proofs.InitialBlocks.{beginning_stands}
use Rattle.yv_expand_laws.proofs.laws.what_blocks_keep_stands_at_first.Goals as goal

pub returns : goal.returns
returns c = λ labels its mark are low. beginning_stands labels its mark are low
