use Rattle.yv_expand_laws.proofs.ExpansionBlocks.{expansion_lies}
use Rattle.yv_expand_laws.proofs.laws.an_expansion_lies_in_blocks.Goals as goal

pub returns : goal.returns
returns c = expansion_lies
