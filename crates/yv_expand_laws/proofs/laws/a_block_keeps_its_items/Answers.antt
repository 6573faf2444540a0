use Rattle.yv_expand_laws.proofs.BlockContents.{block_stands}
use Rattle.yv_expand_laws.proofs.laws.a_block_keeps_its_items.Goals as goal

pub returns : goal.returns
returns c = λ labels its mark are below g lo hi n e block st f comes marked may empty has within. block_stands labels its are mark below g st comes marked may empty has within
