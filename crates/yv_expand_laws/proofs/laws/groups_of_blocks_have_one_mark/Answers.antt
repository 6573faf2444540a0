use Rattle.yv_expand_laws.proofs.Marks.{blocks_are_marked}
use Rattle.yv_expand_laws.proofs.laws.groups_of_blocks_have_one_mark.Goals as goal

pub returns : goal.returns
returns c = blocks_are_marked
