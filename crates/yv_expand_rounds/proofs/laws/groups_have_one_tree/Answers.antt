use Rattle.yv_expand_rounds.proofs.Unique.{tree_one}
use Rattle.yv_expand_rounds.proofs.laws.groups_have_one_tree.Goals as goal

pub returns : goal.returns
returns c = tree_one
