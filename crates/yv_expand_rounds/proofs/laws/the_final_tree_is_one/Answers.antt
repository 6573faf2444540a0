use Rattle.yv_expand_rounds.proofs.Unique.{rows_one}
use Rattle.yv_expand_rounds.proofs.laws.the_final_tree_is_one.Goals as goal

pub returns : goal.returns
returns c = rows_one
