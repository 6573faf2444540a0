use Rattle.yv_expand_laws.proofs.RefusalsJoined.{final_refusals_are_one}
use Rattle.yv_expand_laws.proofs.laws.refusals_of_final_trees_are_one.Goals as goal

pub returns : goal.returns
returns c = λ files. final_refusals_are_one files (c.refusals_are_one.ensures files)
