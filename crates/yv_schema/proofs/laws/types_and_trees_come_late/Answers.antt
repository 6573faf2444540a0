use Rattle.yv_schema.proofs.PhaseLemmas.{comes_late}
use Rattle.yv_schema.proofs.laws.types_and_trees_come_late.Goals as goal

pub returns : goal.returns
returns c = comes_late
