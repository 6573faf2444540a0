use Rattle.yv_tree.proofs.TypeColumns.{begins}
use Rattle.yv_tree.proofs.laws.types_begin_in_one_column.Goals as goal

pub returns : goal.returns
returns c = begins
