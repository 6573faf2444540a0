use Rattle.yv_base_graph.proofs.Ranks.{ranking_no_cycle}
use Rattle.yv_base_graph.proofs.laws.ranks_leave_no_cycle.Goals as goal

pub returns : goal.returns
returns c = ranking_no_cycle
