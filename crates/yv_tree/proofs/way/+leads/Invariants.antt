use Rattle.std.proofs.Common.{length}
use Rattle.yv_tree.proofs.way.+leads.Given as goal

-- the steps that are left
abbrev pub decreases-leads : goal.decreases-leads
decreases-leads l = length l.way.now
