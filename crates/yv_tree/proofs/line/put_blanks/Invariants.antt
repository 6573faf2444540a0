use Rattle.std.proofs.Common.{◌≤◌, ◌-◌, replicate}
use Rattle.yv_base_streams.specs.Pages.{Adds}
use Rattle.yv_tree.proofs.line.put_blanks.Given as goal

-- the others were put
abbrev pub invariant-loop-left : goal.invariant-loop-left
invariant-loop-left g l = record {
  within : l.left ≤ l.blanks;
  put : Adds (replicate (l.blanks - l.left) 32) (g.P.Paper.output l.initial.page l.initial.paper) (g.P.Paper.output l.page l.paper);
}

abbrev pub decreases-loop-left : goal.decreases-loop-left
decreases-loop-left g l = l.left
