use Rattle.std.proofs.Common.{◌≡◌, ◌-◌, drop, length}
use Rattle.yv_nodes.specs.Rows.{children_of}
use Rattle.yv_data_quiet.specs.Runs.{AreRuns, IsRun}
use Rattle.yv_data_quiet.proofs.runs.child_runs.Given as goal

-- the runs of so many children, of which the last one begins where the others end
abbrev pub invariant-loop-index : goal.invariant-loop-index
invariant-loop-index l =
    record {
      many : length l.runs.items ≡ l.index;
      runs : AreRuns l.schema (children_of l.schema l.fn.parent) l.runs.items;
      run : IsRun l.schema (drop (length (children_of l.schema l.fn.parent) - l.index) (children_of l.schema l.fn.parent)) l.run;
    }
