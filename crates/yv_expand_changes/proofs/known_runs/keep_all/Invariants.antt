use Rattle.std.proofs.Common.{◌≡◌, length}
use Rattle.yv_expand_refines.specs.Changes.{each}
use Rattle.yv_expand_changes.specs.InnerAlike.{AreRuns, KeepsRuns}
use Rattle.yv_expand_changes.specs.InnerLists.{lists_of}
use Rattle.yv_expand_changes.proofs.known_runs.keep_all.Given as goal

abbrev pub invariant-loop-run : goal.invariant-loop-run
invariant-loop-run l = record {
  as_many : length l.numbers.items ≡ length l.yielded;
  numbers : AreRuns l.changes.runs l.numbers.items (lists_of l.yielded);
  each : each l.changes ≡ each l.initial.changes;
  runs : KeepsRuns l.initial.changes.runs l.changes.runs;
}
