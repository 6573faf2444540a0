use Rattle.std.proofs.Common.{◌≡◌, ℕ, List, drop}
use Rattle.yv_expand_refines.specs.Changes.{each}
use Rattle.yv_expand_changes.specs.InnerAlike.{AreRuns, noted_from}
use Rattle.yv_expand_changes.proofs.known_runs.note_all.Given as goal

abbrev pub invariant-loop-path : goal.invariant-loop-path
invariant-loop-path l = record {
  runs : l.changes.runs ≡ l.initial.changes.runs;
  each : (lists : List (List ℕ)) → AreRuns l.initial.changes.runs l.numbers lists
      → noted_from l.path (drop l.path l.targets) lists (each l.changes) ≡ noted_from 0 l.targets lists (each l.initial.changes);
}
