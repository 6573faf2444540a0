use Rattle.std.proofs.Common.{◌≡◌, ◌≤◌, drop}
use Rattle.yv_lint.specs.FileNames.{last_part, last_part_after}
use Rattle.yv_lint.proofs.Cuts.{cut}
use Rattle.yv_lint.proofs.file_names.last_part.Given as goal

abbrev pub invariant-loop-i : goal.invariant-loop-i
invariant-loop-i l = record {
  within : l.start ≤ l.i;
  same : last_part_after (cut l.start l.i l.path) (drop l.i l.path) ≡ last_part l.path;
}
