use Rattle.std.proofs.Common.{◌≡◌, ◌≤◌, ℕ, length, drop}
use Rattle.std.specs.BTreeMap.{get}
use Rattle.std.specs.Ordering.{nat_cmp}
use Rattle.yv_expand_changes.specs.InnerAlike.{first_from}
use Rattle.yv_expand_changes.proofs.ways.first_paths.Given as goal

abbrev pub invariant-loop-left : goal.invariant-loop-left
invariant-loop-left l = record {
  within : l.left ≤ length l.targets;
  firsts : (item : ℕ) → get nat_cmp l.firsts item ≡ first_from l.left (drop l.left l.targets) item;
}

abbrev pub decreases-loop-left : goal.decreases-loop-left
decreases-loop-left l = l.left
