use Rattle.std.proofs.Common.{◌≡◌, ◌≤◌, ℕ, length, drop}
use Rattle.std.specs.BTreeMap.{get}
use Rattle.std.specs.Ordering.{nat_cmp}
use Rattle.yv_expand_uses.specs.InnerLeadingPaths.{first_from}
use Rattle.yv_expand_uses.proofs.leading_paths.places_of.Given as goal

abbrev pub invariant-loop-left : goal.invariant-loop-left
invariant-loop-left l = record {
  within : l.left ≤ length l.paths;
  firsts : (path : ℕ) → get nat_cmp l.places path ≡ first_from l.left (drop l.left l.paths) path;
}

abbrev pub decreases-loop-left : goal.decreases-loop-left
decreases-loop-left l = l.left
