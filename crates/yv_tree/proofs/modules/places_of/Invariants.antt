use Rattle.std.proofs.Common.{◌≡◌, ◌≤◌, ℕ, drop, length}
use Rattle.std.specs.BTreeMap.{get}
use Rattle.std.specs.Ordering.{nat_cmp}
use Rattle.yv_tree.specs.InnerModules.{place_from}
use Rattle.yv_tree.proofs.modules.places_of.Given as goal

-- the places from here on are known
abbrev pub invariant-loop-left : goal.invariant-loop-left
invariant-loop-left l = record {
  within : l.left ≤ length l.modules;
  known : (module_file : ℕ) → get nat_cmp l.places module_file ≡ place_from l.left (drop l.left l.modules) module_file;
}

abbrev pub decreases-loop-left : goal.decreases-loop-left
decreases-loop-left l = l.left
