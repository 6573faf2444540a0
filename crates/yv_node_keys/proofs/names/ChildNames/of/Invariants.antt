use Rattle.std.proofs.Common.{◌≡◌, ◌≤◌, ℕ, List, drop, length}
use Rattle.std.specs.List.{find}
use Rattle.yv_node_keys.specs.Numbers.{is_called_at}
use Rattle.yv_node_keys.specs.InnerNames.{told_of}
use Rattle.yv_node_keys.proofs.names.ChildNames.of.Given as goal

-- what is told is what the nodes say that were met, the last ones
abbrev pub invariant-loop-left : goal.invariant-loop-left
invariant-loop-left l = record {
  within : l.left ≤ length l.children;
  tells : (module_file : ℕ) (name : List ℕ) → told_of l.names module_file name ≡ find (is_called_at l.nodes module_file name) (drop l.left l.children);
}

abbrev pub decreases-loop-left : goal.decreases-loop-left
decreases-loop-left l = l.left
