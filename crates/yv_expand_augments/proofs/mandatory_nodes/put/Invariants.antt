use Rattle.std.proofs.Common.{◌≡◌, ◌+◌, ◌-◌, ℕ, length}
use Rattle.yv_base_graph.specs.Marks.{is_marked}
use Rattle.yv_expand_augments.proofs.mandatory_nodes.put.Given as goal

abbrev pub invariant-loop-found : goal.invariant-loop-found
invariant-loop-found l = (d : ℕ) → is_marked l.found.items d ≡ is_marked l.initial.found.items d

abbrev pub decreases-loop-found : goal.decreases-loop-found
decreases-loop-found l = l.depth + 1 - length l.found.items
