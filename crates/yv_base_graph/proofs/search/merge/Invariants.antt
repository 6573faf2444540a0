use Rattle.std.proofs.Common.{ℕ, ◌<◌, ◌≤◌, length, get_or}
use Rattle.yv_base_graph.proofs.search.merge.Given as goal

abbrev pub invariant-loop-count : goal.invariant-loop-count
invariant-loop-count l = (l.count ≤ length l.heads.items) × ((i : ℕ) → l.count ≤ i → i < length l.heads.items → l.place < get_or l.heads.items i 0)

abbrev pub decreases-loop-count : goal.decreases-loop-count
decreases-loop-count l = l.count
