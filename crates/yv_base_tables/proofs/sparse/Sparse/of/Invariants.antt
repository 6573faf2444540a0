use Rattle.std.proofs.Common.{◌≡◌, ◌<◌, ◌≤◌, ℕ, length, None, vec_len}
use Rattle.std.specs.List.{slice_get}
use Rattle.std.specs.Ordering.{nat_cmp}
use Rattle.std.specs.BTreeMap.{get}
use Rattle.yv_base_tables.specs.Sparse.{item_at}
use Rattle.yv_base_tables.proofs.sparse.Sparse.of.Given as goal

-- what stands behind those that are left is kept, and nothing else
abbrev pub invariant-loop-last : goal.invariant-loop-last
invariant-loop-last g l = record {
  same : (k : ℕ) → k < length l.left.items → slice_get l.left.items k ≡ slice_get l.fn.items.items k;
  none : (k : ℕ) → k < length l.left.items → get nat_cmp l.map k ≡ None;
  kept : (k : ℕ) → length l.left.items ≤ k → get nat_cmp l.map k ≡ item_at l.fn.items.items k;
}

abbrev pub decreases-loop-last : goal.decreases-loop-last
decreases-loop-last g l = vec_len l.left
