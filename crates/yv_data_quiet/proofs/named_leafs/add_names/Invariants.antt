use Rattle.std.proofs.Common.{◌≡◌, ◌||◌, ℕ, drop}
use Rattle.std.specs.BTreeSet.{contains}
use Rattle.std.specs.Ordering.{nat_cmp}
use Rattle.yv_data_quiet.specs.NamedLeafs.{some_named, uniques_at}
use Rattle.yv_data_quiet.proofs.named_leafs.add_names.Given as goal

-- the leafs so far, and those of the `unique` statements that are left
abbrev pub invariant-loop-leafs : goal.invariant-loop-leafs
invariant-loop-leafs l =
    let s = l.schema in
    (n : ℕ) → (some_named (drop l.leafs-index (uniques_at s l.fn.list)) n || contains nat_cmp l.named n) ≡ (some_named (uniques_at s l.fn.list) n || contains nat_cmp l.initial.named n)
