use Rattle.std.proofs.Common.{◌≡◌, ◌||◌, ℕ, drop}
use Rattle.std.specs.BTreeSet.{contains}
use Rattle.std.specs.Ordering.{nat_cmp}
use Rattle.yv_data_quiet.specs.NamedLeafs.{are_named}
use Rattle.yv_data_quiet.proofs.Leafs.{named_leafs}
use Rattle.yv_data_quiet.proofs.named_leafs.add_leafs.Given as goal

-- the leafs so far, and those that are left
abbrev pub invariant-loop-leaf : goal.invariant-loop-leaf
invariant-loop-leaf l =
    (n : ℕ) → (are_named (named_leafs (drop l.leaf-index l.leafs)) n || contains nat_cmp l.named n) ≡ (are_named (named_leafs l.leafs) n || contains nat_cmp l.initial.named n)
