use Rattle.std.proofs.Common.{◌≡◌, ℕ}
use Rattle.std.specs.BTreeSet.{contains}
use Rattle.std.specs.Ordering.{nat_cmp}
use Rattle.yv_data_quiet.specs.NamedLeafs.{named_before}
use Rattle.yv_data_quiet.proofs.named_leafs.named_leafs.Given as goal

-- what the first nodes name
abbrev pub invariant-loop-index : goal.invariant-loop-index
invariant-loop-index l = (n : ℕ) → contains nat_cmp l.named n ≡ named_before l.schema l.index n
