use Rattle.std.proofs.Common.{◌≡◌, ◌||◌, ℕ, drop}
use Rattle.std.specs.BTreeSet.{contains}
use Rattle.std.specs.Ordering.{nat_cmp}
use Rattle.yv_nodes.specs.Link.{is_target}
use Rattle.yv_nodes.proofs.link.targets_of.Given as goal

-- the targets so far, and those of the links that are left
abbrev pub invariant-loop-link : goal.invariant-loop-link
invariant-loop-link l = (n : ℕ) → is_target l.links n ≡ (is_target (drop l.link-index l.links) n || contains nat_cmp l.targets n)
