use Rattle.std.proofs.Common.{◌≡◌, drop}
use Rattle.yv_type_chains.specs.InnerCounts.{total_from}
use Rattle.yv_type_chains.proofs.counts.total.Given as goal

abbrev pub invariant-loop-member : goal.invariant-loop-member
invariant-loop-member l = total_from l.counts l.total (drop l.member-index l.members) ≡ total_from l.counts 0 l.members
