use Rattle.std.proofs.Common.{length, ◌-◌}
use Rattle.yv_link_identities.proofs.DerivationRanks.{Finding}
use Rattle.yv_link_identities.proofs.Sets.{least_or}
use Rattle.yv_link_identities.proofs.hierarchy.Hierarchy.below.Given as goal

abbrev pub invariant-loop-rank : goal.invariant-loop-rank
invariant-loop-rank l = Finding l.self.bases.items l.self.ranks.items l.self.order.items l.base l.found l.pending

abbrev pub decreases-loop-rank : goal.decreases-loop-rank
decreases-loop-rank l = length l.self.order.items - least_or (length l.self.order.items) l.pending
