use Rattle.std.proofs.Common.{◌+◌, ◌-◌, ◌*◌, get_or}
use Rattle.yv_link_identities.proofs.Ways.{NoneLeads, NoneEnters, NoneCrosses}
use Rattle.yv_link_identities.proofs.hierarchy.Hierarchy.+ways.Given as goal

abbrev pub decreases-enters : goal.decreases-enters
decreases-enters l = 3 * (l.middle - get_or l.self.now.ranks.items l.to 0) + 3

abbrev pub decreases-leads : goal.decreases-leads
decreases-leads l = 3 * (get_or l.self.now.ranks.items l.from 0 - get_or l.self.now.ranks.items l.to 0) + 2

abbrev pub decreases-leads_far : goal.decreases-leads_far
decreases-leads_far l = 3 * (get_or l.self.now.ranks.items l.from 0 - get_or l.self.now.ranks.items l.to 0) + 1

abbrev pub decreases-leads_near : goal.decreases-leads_near
decreases-leads_near l = 3 * (get_or l.self.now.ranks.items l.from 0 - get_or l.self.now.ranks.items l.to 0) + 1

abbrev pub invariant-enters-loop-base : goal.invariant-enters-loop-base
invariant-enters-loop-base l = NoneEnters l.self.bases.items l.self.ranks.items l.middle l.base-items l.base-index l.to

abbrev pub invariant-leads_far-loop-place : goal.invariant-leads_far-loop-place
invariant-leads_far-loop-place l = NoneCrosses l.self.bases.items l.self.ranks.items l.self.order.items l.middle l.place l.from l.to

abbrev pub invariant-leads_near-loop-base : goal.invariant-leads_near-loop-base
invariant-leads_near-loop-base l = NoneLeads l.self.bases.items l.base-items l.base-index l.to
