use Rattle.std.proofs.Common.{◌≤◌, length}
use Rattle.yv_expand_rounds.proofs.group.Group.front.Given as goal

abbrev pub invariant-loop-front : goal.invariant-loop-front
invariant-loop-front l = l.front ≤ length l.self.members.items

abbrev pub decreases-loop-front : goal.decreases-loop-front
decreases-loop-front l = l.front
