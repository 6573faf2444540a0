use Rattle.std.proofs.Common.{◌≡◌, ◌-◌, List, length}
use Rattle.yv_expand_rounds.specs.declared.label.Label.{Label}
use Rattle.yv_expand_rounds.specs.Groups.{Groups}
use Rattle.yv_expand_rounds.specs.InnerGroups.{ArePlaces}
use Rattle.yv_expand_rounds.specs.InnerPendingPaths.{Lead, last_end}
use Rattle.yv_expand_rounds.proofs.FollowedPaths.{Follows}
use Rattle.yv_expand_rounds.proofs.places.ItemPlaces.follow.Given as goal

abbrev pub invariant-loop-end : goal.invariant-loop-end
invariant-loop-end l = record {
  end : l.end ≡ last_end l.trail.ends.items;
  follows : (labels : List Label) (groups : Groups) → ArePlaces labels groups l.self
      → Lead labels groups l.path (length l.fn.trail.ends.items) (last_end l.fn.trail.ends.items)
      → Follows labels groups l.path l.fn.trail.ends.items l.trail.ends.items;
}

abbrev pub decreases-loop-end : goal.decreases-loop-end
decreases-loop-end l = length l.path - length l.trail.ends.items
