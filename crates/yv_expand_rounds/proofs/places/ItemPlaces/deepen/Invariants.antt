use Rattle.std.proofs.Common.{◌≤◌, List, ℕ, length}
use Rattle.yv_base_tables.specs.InnerTree.{IsPathTree}
use Rattle.yv_expand_rounds.specs.declared.label.Label.{Label}
use Rattle.yv_expand_rounds.specs.Groups.{Groups}
use Rattle.yv_expand_rounds.specs.InnerArrivals.{FollowsSome, Gains}
use Rattle.yv_expand_rounds.specs.InnerGroups.{ArePlaces}
use Rattle.yv_expand_rounds.proofs.places.ItemPlaces.deepen.Given as goal

abbrev pub invariant-loop-place : goal.invariant-loop-place
invariant-loop-place l = record {
  longer : length l.fn.found.items ≤ length l.found.items;
  gains : (labels : List Label) (groups : Groups) (all : List (List ℕ)) → ArePlaces labels groups l.self → IsPathTree all l.paths
      → Gains (FollowsSome labels groups l.limit all l.fn.found.items l.first (length l.fn.found.items))
      (FollowsSome labels groups l.limit all l.fn.found.items l.first l.place) l.fn.found.items l.found.items;
}
