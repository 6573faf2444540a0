use Rattle.std.proofs.Common.{List, ℕ, ◌≤◌, length}
use Rattle.yv_base_tables.specs.InnerTree.{IsPathTree}
use Rattle.yv_expand_rounds.specs.declared.label.Label.{Label}
use Rattle.yv_expand_rounds.specs.Groups.{Groups}
use Rattle.yv_expand_rounds.specs.InnerArrivals.{Follows, Gains, Meets}
use Rattle.yv_expand_rounds.specs.InnerGroups.{ArePlaces}
use Rattle.yv_expand_rounds.proofs.places.ItemPlaces.meet_all.Given as goal

abbrev pub invariant-loop-item : goal.invariant-loop-item
invariant-loop-item l = record {
  longer : length l.fn.found.items ≤ length l.found.items;
  gains : (labels : List Label) (groups : Groups) (all : List (List ℕ)) → ArePlaces labels groups l.self → IsPathTree all l.paths
      → Gains (Follows labels groups l.limit all l.from) (Meets labels groups l.limit all l.from l.items l.item-index) l.fn.found.items l.found.items;
}
