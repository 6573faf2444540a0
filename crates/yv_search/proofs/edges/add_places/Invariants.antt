use Rattle.std.proofs.Common.{◌≡◌, ◌++◌, map, take}
use Rattle.std.specs.List.{flat_map}
use Rattle.yv_search.specs.InnerModules.{lookup}
use Rattle.yv_search.specs.InnerEdges.{place, place_edges}
use Rattle.yv_search.proofs.edges.add_places.Given as goal

abbrev pub invariant-loop-at : goal.invariant-loop-at
invariant-loop-at l = l.edges.items ≡ l.initial.edges.items ++ flat_map (place_edges l.origin.number (lookup l.origin.prefixes.now)) (take l.at-index (map place l.at-items))
