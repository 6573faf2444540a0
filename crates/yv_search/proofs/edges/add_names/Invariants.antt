use Rattle.std.proofs.Common.{◌≡◌, ◌++◌, map, take}
use Rattle.std.specs.List.{flat_map}
use Rattle.yv_search.specs.InnerModules.{lookup}
use Rattle.yv_search.specs.InnerEdges.{part_edges}
use Rattle.yv_search.proofs.edges.add_names.Given as goal

abbrev pub invariant-loop-part : goal.invariant-loop-part
invariant-loop-part l = l.edges.items ≡ l.initial.edges.items ++ flat_map (part_edges l.origin.number (lookup l.origin.prefixes.now) l.way) (take l.part-index (map (λ p. p.now) l.part-items))
