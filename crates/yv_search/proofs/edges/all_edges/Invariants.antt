use Rattle.std.proofs.Common.{◌≡◌, ◌++◌, take}
use Rattle.std.specs.List.{flat_map}
use Rattle.yv_search.specs.InnerModules.{lookup}
use Rattle.yv_search.specs.InnerEdges.{start_edges, file_edges}
use Rattle.yv_search.proofs.edges.all_edges.Given as goal

abbrev pub invariant-loop-root : goal.invariant-loop-root
invariant-loop-root l = l.edges.items ≡ l.initial.edges.items ++ flat_map (start_edges (lookup l.modules)) (take l.root-index l.root-items)

abbrev pub invariant-loop-root-2 : goal.invariant-loop-root-2
invariant-loop-root-2 l = l.edges.items ≡ l.initial.edges.items ++ flat_map (file_edges (lookup l.modules)) (take l.root-index l.roots)
