use Rattle.std.proofs.Common.{◌≡◌, ◌++◌, take}
use Rattle.std.specs.List.{flat_map}
use Rattle.yv_text_statement.specs.Tree.{trees}
use Rattle.yv_search.specs.InnerModules.{lookup}
use Rattle.yv_search.specs.InnerEdges.{augment_edges}
use Rattle.yv_search.proofs.edges.add_augments.Given as goal

abbrev pub invariant-loop-statement : goal.invariant-loop-statement
invariant-loop-statement l = l.edges.items ≡ l.initial.edges.items ++ flat_map (augment_edges l.origin.number (lookup l.origin.prefixes.now)) (take l.statement-index (trees l.root.children))
