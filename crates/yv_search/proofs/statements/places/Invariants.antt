use Rattle.std.proofs.Common.{map, drop, [], false}
use Rattle.yv_text_statement.specs.Tree.{forest, trees}
use Rattle.yv_search.specs.InnerEdges.{place}
use Rattle.yv_search.proofs.PlaceListing.{Lists}
use Rattle.yv_search.proofs.statements.places.Given as goal

abbrev pub invariant-loop-child : goal.invariant-loop-child
invariant-loop-child l = Lists false [] (map place l.list.items) (forest (trees l.root.children)) (forest (drop l.child-index (trees l.root.children)))
