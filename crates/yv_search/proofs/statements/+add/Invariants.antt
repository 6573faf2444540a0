use Rattle.std.proofs.Common.{map, drop}
use Rattle.yv_text_statement.specs.Tree.{forest, trees, count}
use Rattle.yv_search.specs.InnerEdges.{place}
use Rattle.yv_search.proofs.PlaceListing.{Lists}
use Rattle.yv_search.proofs.statements.+add.Given as goal

abbrev pub invariant-loop-child : goal.invariant-loop-child
invariant-loop-child l = Lists l.lent (map place l.initial.list.items) (map place l.list.items) (forest (trees l.statement.children)) (forest (drop l.child-index (trees l.statement.children)))

abbrev pub decreases-add : goal.decreases-add
decreases-add l = count l.statement.now.children
