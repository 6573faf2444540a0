use Rattle.std.proofs.Common.{map, drop}
use Rattle.yv_text_statement.specs.Tree.{forest, trees, count}
use Rattle.yv_link_scopes.specs.Rows.{row, tree}
use Rattle.yv_link_scopes.proofs.Listing.{Lists}
use Rattle.yv_link_scopes.proofs.StatementTraversal.{Tells}
use Rattle.yv_link_scopes.proofs.entries.+add.Given as goal

abbrev pub invariant-loop-child : goal.invariant-loop-child
invariant-loop-child l = record {
  rows : Lists l.file l.number (map row l.initial.entries.items) (map row l.entries.items) (forest (trees l.statement.children)) (forest (drop l.child-index (trees l.statement.children)));
  trees : Tells (map tree l.initial.entries.items) (map tree l.entries.items) (forest (trees l.statement.children)) (forest (drop l.child-index (trees l.statement.children)));
}

abbrev pub decreases-add : goal.decreases-add
decreases-add l = count l.statement.now.children
