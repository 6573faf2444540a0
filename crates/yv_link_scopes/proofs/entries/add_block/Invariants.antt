use Rattle.std.proofs.Common.{map, drop}
use Rattle.yv_text_statement.specs.Tree.{forest}
use Rattle.yv_link_scopes.specs.Rows.{row, tree}
use Rattle.yv_link_scopes.proofs.Listing.{Lists}
use Rattle.yv_link_scopes.proofs.StatementTraversal.{Tells}
use Rattle.yv_link_scopes.proofs.entries.add_block.Given as goal

abbrev pub invariant-loop-child : goal.invariant-loop-child
invariant-loop-child l = record {
  rows : Lists l.file l.scope (map row l.fn.entries.items) (map row l.entries.items) (forest l.block) (forest (drop l.child-index l.block));
  trees : Tells (map tree l.fn.entries.items) (map tree l.entries.items) (forest l.block) (forest (drop l.child-index l.block));
}
