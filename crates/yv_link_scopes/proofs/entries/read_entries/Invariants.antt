use Rattle.std.proofs.Common.{map}
use Rattle.yv_link_scopes.specs.Rows.{row, tree}
use Rattle.yv_link_scopes.proofs.Bodies.{Roots, Bodies}
use Rattle.yv_link_scopes.proofs.StatementTraversal.{TellsRoots, TellsBodies}
use Rattle.yv_link_scopes.proofs.entries.read_entries.Given as goal

abbrev pub invariant-loop-file : goal.invariant-loop-file
invariant-loop-file l = record {
  rows : Roots l.roots (map row l.entries.items) l.file;
  trees : TellsRoots l.roots (map tree l.entries.items) l.file;
}

abbrev pub invariant-loop-number : goal.invariant-loop-number
invariant-loop-number l = record {
  rows : Bodies l.roots (map row l.entries.items) l.number;
  trees : TellsBodies l.roots (map tree l.entries.items) l.number;
}
