use Rattle.std.proofs.Common.{map}
use Rattle.yv_note_statements.specs.Lists.{block_of, configured_by, grouping_of}
use Rattle.yv_note_statements.proofs.StatementLinks.{AreLinked}
use Rattle.yv_note_statements.proofs.statement_lists.StatementLists.read.Given as goal

abbrev pub invariant-loop-number : goal.invariant-loop-number
invariant-loop-number l = record {
  children : AreLinked (map block_of l.entries) l.lists.children l.number;
  uses : AreLinked (map grouping_of l.entries) l.lists.uses l.number;
  configs : AreLinked (map configured_by l.entries) l.lists.configs l.number;
}

abbrev pub decreases-loop-number : goal.decreases-loop-number
decreases-loop-number l = l.number
