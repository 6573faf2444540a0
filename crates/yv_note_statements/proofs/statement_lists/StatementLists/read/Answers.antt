use Rattle.std.proofs.Common.{arith}
use Rattle.yv_note_statements.specs.Lists.{block_of, configured_by, grouping_of}
use Rattle.yv_note_statements.proofs.StatementLinks.{linked-entry}
use Rattle.yv_note_statements.proofs.statement_lists.StatementLists.read.Goals as goal

pub loop-number-preserved : goal.loop-number-preserved
loop-number-preserved c = record {
  children = linked-entry block_of _ _ _ _ c.loop-number.number _ (omega arith) c.loop-number.invariant.children
      c.put.ensures.children;
  uses = linked-entry grouping_of _ _ _ _ c.loop-number.number _ (omega arith) c.loop-number.invariant.uses
      c.put.ensures.uses;
  configs = linked-entry configured_by _ _ _ _ c.loop-number.number _ (omega arith) c.loop-number.invariant.configs
      c.put.ensures.configs;
}
