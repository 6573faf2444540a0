use Rattle.yv_note_statements.proofs.EntryRows.{kinds_more, one_more, rows_more, roots_more}
use Rattle.yv_note_statements.proofs.entry.entries.Goals as goal

pub loop-number-preserved : goal.loop-number-preserved
loop-number-preserved c = (
  rows_more _ _ c.entry_of.result _ _ c.in_ok-push.ensures.items c.loop-number.invariant.0 c.entry_of.ensures.row,
  (
    kinds_more _ _ c.entry_of.result c.in_ok-push.ensures.items c.loop-number.invariant.1.0 c.entry_of.ensures.kind,
    (
      roots_more _ _ c.entry_of.result _ c.loop-number.number c.in_ok-push.ensures.items c.loop-number.invariant.1.1.1 c.entry_of.ensures.root c.loop-number.invariant.1.1.0,
      one_more _ _ c.entry_of.result _ c.in_ok-push.ensures.items c.loop-number.invariant.1.1.1,
    ),
  ),
)
