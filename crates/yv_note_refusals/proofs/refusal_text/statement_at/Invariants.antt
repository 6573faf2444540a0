use Rattle.std.proofs.Common.{◌≡◌, map, drop}
use Rattle.std.specs.List.{find}
use Rattle.yv_link_scopes.specs.Rows.{row}
use Rattle.yv_note_refusals.specs.Subject.{is_at}
use Rattle.yv_note_refusals.proofs.refusal_text.statement_at.Given as goal

abbrev pub invariant-loop-entry : goal.invariant-loop-entry
invariant-loop-entry l = find (is_at l.refusal) (map row (drop l.entry-index l.entry-items)) ≡ find (is_at l.refusal) (map row l.entry-items)
