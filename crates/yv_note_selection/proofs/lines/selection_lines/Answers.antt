use Rattle.std.proofs.Common.{length, string_bytes}
use Rattle.std.proofs.lemmas.Result.{IfOk-weaker}
use Rattle.yv_note_selection.proofs.SentenceLines.{few_lines, lines_clear, lines_short}
use Rattle.yv_note_selection.proofs.lines.selection_lines.Goals as goal

pub returns-clause-lines : goal.returns-clause-lines
returns-clause-lines c =
    IfOk-weaker c.lines_on.result _ _ (λ s holds. few_lines (length c.front_lines.result.now) (string_bytes s) holds c.front_lines.ensures) c.lines_on.ensures

pub returns-clause-clear : goal.returns-clause-clear
returns-clause-clear c =
    IfOk-weaker c.lines_on.result _ _ (λ s holds. lines_clear (string_bytes s) (few_lines (length c.front_lines.result.now) (string_bytes s) holds c.front_lines.ensures)) c.lines_on.ensures

pub returns-clause-short : goal.returns-clause-short
returns-clause-short c =
    IfOk-weaker c.lines_on.result _ _ (λ s holds. lines_short (string_bytes s) (few_lines (length c.front_lines.result.now) (string_bytes s) holds c.front_lines.ensures)) c.lines_on.ensures
