use Rattle.std.proofs.Common.{string_bytes}
use Rattle.yv_note_selection.proofs.SentenceLines.{one_more}
use Rattle.yv_note_selection.proofs.lines.lines_on.Goals as goal

pub loop-sentence-preserved : goal.loop-sentence-preserved
loop-sentence-preserved c =
    one_more c.loop-sentence.sentence-index (string_bytes c.loop-sentence.text) (string_bytes c.push_line.new.text) c.as_str.result.now c.loop-sentence.invariant c.in_ok-push_line.ensures
