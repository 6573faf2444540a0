use Rattle.std.proofs.Common.{string_bytes}
use Rattle.std.specs.Option.{option_map}
use Rattle.yv_call_run.specs.NoteParts.{line_text}
use Rattle.yv_call_run.proofs.RunLemmas.{has_note}
use Rattle.yv_call_run.proofs.answers.answer_run.Goals as goal

pub returns-clause-note : goal.returns-clause-note
returns-clause-note c =
    has_note string_bytes c.args.done.run.note (string_bytes c.args.done.notes)
    (line_text (option_map (λ l. l.now) c.complaint.result)) (string_bytes c.note_of.result)
    (string_bytes c.selection_note.result) c.note_of.ensures
