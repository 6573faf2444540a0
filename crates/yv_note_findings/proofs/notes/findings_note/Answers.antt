use Rattle.std.proofs.Common.{map, string_bytes}
use Rattle.std.proofs.lemmas.Result.{IfOk-weaker}
use Rattle.yv_base_streams.specs.Files.{file_of}
use Rattle.yv_note_findings.proofs.NoteLines.{notes_clear, notes_short}
use Rattle.yv_note_findings.proofs.notes.findings_note.Goals as goal

pub returns-clause-clear : goal.returns-clause-clear
returns-clause-clear c =
    IfOk-weaker c.notes_on.result _ _ (λ s holds. notes_clear (map file_of c.args.inputs.now) c.args.findings.now (string_bytes s) holds) c.notes_on.ensures

pub returns-clause-short : goal.returns-clause-short
returns-clause-short c =
    IfOk-weaker c.notes_on.result _ _ (λ s holds. notes_short (map file_of c.args.inputs.now) c.args.findings.now (string_bytes s) holds) c.notes_on.ensures
