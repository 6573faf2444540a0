use Rattle.std.proofs.Common.{map, take, string_bytes}
use Rattle.yv_base_streams.specs.Files.{file_of}
use Rattle.yv_note_findings.specs.Notes.{AreNotes}
use Rattle.yv_note_findings.proofs.notes.notes_on.Given as goal

abbrev pub invariant-loop-finding : goal.invariant-loop-finding
invariant-loop-finding l = AreNotes (map file_of l.inputs) (take l.finding-index l.findings) (string_bytes l.text)
