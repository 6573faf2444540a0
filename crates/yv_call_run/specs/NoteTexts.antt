-- What a text of notes has.
use Rattle.std.specs.Prelude.{ℕ, List, string_bytes}
use Rattle.yv_call_run.specs.declared.sink.NoteText.{NoteText}

-- the bytes of all notes
abbrev pub notes_of : NoteText → List ℕ
notes_of notes = string_bytes notes.text
