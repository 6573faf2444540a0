-- The note of a call.
use Rattle.std.specs.Prelude.{◌≡◌, ℕ, List, [], ◌∷◌, ◌++◌, string_bytes, IfOk}
use Rattle.std.specs.Option.{option_map, option_map_or}
use Rattle.std.specs.declared.option.Option.{Option}
use Rattle.yv_call_run.specs.declared.note.Note.{Note}
use Rattle.yv_run.specs.declared.whole_run.RunEnd.{RunEnd}

-- a line with its line feed, where there is one
abbrev pub line_text : Option (List ℕ) → List ℕ
line_text line = option_map_or (λ l. l ++ 10 ∷ []) line []

-- its parts one after the other
abbrev pub note_text : Note → List ℕ
note_text note = string_bytes note.first ++ (line_text (option_map (λ l. l.now) note.line)
    ++ (string_bytes note.run ++ string_bytes note.last))

-- a part of a text
abbrev pub Has : (text part : List ℕ) → Type 0
Has text part = (before after : List ℕ) × (text ≡ before ++ (part ++ after))

-- the note of a run is a part of the text, unless there was no memory for it
abbrev pub HasNote : RunEnd → (text : List ℕ) → Type 0
HasNote run text = IfOk run.note (λ note. Has text (option_map_or string_bytes note []))
