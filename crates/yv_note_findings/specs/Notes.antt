-- What is said of findings.
use Rattle.std.specs.Prelude.{◌≡◌, ◌++◌, ℕ, List, [], Option, Some, None, length, min, slice_get, codes}
use Rattle.std.specs.List.{AllZip}
use Rattle.yv_base_streams.specs.Files.{File}
use Rattle.yv_lint.specs.Rules.{name_of}
use Rattle.yv_lint.specs.declared.finding.Finding.{Finding}
use Rattle.yv_note_lines.specs.Lines.{cleared_line, join_texts}
use Rattle.yv_note_text.specs.Excerpt.{ShowsPlace}

-- The note on a finding in a file with these bytes: the line that holds its place, and below that
-- the rule's name with a sentence. Which words the sentence has is not said.
pub record IsNote (bytes : List ℕ) (finding : Finding) (text : List ℕ) : Type 0 where
  pub line : List ℕ
  pub sentence : List ℕ
  pub shows : ShowsPlace bytes (min finding.offset (length bytes)) line
  pub is : text ≡ line ++ (name_of finding.rule ++ (codes ": " ++ cleared_line sentence))

-- the bytes of a file, where there is one
abbrev pub bytes_at : Option File → List ℕ
bytes_at None = []
bytes_at (Some f) = f.bytes

-- the note on a finding in one of these files
abbrev pub IsNoteIn : List File → Finding → List ℕ → Type 0
IsNoteIn files finding text = IsNote (bytes_at (slice_get files finding.file)) finding text

-- the text is a note on each of these findings in these files, in their order
pub record AreNotes (files : List File) (findings : List Finding) (text : List ℕ) : Type 0 where
  pub notes : List (List ℕ)
  pub each : AllZip (IsNoteIn files) findings notes
  pub is : text ≡ join_texts notes
