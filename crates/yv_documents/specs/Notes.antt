-- The note for a person on a document.
use Rattle.std.specs.Prelude.{◌≡◌, ℕ, List, [], ◌++◌, IsSomeAnd}
use Rattle.std.specs.Option.{unwrap_or}
use Rattle.std.specs.declared.option.Option.{Option}
use Rattle.yv_data_faults.specs.Flaw.{Flaw}
use Rattle.yv_note_faults.specs.Sentences.{Tells, TellsRepeats}
use Rattle.yv_note_json.specs.Document.{SaysWhy, TellsLarge}
use Rattle.yv_documents.specs.Document.{DocumentText, TooLarge, NotJson, Reads}

-- what is said of a document that was read, in the file of this name: lines on its first ten
-- repeated members, then sentences on its faults, at most so many, and how many have none
pub record TellsDocument (most : ℕ) (name : List ℕ) (fs : List Flaw) (text : List ℕ) : Type 0 where
  pub repeats : List ℕ
  pub lines : List ℕ
  pub rest : List ℕ
  pub repeated : TellsRepeats 10 name repeats
  pub tells : Tells most name fs lines rest
  pub is : text ≡ repeats ++ lines ++ rest

-- the note on given bytes in the file of this name, by what they are and by the faults of the
-- document: of what they have too many, why they are not JSON, or what is said of the document,
-- where it is said
abbrev pub NotesReading : (most : ℕ) → (name : List ℕ) → DocumentText → List Flaw
    → (given : List ℕ) → (note : Option (List ℕ)) → Type 0
NotesReading most name TooLarge fs given note = IsSomeAnd note (TellsLarge given)
NotesReading most name NotJson fs given note = IsSomeAnd note (SaysWhy given)
NotesReading most name (Reads d) fs given note = TellsDocument most name fs (unwrap_or note [])
