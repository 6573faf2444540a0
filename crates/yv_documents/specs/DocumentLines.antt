-- The lines that are written of a document in text, without its label and their line feeds, and how
-- good it is, from 0 to 3.
use Rattle.std.specs.Prelude.{ℕ, Bool, List, [], ◌∷◌, ◌++◌, map, length, codes, decimal}
use Rattle.std.specs.declared.option.Option.{Option}
use Rattle.std.specs.declared.option.Option.TheVariants.{None, Some}
use Rattle.yv_nodes.specs.Rows.{Rows}
use Rattle.yv_text_statement.specs.declared.document_kind.Kind.{Kind}
use Rattle.yv_data_faults.specs.Flaw.{Flaw}
use Rattle.yv_data_faults.specs.Line.{line_text}
use Rattle.yv_validate.specs.Faults.{faults}
use Rattle.yv_batch.specs.AskedDocument.{AskedDocument, ReadResult, Read, Unread, NoRoom}
use Rattle.yv_json_lines.specs.declared.document.ValidationCost.{ValidationCost}
use Rattle.yv_documents.specs.Document.{DocumentText, TooLarge, NotJson, Reads, document_text}
use Rattle.yv_documents.specs.Steps.{cost_if, steps_line}

-- the line of how many faults there are
abbrev pub count_line : List Flaw → List ℕ
count_line flaws = codes "faults: " ++ decimal (length flaws)

-- the line of what the validation cost, where that is said
abbrev pub cost_lines : Option ValidationCost → List (List ℕ)
cost_lines None = []
cost_lines (Some cost) = steps_line cost ∷ []

-- a line for each fault, and one of how many they are; or one that there are none; and then what
-- the validation cost, where that is said
abbrev pub faults_lines : Option ValidationCost → List Flaw → List (List ℕ)
faults_lines cost [] = codes "valid" ∷ cost_lines cost
faults_lines cost (f ∷ fs) = map line_text (f ∷ fs) ++ count_line (f ∷ fs) ∷ cost_lines cost

-- the faults of a document of a kind, by what its bytes are
abbrev pub faults_in : Kind → Rows → DocumentText → List Flaw
faults_in k s TooLarge = []
faults_in k s NotJson = []
faults_in k s (Reads d) = faults k s d

-- the lines of a document of a kind, by what its bytes are; what its validation cost is said where
-- measures are asked for
abbrev pub reading_lines : (measures : Bool) → Kind → Rows → DocumentText → List (List ℕ)
reading_lines measures k s TooLarge = codes "data: too large" ∷ []
reading_lines measures k s NotJson = codes "data: not JSON" ∷ []
reading_lines measures k s (Reads d) = faults_lines (cost_if measures k s d) (faults k s d)

-- the lines of a document of these bytes
abbrev pub data_lines : (measures : Bool) → Kind → Rows → (given : List ℕ) → List (List ℕ)
data_lines measures k s given = reading_lines measures k s (document_text given)

-- the same by what is had of a document: a line of its own where it can't be read, or where memory
-- was refused
abbrev pub fetched_lines : (measures : Bool) → Kind → Rows → ReadResult → List (List ℕ)
fetched_lines measures k s (Read given) = data_lines measures k s given
fetched_lines measures k s Unread = codes "data: cannot read" ∷ []
fetched_lines measures k s NoRoom = codes "data: out of memory" ∷ []

-- the lines of a document that was asked for
abbrev pub asked_lines : (measures : Bool) → Kind → Rows → AskedDocument → List (List ℕ)
asked_lines measures k s a = fetched_lines measures k s a.fetched

-- ---- how good it is

-- 0 without faults, and 1 with some
abbrev pub faults_level : List Flaw → ℕ
faults_level [] = 0
faults_level (f ∷ fs) = 1

-- 2 for a document that is too large or not JSON
abbrev pub reading_level : Kind → Rows → DocumentText → ℕ
reading_level k s TooLarge = 2
reading_level k s NotJson = 2
reading_level k s (Reads d) = faults_level (faults k s d)

-- 3 for one that can't be read, or for which memory was refused
abbrev pub fetched_level : Kind → Rows → ReadResult → ℕ
fetched_level k s (Read given) = reading_level k s (document_text given)
fetched_level k s Unread = 3
fetched_level k s NoRoom = 3

-- how good a document is that was asked for
abbrev pub asked_level : Kind → Rows → AskedDocument → ℕ
asked_level k s a = fetched_level k s a.fetched
