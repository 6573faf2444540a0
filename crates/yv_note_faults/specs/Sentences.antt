-- The sentences for a person on the faults of a document.
use Rattle.std.specs.Prelude.{◌≡◌, ◌<◌, ◌≤◌, ℕ, ◌-◌, ◌*◌, Bool, true, false, List, [], ◌∷◌, ◌++◌, length, take, nat_lt, codes, decimal, if◌then◌else◌}
use Rattle.std.specs.List.{AllZip}
use Rattle.yv_data_faults.specs.Flaw.{Flaw}
use Rattle.yv_note_lines.specs.Lines.{cleared_line, join_texts}
use Rattle.yv_note_faults.specs.Line.{IsSentence, TellsRepeat}

-- the text is a sentence on each of these faults of the file of this name, in their order
pub record AreSentences (name : List ℕ) (fs : List Flaw) (text : List ℕ) : Type 0 where
  pub lines : List (List ℕ)
  pub each : AllZip (IsSentence name) fs lines
  pub is : text ≡ join_texts lines

-- the faults whose marks are these
abbrev pub marked_faults : (mark : Bool) → List Flaw → (marks : List Bool) → List Flaw
marked_faults mark [] marks = []
marked_faults mark (f ∷ fs) [] = []
marked_faults true (f ∷ fs) (true ∷ marks) = f ∷ marked_faults true fs marks
marked_faults true (f ∷ fs) (false ∷ marks) = marked_faults true fs marks
marked_faults false (f ∷ fs) (true ∷ marks) = marked_faults false fs marks
marked_faults false (f ∷ fs) (false ∷ marks) = f ∷ marked_faults false fs marks

-- the faults that have a line, of which there are at most so many: first those that lead, in their
-- order, and then the others
abbrev pub chosen_faults : (most : ℕ) → List Flaw → (leads : List Bool) → List Flaw
chosen_faults most fs leads = take most (marked_faults true fs leads ++ marked_faults false fs leads)

-- the line on the faults that have no line
abbrev pub more_line : ℕ → List ℕ
more_line count = cleared_line (codes "more faults: " ++ decimal count)

-- of so many faults, how many there are without a line
abbrev pub more_text : (most count : ℕ) → List ℕ
more_text most count = if nat_lt most count then more_line (count - most) else []

-- that so many of all faults are about state data
abbrev pub state_text : (missing count : ℕ) → List ℕ
state_text missing count = decimal missing ++ codes " of " ++ decimal count
    ++ codes " faults are missing state data; "
    ++ codes "if the document is configuration alone, use --kind config"

-- the same as a line
abbrev pub state_line : (missing count : ℕ) → List ℕ
state_line missing count = cleared_line (state_text missing count)

-- a hint where most of so many faults are about state data that is missing
pub data IsHint (count : ℕ) (hint : List ℕ) : Type 0 where
  no_hint : hint ≡ [] → IsHint count hint
  state : (missing : ℕ) → missing ≤ count → count < 2 * missing → hint ≡ state_line missing count
      → IsHint count hint

-- What is said of the faults of a document in the file of this name: the lines are sentences on at
-- most so many of them. First come those that lead, which are some of the faults, in their order;
-- then the others. The rest says how many there are without a line, and may give a hint.
pub record Tells (most : ℕ) (name : List ℕ) (fs : List Flaw) (lines rest : List ℕ) : Type 0 where
  pub leads : List Bool
  pub each : length leads ≡ length fs
  pub are : AreSentences name (chosen_faults most fs leads) lines
  pub hint : List ℕ
  pub hints : IsHint (length fs) hint
  pub is : rest ≡ more_text most (length fs) ++ hint

-- each of these lines is on a repeated member
abbrev pub AreRepeats : (name : List ℕ) → (lines : List (List ℕ)) → Type 0
AreRepeats name [] = Unit {0}
AreRepeats name (line ∷ lines) = TellsRepeat name line × AreRepeats name lines

-- what is said of repeated members of a document in the file of this name: a line on each of at
-- most so many
pub record TellsRepeats (most : ℕ) (name text : List ℕ) : Type 0 where
  pub lines : List (List ℕ)
  pub count : length lines ≤ most
  pub each : AreRepeats name lines
  pub is : text ≡ join_texts lines
