-- The line on one fault, and the one on a repeated member.
use Rattle.std.specs.Prelude.{◌≡◌, ◌≤◌, ℕ, ◌==◌, List, [], ◌++◌, ◌∷◌, length, codes, decimal, if◌then◌else◌}
use Rattle.yv_note_lines.specs.Lines.{cleared_line, visible_text}
use Rattle.yv_note_text.specs.Quotes.{in_quotes}
use Rattle.yv_data_faults.specs.Line.{kind_name, line_text, places_text}
use Rattle.yv_data_leafrefs.specs.Place.{Place}
use Rattle.yv_data_faults.specs.Flaw.{Flaw}

-- a line and a column behind the name of a file
abbrev pub numbers_text : (line column : ℕ) → List ℕ
numbers_text line column = codes ":" ++ decimal line ++ codes ":" ++ decimal column ++ codes ": "

-- a place in the file of a document: FILE:LINE:COLUMN, with a dot for each byte that isn't visible
abbrev pub place_text : (name : List ℕ) → (line column : ℕ) → List ℕ
place_text name line column = visible_text name ++ visible_text (numbers_text line column)

-- a line that says this of a place in the file of this name, at a line and a column of at most 20
-- digits
pub record IsPlaced (name said line : List ℕ) : Type 0 where
  pub row : ℕ
  pub column : ℕ
  pub row_digits : length (decimal row) ≤ 20
  pub column_digits : length (decimal column) ≤ 20
  pub is : line ≡ place_text name row column ++ cleared_line said

-- the number of a statement, where there is one
abbrev pub number_text : ℕ → List ℕ
number_text n = if n == 0 then [] else codes " " ++ decimal n

-- a fault's line with two dots in place of the first steps of its path, of which these are the
-- others
abbrev pub shortened_line : Flaw → (others : List Place) → List ℕ
shortened_line f others =
    kind_name f.kind ++ codes " .." ++ places_text others ++ number_text f.number

-- how the sentence on a fault begins: as the fault's line on standard output, or, where that is
-- long, with two dots in place of the first steps
pub data Begins (f : Flaw) (front : List ℕ) : Type 0 where
  whole : front ≡ line_text f → Begins f front
  short : (first others : List Place) → f.path ≡ first ++ others → front ≡ shortened_line f others
      → Begins f front

-- the keys of the entry that the fault is in, if there are any
abbrev pub keys_text : List ℕ → List ℕ
keys_text [] = []
keys_text (b ∷ bs) = codes " (" ++ (b ∷ bs) ++ codes ")"

-- how many faults more are like this one, if there are any
abbrev pub like_text : ℕ → List ℕ
like_text n = if n == 0 then [] else codes " (and " ++ decimal n ++ codes " more like it)"

-- the line of a sentence: a place, the fault with the keys of its entry, how many more are like it,
-- and after a colon and a blank what is wrong and what to do
pub record IsSentence (name : List ℕ) (f : Flaw) (line : List ℕ) : Type 0 where
  pub front : List ℕ
  pub keys : List ℕ
  pub likes : ℕ
  pub advice : List ℕ
  pub begins : Begins f front
  pub placed :
      IsPlaced name (front ++ keys_text keys ++ like_text likes ++ codes ": " ++ advice) line

-- what is said of a member of this name that is repeated
abbrev pub repeat_text : (member : List ℕ) → List ℕ
repeat_text member =
    codes "member " ++ in_quotes member ++ codes " is repeated; the last one counts"

-- the line on a member that is repeated
pub record TellsRepeat (name line : List ℕ) : Type 0 where
  pub member : List ℕ
  pub placed : IsPlaced name (repeat_text member) line
