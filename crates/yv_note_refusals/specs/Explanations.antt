-- What is said of a refusal.
use Rattle.std.specs.Prelude.{◌≡◌, ◌++◌, ◌∷◌, ℕ, List, [], Option, Some, None, length, min, codes}
use Rattle.std.specs.List.{AllZip}
use Rattle.yv_text_statement.specs.Codes.{name_of}
use Rattle.yv_text_statement.specs.Tree.{Tree}
use Rattle.yv_text_statement.specs.declared.refusal.Refusal.{Refusal}
use Rattle.yv_link_scopes.specs.RowList.{rows_of}
use Rattle.yv_base_streams.specs.Files.{File}
use Rattle.yv_source.specs.FileStatements.{IsRead, IsUnreadAt}
use Rattle.yv_note_text.specs.Excerpt.{ShowsPlace}
use Rattle.yv_note_refusals.specs.Subject.{Names}

-- what a refusal of a file with these bytes means: the line that holds its place, and below that
-- the code's name with a sentence
abbrev pub Explains : List ℕ → Refusal → List ℕ → Type 0
Explains bytes refusal text =
    (line : List ℕ) × (sentence : List ℕ)
    × ShowsPlace bytes (min refusal.offset (length bytes)) line
    × (text ≡ line ++ (name_of refusal.code ++ (codes ": " ++ (sentence ++ 10 ∷ []))))

-- the bytes of a file, where there is one
abbrev pub bytes_at : Option File → List ℕ
bytes_at None = []
bytes_at (Some f) = f.bytes

-- the text names what the refusal speaks of, where the files can be read
pub data Speaks (files : List File) (r : Refusal) (text : List ℕ) : Type 0 where
  names_row : (ts : List Tree) → AllZip IsRead files ts → Names (rows_of ts) r text
      → Speaks files r text
  names_syntax : (q : Refusal) → IsUnreadAt files q → Speaks files r text
