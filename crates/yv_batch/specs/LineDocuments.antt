-- The documents that are the lines of a source (NDJSON, JSON Lines).
use Rattle.std.specs.Prelude.{ℕ, ◌+◌, ◌==◌, ◌&&◌, ◌||◌, nat_le, Bool, List, [], ◌∷◌, length, take, if◌then◌else◌}
use Rattle.std.specs.List.{list_all}
use Rattle.std.specs.declared.option.Option.TheVariants.{Some}
use Rattle.yv_batch.specs.AskedDocument.{AskedDocument, Read}
use Rattle.yv_batch.specs.Pieces.{pieces}

-- a blank, a tab or a carriage return
abbrev pub is_blank_byte : ℕ → Bool
is_blank_byte b = (b == 32) || ((b == 9) || (b == 13))

-- a line that is no document: it isn't too large for one, and has these bytes alone
abbrev pub is_blank : List ℕ → Bool
is_blank line = nat_le (length line) 16777216 && list_all is_blank_byte line

-- the document that a line is: of one that is too large the first bytes say so
abbrev pub line_asked : (source : List ℕ) → (number : ℕ) → (line : List ℕ) → AskedDocument
line_asked source number line =
    record { name = source; line = Some number; fetched = Read (take 16777217 line) }

-- those of lines of which the first has this number
abbrev pub lines_asked : (source : List ℕ) → (number : ℕ) → List (List ℕ) → List AskedDocument
lines_asked source number [] = []
lines_asked source number (line ∷ lines) = if is_blank line
    then lines_asked source (number + 1) lines
    else line_asked source number line ∷ lines_asked source (number + 1) lines

-- those of a source of these bytes
abbrev pub line_documents : (source : List ℕ) → (bytes : List ℕ) → List AskedDocument
line_documents source bytes = lines_asked source 1 (pieces 10 bytes)
