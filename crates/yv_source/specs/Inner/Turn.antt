-- One turn of the reader, by what the scanner found; cited by private clauses only.
use Rattle.std.specs.Prelude.{ℕ, ◌+◌, List, take, drop, Option, Some, None}
use Rattle.yv_text_statement.specs.Tree.{Tree}
use Rattle.yv_source.specs.Pieces.{Piece, Word, Single, Double, Semicolon, Open, Close, Plus, Before, Apart, UnquotedWord, QuotedText, past_gap}
use Rattle.yv_source.specs.Inner.Machine.{Step, Next, step_at}
use Rattle.yv_source.specs.Outcome.{most_deep}
use Rattle.yv_source.specs.Inner.Place.{Place}
use Rattle.yv_source.specs.declared.machine.Phase.{Phase}
use Rattle.yv_source.specs.declared.scan.FoundPiece.{FoundPiece}
use Rattle.yv_source.specs.declared.scan.FoundPiece.TheVariants as found

-- the bytes of a piece before the text inside it
abbrev pub opener : FoundPiece → ℕ
opener (found.Single n) = 1
opener (found.Double n) = 1
opener _ = 0

-- those of that text
abbrev pub inner : FoundPiece → ℕ
inner (found.Word n) = n
inner (found.Single n) = n
inner (found.Double n) = n
inner _ = 0

-- those of the whole piece
abbrev pub length_of : FoundPiece → ℕ
length_of found.Blank = 1
length_of (found.LineComment n) = n + 2
length_of (found.BlockComment n) = n + 4
length_of (found.Word n) = n
length_of (found.Single n) = n + 2
length_of (found.Double n) = n + 2
length_of found.Semicolon = 1
length_of found.Open = 1
length_of found.Close = 1
length_of found.Plus = 1

-- what comes before the next place, after a piece
abbrev pub past_found : Before → FoundPiece → Before
past_found before found.Blank = past_gap before
past_found before (found.LineComment n) = past_gap before
past_found before (found.BlockComment n) = past_gap before
past_found before (found.Word n) = UnquotedWord
past_found before (found.Single n) = QuotedText
past_found before (found.Double n) = QuotedText
past_found before _ = Apart

-- the token of a piece with this text inside it
abbrev pub token_at : FoundPiece → List ℕ → Option Piece
token_at (found.Word n) t = Some (Word t)
token_at (found.Single n) t = Some (Single t)
token_at (found.Double n) t = Some (Double t)
token_at found.Semicolon t = Some Semicolon
token_at found.Open t = Some Open
token_at found.Close t = Some Close
token_at found.Plus t = Some Plus
token_at _ t = None

abbrev pub maybe_step : Option Piece → List Tree → Phase → Place → Step
maybe_step None stack phase place = Next stack phase
maybe_step (Some p) stack phase place = step_at most_deep stack phase place p

-- what the machine makes of a piece at a place of a text
abbrev pub turn : List ℕ → FoundPiece → List Tree → Phase → Place → Step
turn text f stack phase place =
    maybe_step (token_at f (take (inner f) (drop (place.at + opener f) text))) stack phase place
