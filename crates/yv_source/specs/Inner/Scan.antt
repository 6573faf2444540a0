-- The first piece of a text, as the scanner finds it; cited by private clauses only. What may be at
-- a place is Pieces'.
use Rattle.std.specs.Prelude.{ℕ, Bool, true, false, ◌==◌, ◌&&◌, ◌||◌, cond, List, [], ◌∷◌, length, Option, Some, None}
use Rattle.yv_source.specs.Characters.{line_feed, double_quote, single_quote, asterisk, plus_sign, slash, semicolon, backslash, opening_brace, closing_brace}
use Rattle.yv_source.specs.Pieces.{Piece, Blank, LineComment, BlockComment, Word, Single, Double, Semicolon, Open, Close, Plus, is_blank, begins, begins_two, until, ends_word, up_to_quote, Before, Apart, UnquotedWord, QuotedText}
use Rattle.yv_source.specs.declared.scan.Ahead.{Ahead}
use Rattle.yv_source.specs.declared.scan.Ahead.TheVariants as ahead
use Rattle.yv_source.specs.declared.scan.FoundPiece.TheVariants as found
use Rattle.yv_source.specs.declared.scan.Before.{Before as Left}
use Rattle.yv_source.specs.declared.scan.Before.TheVariants as left

-- a text from the first place on where stop holds
abbrev pub from : (List ℕ → Bool) → List ℕ → List ℕ
from stop [] = []
from stop (b ∷ rest) = cond (stop (b ∷ rest)) (b ∷ rest) (from stop rest)

-- a text from its first double quote on; a backslash takes the next byte with it
abbrev pub from_quote : Bool → List ℕ → List ℕ
from_quote behind_backslash [] = []
from_quote true (b ∷ rest) = from_quote false rest
from_quote false (b ∷ rest) = cond (b == double_quote) (b ∷ rest) (from_quote (b == backslash) rest)

abbrev pub tail : List ℕ → List ℕ
tail [] = []
tail (b ∷ rest) = rest

-- the first piece, and what is left after it
abbrev pub First : Type 0
First = Option (Piece × List ℕ)

-- a piece that is closed by one byte, where there is one
abbrev pub closed_piece : Piece → List ℕ → First
closed_piece p [] = None
closed_piece p (b ∷ more) = Some (p, more)

-- a piece that is closed by two
abbrev pub closed_by_two : Piece → List ℕ → First
closed_by_two p [] = None
closed_by_two p (b ∷ more) = Some (p, tail more)

abbrev pub is_unquoted : Before → Bool
is_unquoted Apart = false
is_unquoted UnquotedWord = true
is_unquoted QuotedText = false

abbrev pub unless_unquoted : Before → First → First
unless_unquoted Apart f = f
unless_unquoted UnquotedWord f = None
unless_unquoted QuotedText f = f

abbrev pub word : List ℕ → First
word text = Some (Word (until ends_word text), from ends_word text)

abbrev pub word_or_plus : Before → List ℕ → First
word_or_plus Apart text = word text
word_or_plus UnquotedWord text = word text
word_or_plus QuotedText text = cond (begins plus_sign text) (Some (Plus, tail text)) (word text)

abbrev pub first : Before → List ℕ → First
first before [] = None
first before (b ∷ rest) =
    cond (is_blank b) (Some (Blank b, rest))
    (cond (b == double_quote)
    (unless_unquoted before
    (closed_piece (Double (up_to_quote false rest)) (from_quote false rest)))
    (cond (b == single_quote)
    (unless_unquoted before
    (closed_piece (Single (until (begins single_quote) rest))
    (from (begins single_quote) rest)))
    (cond (b == semicolon) (Some (Semicolon, rest))
    (cond (b == opening_brace) (Some (Open, rest))
    (cond (b == closing_brace) (Some (Close, rest))
    (cond (b == slash && begins slash rest)
    (Some (
      LineComment (until (begins line_feed) (tail rest)),
      from (begins line_feed) (tail rest),
    ))
    (cond (b == slash && begins asterisk rest)
    (closed_by_two (BlockComment (until (begins_two asterisk slash) (tail rest)))
    (from (begins_two asterisk slash) (tail rest)))
    (cond (b == asterisk && begins slash rest) None
    (word_or_plus before (b ∷ rest))))))))))

-- what the scanner says of it
abbrev pub ahead_of : First → Ahead
ahead_of None = ahead.Nothing
ahead_of (Some (Blank b, more)) = ahead.Piece found.Blank
ahead_of (Some (LineComment t, more)) = ahead.Piece (found.LineComment (length t))
ahead_of (Some (BlockComment t, more)) = ahead.Piece (found.BlockComment (length t))
ahead_of (Some (Word t, more)) = ahead.Piece (found.Word (length t))
ahead_of (Some (Single t, more)) = ahead.Piece (found.Single (length t))
ahead_of (Some (Double t, more)) = ahead.Piece (found.Double (length t))
ahead_of (Some (Semicolon, more)) = ahead.Piece found.Semicolon
ahead_of (Some (Open, more)) = ahead.Piece found.Open
ahead_of (Some (Close, more)) = ahead.Piece found.Close
ahead_of (Some (Plus, more)) = ahead.Piece found.Plus

-- what the scanner says of a text
abbrev pub ahead_in : Before → List ℕ → Ahead
ahead_in before [] = ahead.End
ahead_in before (b ∷ rest) = ahead_of (first before (b ∷ rest))

-- what comes before a place, as the code keeps it
abbrev pub before_of : Left → Before
before_of left.Apart = Apart
before_of left.Unquoted = UnquotedWord
before_of left.Quoted = QuotedText

-- whether a text begins with a double quote or a backslash
abbrev pub begins_mark : List ℕ → Bool
begins_mark [] = false
begins_mark (b ∷ rest) = b == double_quote || b == backslash

-- whether a text is at the end of a comment, or at its own
abbrev pub ends_comment : List ℕ → Bool
ends_comment [] = true
ends_comment (b ∷ rest) = b == asterisk && begins slash rest

-- how many bytes at the front of a text are a backslash and the byte that it takes with it
abbrev pub pair_len : List ℕ → ℕ
pair_len [] = 0
pair_len (b ∷ []) = cond (b == backslash) 1 0
pair_len (b ∷ c ∷ rest) = cond (b == backslash) 2 0
