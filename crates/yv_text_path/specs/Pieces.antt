-- The pieces of a text: words, and the single bytes between them.
use Rattle.std.specs.Prelude.{ℕ, Bool, ◌||◌, ◌==◌, List, [], ◌∷◌, if◌then◌else◌}
use Rattle.yv_text_if_feature.specs.Bytes.{colon, is_blank}
use Rattle.yv_text_if_feature.specs.Names.{is_part}

-- a word, or what a single byte between words is
pub data Piece : Type 0 where
  Word : List ℕ → Piece
  Blank : Piece
  Slash : Piece
  OpeningBracket : Piece
  ClosingBracket : Piece
  EqualsSign : Piece
  OpeningParenthesis : Piece
  ClosingParenthesis : Piece
  SingleQuote : Piece
  DoubleQuote : Piece
  Other : Piece

-- a word has letters, digits, `_`, `-`, `.` and `:`
abbrev pub is_word_byte : ℕ → Bool
is_word_byte b = is_part b || b == colon

-- what a byte between words is
abbrev pub mark_of : ℕ → Piece
mark_of b =
    if is_blank b then Blank else (if b == 47 then Slash
    else (if b == 91 then OpeningBracket else (if b == 93 then ClosingBracket
    else (if b == 61 then EqualsSign else (if b == 40 then OpeningParenthesis
    else (if b == 41 then ClosingParenthesis else (if b == 39 then SingleQuote
    else (if b == 34 then DoubleQuote else Other))))))))

-- these pieces, and before them one byte of a word, which may be the first of their first word
abbrev pub with_word_byte : ℕ → List Piece → List Piece
with_word_byte b (Word w ∷ ps) = Word (b ∷ w) ∷ ps
with_word_byte b ps = Word (b ∷ []) ∷ ps

-- the pieces of a text: each word is as long as it can be
abbrev pub pieces : List ℕ → List Piece
pieces [] = []
pieces (b ∷ bs) =
    if is_word_byte b then with_word_byte b (pieces bs) else mark_of b ∷ pieces bs
