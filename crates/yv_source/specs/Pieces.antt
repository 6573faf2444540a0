-- How a text is cut into blanks, comments, unquoted and quoted texts, and marks (RFC 7950, section
-- 6.1).
use Rattle.std.specs.Prelude.{◌≡◌, ◌≢◌, ℕ, Bool, true, false, ◌==◌, ◌&&◌, ◌||◌, cond, List, [], ◌∷◌, ◌++◌, IsTrue}
use Rattle.yv_source.specs.Characters.{tab, line_feed, carriage_return, space, double_quote, single_quote, asterisk, plus_sign, slash, semicolon, backslash, opening_brace, closing_brace}

-- a piece, with the text inside its marks
pub data Piece : Type 0 where
  Blank : (byte : ℕ) → Piece
  LineComment : (text : List ℕ) → Piece
  BlockComment : (text : List ℕ) → Piece
  Word : (text : List ℕ) → Piece
  Single : (text : List ℕ) → Piece
  Double : (text : List ℕ) → Piece
  Semicolon : Piece
  Open : Piece
  Close : Piece
  Plus : Piece

-- the bytes of a piece
abbrev pub slice : Piece → List ℕ
slice (Blank b) = b ∷ []
slice (LineComment t) = slash ∷ slash ∷ t
slice (BlockComment t) = slash ∷ asterisk ∷ (t ++ asterisk ∷ slash ∷ [])
slice (Word t) = t
slice (Single t) = single_quote ∷ (t ++ single_quote ∷ [])
slice (Double t) = double_quote ∷ (t ++ double_quote ∷ [])
slice Semicolon = semicolon ∷ []
slice Open = opening_brace ∷ []
slice Close = closing_brace ∷ []
slice Plus = plus_sign ∷ []

-- a space, a tab or a part of a line break
abbrev pub is_blank : ℕ → Bool
is_blank b = b == space || b == tab || b == carriage_return || b == line_feed

-- whether a text begins with this byte
abbrev pub begins : ℕ → List ℕ → Bool
begins b [] = false
begins b (c ∷ rest) = c == b

-- whether it begins with these two
abbrev pub begins_two : ℕ → ℕ → List ℕ → Bool
begins_two a b [] = false
begins_two a b (c ∷ rest) = c == a && begins b rest

-- the front of a text, up to the first place where stop holds of what is left
abbrev pub until : (List ℕ → Bool) → List ℕ → List ℕ
until stop [] = []
until stop (b ∷ rest) = cond (stop (b ∷ rest)) [] (b ∷ until stop rest)

-- an unquoted text ends at the text's end and where a blank, a quote, a mark, a comment or a
-- comment's end begins (section 6.1.3)
abbrev pub ends_word : List ℕ → Bool
ends_word [] = true
ends_word (b ∷ rest) =
    is_blank b || b == double_quote || b == single_quote || b == semicolon || b == opening_brace
    || b == closing_brace
    || (b == slash && (begins slash rest || begins asterisk rest))
    || (b == asterisk && begins slash rest)

-- the front of a text up to the first double quote; a backslash takes the next byte with it
abbrev pub up_to_quote : Bool → List ℕ → List ℕ
up_to_quote behind_backslash [] = []
up_to_quote true (b ∷ rest) = b ∷ up_to_quote false rest
up_to_quote false (b ∷ rest) = cond (b == double_quote) [] (b ∷ up_to_quote (b == backslash) rest)

-- what comes before a place: an unquoted text right before it, a quoted text as the last piece but
-- for blanks and comments, or neither
pub data Before : Type 0 where
  Apart : Before
  UnquotedWord : Before
  QuotedText : Before

-- what comes before the next place, after a blank or a comment
abbrev pub past_gap : Before → Before
past_gap Apart = Apart
past_gap UnquotedWord = Apart
past_gap QuotedText = QuotedText

-- what comes before the next place, after a piece
abbrev pub past : Before → Piece → Before
past before (Blank b) = past_gap before
past before (LineComment t) = past_gap before
past before (BlockComment t) = past_gap before
past before (Word t) = UnquotedWord
past before (Single t) = QuotedText
past before (Double t) = QuotedText
past before Semicolon = Apart
past before Open = Apart
past before Close = Apart
past before Plus = Apart

-- A piece may be at a place, before what is left of the text. A line comment goes to the line's
-- end, a block comment to the first */ (section 6.1.2), an unquoted text as far as it can, a quoted
-- one to the first quote. No quoted text is right after an unquoted one, and after a quoted text a
-- + joins (section 6.1.3).
abbrev pub MayStand : Before → Piece → List ℕ → Type 0
MayStand before (Blank b) rest = IsTrue (is_blank b)
MayStand before (LineComment t) rest = until (begins line_feed) (t ++ rest) ≡ t
MayStand before (BlockComment t) rest =
    until (begins_two asterisk slash) (t ++ asterisk ∷ slash ∷ rest) ≡ t
MayStand before (Word t) rest =
    (t ≢ []) × (until ends_word (t ++ rest) ≡ t)
    × ((before ≡ QuotedText) → begins plus_sign t ≡ false)
MayStand before (Single t) rest =
    (before ≢ UnquotedWord) × (until (begins single_quote) (t ++ single_quote ∷ rest) ≡ t)
MayStand before (Double t) rest =
    (before ≢ UnquotedWord) × (up_to_quote false (t ++ double_quote ∷ rest) ≡ t)
MayStand before Semicolon rest = Unit {0}
MayStand before Open rest = Unit {0}
MayStand before Close rest = Unit {0}
MayStand before Plus rest = before ≡ QuotedText

-- a piece may be at a place, and what is left of the text begins with it
abbrev pub MayBegin : Before → List ℕ → Piece → Type 0
MayBegin before rest p = (more : List ℕ) × (rest ≡ slice p ++ more) × MayStand before p more

-- a text is cut into these pieces and the rest
abbrev pub Cuts : Before → List ℕ → List Piece → List ℕ → Type 0
Cuts before text [] rest = text ≡ rest
Cuts before text (p ∷ ps) rest =
    (more : List ℕ) × (text ≡ slice p ++ more) × MayStand before p more
    × Cuts (past before p) more ps rest

-- what comes before the next place, after these pieces
abbrev pub behind : Before → List Piece → Before
behind before [] = before
behind before (p ∷ ps) = behind (past before p) ps

-- something is left, and no piece may be there
abbrev pub IsUncut : Before → List ℕ → Type 0
IsUncut before rest = (rest ≢ []) × ((p : Piece) → MayBegin before rest p → ⊥)

-- a piece that isn't a blank and no comment, with the text before it (a token of section 6.1.1)
pub record Token : Type 0 where
  pub front : List ℕ
  pub piece : Piece

-- the token of a piece, or none
abbrev pub token : List ℕ → Piece → List Token
token front (Blank b) = []
token front (LineComment t) = []
token front (BlockComment t) = []
token front (Word t) = record { front = front; piece = Word t } ∷ []
token front (Single t) = record { front = front; piece = Single t } ∷ []
token front (Double t) = record { front = front; piece = Double t } ∷ []
token front Semicolon = record { front = front; piece = Semicolon } ∷ []
token front Open = record { front = front; piece = Open } ∷ []
token front Close = record { front = front; piece = Close } ∷ []
token front Plus = record { front = front; piece = Plus } ∷ []

-- the tokens of pieces, the first of which has this text in front
abbrev pub tokens : List ℕ → List Piece → List Token
tokens front [] = []
tokens front (p ∷ ps) = token front p ++ tokens (front ++ slice p) ps
