-- The backslash pairs of double-quoted texts that YANG 1.1 refuses (RFC 7950, section 6.1.3). They
-- are judged where they are, since what is stripped of a text makes no pair good or bad.
use Rattle.std.specs.Prelude.{◌≡◌, ℕ, ◌+◌, Bool, true, false, ◌==◌, ◌&&◌, ◌||◌, IsTrue, IsFalse, List, [], ◌∷◌, ◌++◌, length, Some, ◌⊎◌, codes}
use Rattle.yv_text_statement.specs.Tree.{Forest, End, Then}
use Rattle.yv_source.specs.Characters.{double_quote, backslash, letter_n, letter_t}
use Rattle.yv_source.specs.Pieces.{Piece, Double, Token}

-- the characters that come after a backslash in an escape
abbrev pub is_escape : ℕ → Bool
is_escape b = b == letter_n || b == letter_t || b == double_quote || b == backslash

-- a text begins with a byte that begins an escape
abbrev pub begins_escape : List ℕ → Bool
begins_escape [] = false
begins_escape (b ∷ rest) = is_escape b

-- whether each backslash of a text begins an escape, after a backslash or not
abbrev pub all_pairs_good : Bool → List ℕ → Bool
all_pairs_good false [] = true
all_pairs_good true [] = false
all_pairs_good false (b ∷ rest) = all_pairs_good (b == backslash) rest
all_pairs_good true (b ∷ rest) = is_escape b && all_pairs_good false rest

-- the first backslash of a text that begins no escape is at this place
abbrev pub IsBadPair : List ℕ → ℕ → Type 0
IsBadPair text place =
    (good : List ℕ) × (rest : List ℕ) × (text ≡ good ++ backslash ∷ rest)
    × IsTrue (all_pairs_good false good) × IsFalse (begins_escape rest) × (place ≡ length good)

-- the text of a token inside double quotes
abbrev pub inside_double : Piece → List ℕ
inside_double (Double t) = t
inside_double _ = []

-- no backslash pair of these tokens is bad
abbrev pub HasNoBadPair : List Token → Type 0
HasNoBadPair [] = Unit {0}
HasNoBadPair (t ∷ ts) = IsTrue (all_pairs_good false (inside_double t.piece)) × HasNoBadPair ts

-- the first bad backslash pair of these tokens is at this offset, which is after the text before
-- its token, the quote and the pair's place
pub record HasBadPair (ts : List Token) (offset : ℕ) : Type 0 where
  pub before : List Token
  pub token : Token
  pub others : List Token
  pub place : ℕ
  pub is : ts ≡ before ++ token ∷ others
  pub good : HasNoBadPair before
  pub bad : IsBadPair (inside_double token.piece) place
  pub offset_is : offset ≡ length token.front + 1 + place

-- the keyword `yang-version`
abbrev pub yang_version : List ℕ
yang_version = codes "yang-version"

-- the version in which escapes are checked
abbrev pub newer : List ℕ
newer = codes "1.1"

-- one of these statements says that the file is of YANG 1.1 (section 7.1.2)
abbrev pub IsNewer : Forest → Type 0
IsNewer End = ⊥
IsNewer (Then h c o) = ((h.keyword ≡ yang_version) × (h.argument ≡ Some newer)) ⊎ IsNewer o
