-- Blanks and comments between tokens, as the reader passes them; cited by private clauses only.
use Rattle.std.specs.Prelude.{◌≡◌, ◌+◌, ◌≤◌, ℕ, IsTrue, List, length, take, drop, ⊤}
use Rattle.std.specs.List.{list_all}
use Rattle.yv_source.specs.Pieces.{is_blank, Before, UnquotedWord}
use Rattle.yv_source.specs.Inner.Scan.{ahead_in}
use Rattle.yv_source.specs.Inner.Turn.{length_of}
use Rattle.yv_source.specs.declared.scan.Ahead.TheVariants as ahead
use Rattle.yv_source.specs.declared.scan.FoundPiece.{FoundPiece}
use Rattle.yv_source.specs.declared.scan.FoundPiece.TheVariants as found

abbrev pub IsComment : FoundPiece → Type 0
IsComment (found.LineComment n) = ⊤
IsComment (found.BlockComment n) = ⊤
IsComment _ = ⊥

-- the comment that a text begins with, whatever is before it
pub record BeginsComment (text : List ℕ) (f : FoundPiece) : Type 0 where
  pub kind : IsComment f
  pub found : (before : Before) → ahead_in before text ≡ ahead.Piece f

-- so many bytes at the front of a text are blanks and comments in a row
pub data IsGap (text : List ℕ) : ℕ → Type 0 where
  Empty : IsGap text 0
  Blanks : (n k : ℕ) → IsGap text n → k ≤ length (drop n text)
      → IsTrue (list_all is_blank (take k (drop n text))) → IsGap text (n + k)
  Comment : (n : ℕ) (f : FoundPiece) → IsGap text n → BeginsComment (drop n text) f
      → IsGap text (n + length_of f)

-- after them; but after an unquoted text the offset stays
abbrev pub IsPastGap : Before → ℕ → List ℕ → ℕ → Type 0
IsPastGap UnquotedWord at rest end = end ≡ at
IsPastGap _ at rest end = (n : ℕ) × IsGap rest n × (end ≡ at + n)
