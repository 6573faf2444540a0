-- The outcome of a text: the one statement that it spells, or what is refused first.
use Rattle.std.specs.Prelude.{◌≡◌, ℕ, ◌+◌, ◌-◌, ◌≤◌, List, [], ◌∷◌, ◌++◌, length, take, drop, ◌⊎◌}
use Rattle.yv_text_statement.specs.Tree.{Tree}
use Rattle.yv_source.specs.Place.{mark_len}
use Rattle.yv_source.specs.Pieces.{Piece, Before, Apart, MayBegin, Cuts, behind, IsUncut, tokens}
use Rattle.yv_source.specs.Grammar.{SpellsOne, depth, Goes, GoesWithin}
use Rattle.yv_source.specs.Escapes.{IsNewer, HasNoBadPair, HasBadPair}

-- the outcome of a text: a statement, or a refusal at an offset
pub data Outcome : Type 0 where
  Statement : Tree → Outcome
  BadToken : (offset : ℕ) → Outcome
  BadSyntax : (offset : ℕ) → Outcome
  TooDeep : (offset : ℕ) → Outcome
  BadEscape : (offset : ℕ) → Outcome

-- the greatest depth of statements that is let pass, a limit of this compiler
abbrev pub most_deep : ℕ
most_deep = 64

-- Why a text has an outcome, once it was cut into these pieces and this rest. Spelled: its
-- tokens are those of the statement, and in a YANG 1.1 file no backslash pair of theirs is bad.
-- BadToken: no piece may be at the rest. BadSyntax: the text ends where no statement does, or a
-- piece may be at the rest with which its tokens begin none. TooDeep: a piece may be there with
-- which its tokens begin only statements that are too deep. BadEscape: its tokens are those of a
-- statement of a YANG 1.1 file, and their first bad pair is at the offset.
abbrev pub Why : List ℕ → List Piece → Before → List ℕ → Outcome → Type 0
Why front ps before rest (Statement t) =
    (rest ≡ []) × SpellsOne t (tokens front ps) × (depth t.children + 1 ≤ most_deep)
    × (IsNewer t.children → HasNoBadPair (tokens front ps))
Why front ps before rest (BadToken offset) = IsUncut before rest
Why front ps before rest (BadSyntax offset) =
    ((rest ≡ []) × ((t : Tree) → SpellsOne t (tokens front ps) → ⊥))
    ⊎ ((p : Piece) × MayBegin before rest p × (Goes (tokens front (ps ++ p ∷ [])) → ⊥))
Why front ps before rest (TooDeep offset) =
    (p : Piece) × MayBegin before rest p
    × Goes (tokens front (ps ++ p ∷ [])) × (GoesWithin most_deep (tokens front (ps ++ p ∷ [])) → ⊥)
Why front ps before rest (BadEscape offset) =
    (rest ≡ []) × (t : Tree) × SpellsOne t (tokens front ps) × (depth t.children + 1 ≤ most_deep)
    × IsNewer t.children × HasBadPair (tokens front ps) offset

-- an outcome's offset is that of the place where the cut ends; a bad pair has its own
abbrev pub StandsAt : ℕ → Outcome → Type 0
StandsAt at (Statement t) = Unit {0}
StandsAt at (BadToken offset) = offset ≡ at
StandsAt at (BadSyntax offset) = offset ≡ at
StandsAt at (TooDeep offset) = offset ≡ at
StandsAt at (BadEscape offset) = Unit {0}

-- The outcome of a text that follows a front which is skipped. It was cut as far as its tokens
-- begin those of a statement that isn't too deep; so nothing is refused before the outcome's place.
pub record ComesTo (front text : List ℕ) (outcome : Outcome) : Type 0 where
  pub pieces : List Piece
  pub rest : List ℕ
  pub cut : Cuts Apart text pieces rest
  pub goes : GoesWithin most_deep (tokens front pieces)
  pub why : Why front pieces (behind Apart pieces) rest outcome
  pub place : StandsAt (length front + (length text - length rest)) outcome

-- the outcome of a file's text, after its byte order mark
abbrev pub TextComesTo : List ℕ → Outcome → Type 0
TextComesTo text outcome = ComesTo (take (mark_len text) text) (drop (mark_len text) text) outcome
