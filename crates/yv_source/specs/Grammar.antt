-- Which statements a list of tokens spells (RFC 7950, section 6.3).
use Rattle.std.specs.Prelude.{◌≡◌, ℕ, ◌+◌, ◌≤◌, max, List, [], ◌∷◌, ◌++◌, length, Option, Some, None, ◌⊎◌}
use Rattle.yv_text_statement.specs.Tree.{Head, Forest, End, Then, Tree}
use Rattle.yv_source.specs.Place.{line_of, column_of}
use Rattle.yv_source.specs.Quotes.{quoted_value}
use Rattle.yv_source.specs.Keywords.{IsKeyword}
use Rattle.yv_source.specs.Pieces.{Piece, Word, Single, Double, Semicolon, Open, Close, Plus, Token}

-- a token is a statement's keyword, which is at this line and offset
abbrev pub IsHead : Token → Head → Type 0
IsHead t h = (t.piece ≡ Word h.keyword) × IsKeyword h.keyword × (h.line ≡ line_of t.front)
    × (h.offset ≡ length t.front)

-- what a quoted text says that has this text in front; a single-quoted one has no escapes (section
-- 6.1.3)
abbrev pub Says : List ℕ → Piece → List ℕ → Type 0
Says front (Single t) text = text ≡ t
Says front (Double t) text = text ≡ quoted_value (column_of front) t
Says front _ text = ⊥

-- what quoted texts say that are joined by +
abbrev pub IsJoined : List Token → List ℕ → Type 0
IsJoined [] text = ⊥
IsJoined (t ∷ []) text = Says t.front t.piece text
IsJoined (t ∷ p ∷ ts) text =
    (first : List ℕ) × (others : List ℕ) × (text ≡ first ++ others) × Says t.front t.piece first
    × (p.piece ≡ Plus)
    × IsJoined ts others

-- the tokens of an argument: none, an unquoted text, or quoted texts
abbrev pub IsArgument : List Token → Option (List ℕ) → Type 0
IsArgument [] None = Unit {0}
IsArgument [] (Some text) = ⊥
IsArgument (t ∷ ts) None = ⊥
IsArgument (t ∷ ts) (Some text) = ((t.piece ≡ Word text) × (ts ≡ [])) ⊎ IsJoined (t ∷ ts) text

-- the tokens after a statement's argument: a semicolon, or braces round those inside its block
abbrev pub IsBody : (List Token → Type 0) → Forest → List Token → Type 0
IsBody IsInside c body =
    ((t : Token) × (body ≡ t ∷ []) × (t.piece ≡ Semicolon) × (c ≡ End))
    ⊎ ((t : Token) × (inner : List Token) × (u : Token) × (body ≡ t ∷ (inner ++ u ∷ []))
    × (t.piece ≡ Open) × (u.piece ≡ Close) × IsInside inner)

-- the tokens of statements in order, each with its keyword, its argument and its block
abbrev pub Spells : Forest → List Token → Type 0
Spells End ts = ts ≡ []
Spells (Then h c o) ts =
    (k : Token) × (argument : List Token) × (body : List Token) × (others : List Token)
    × (ts ≡ k ∷ (argument ++ (body ++ others)))
    × IsHead k h × IsArgument argument h.argument × IsBody (Spells c) c body × Spells o others

-- the tokens of one statement
abbrev pub SpellsOne : Tree → List Token → Type 0
SpellsOne t ts = Spells (Then t.head t.children End) ts

-- the greatest depth of statements, that of one without a block being 1
abbrev pub depth : Forest → ℕ
depth End = 0
depth (Then h c o) = max (depth c + 1) (depth o)

-- these tokens begin those of some statement
abbrev pub Goes : List Token → Type 0
Goes ts = (t : Tree) × (more : List Token) × SpellsOne t (ts ++ more)

-- these tokens begin those of some statement of at most this depth
abbrev pub GoesWithin : ℕ → List Token → Type 0
GoesWithin limit ts =
    (t : Tree) × (more : List Token) × SpellsOne t (ts ++ more) × (depth t.children + 1 ≤ limit)
