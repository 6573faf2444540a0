-- The offsets of statements, and their order in a text (RFC 7950, section 6.3).
use Rattle.std.specs.Prelude.{ℕ, ◌+◌, ◌≤◌, ◌++◌, List, [], ◌∷◌}
use Rattle.yv_text_statement.specs.Tree.{Forest, End, Then, Tree}

-- the offsets of statements, each before those of its block, and these before the statements after
-- it
abbrev pub offsets : Forest → List ℕ
offsets End = []
offsets (Then h c o) = h.offset ∷ (offsets c ++ offsets o)

-- each number is above the ones before it, and none is below this
abbrev pub Ascends : ℕ → List ℕ → Type 0
Ascends low [] = Unit {0}
Ascends low (n ∷ ns) = (low ≤ n) × Ascends (n + 1) ns

-- a statement comes before those in its block, and each of these before the ones after it
abbrev pub IsInOrder : Tree → Type 0
IsInOrder t = Ascends 0 (offsets (Then t.head t.children End))
