-- Only private clauses cite this: a text to which another one is added.
use Rattle.std.specs.Prelude.{ℕ, List, [], ◌∷◌, ◌++◌}

-- a text before another one, with a comma after it; no text has none
abbrev pub with_comma : List ℕ → List ℕ
with_comma [] = []
with_comma (b ∷ bs) = (b ∷ bs) ++ 44 ∷ []
