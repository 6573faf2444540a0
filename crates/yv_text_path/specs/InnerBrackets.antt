-- Only private clauses cite this: a text without what is in brackets.
use Rattle.std.specs.Prelude.{ℕ, Bool, true, false, not, ◌==◌, List, [], ◌∷◌, if◌then◌else◌}
use Rattle.yv_text_path.specs.Bytes.{opening_bracket, closing_bracket}

-- what is not between a `[` and the next `]`, from inside or outside of brackets
abbrev pub outside : Bool → List ℕ → List ℕ
outside is_inside [] = []
outside true (b ∷ bs) = outside (not (b == closing_bracket)) bs
outside false (b ∷ bs) =
    if b == opening_bracket then outside true bs else b ∷ outside false bs

-- a text without what is from each `[` to the next `]`
abbrev pub without_predicates : List ℕ → List ℕ
without_predicates text = outside false text
