-- Only private clauses cite this: sections, and the empty lines between them.
use Rattle.std.specs.Prelude.{ℕ, List, [], ◌∷◌, ◌++◌, Bool, true, false, not}

-- the lines of a section, after an empty line where it has any and an empty line is due
abbrev pub apart : (is_due : Bool) → List (List ℕ) → List (List ℕ)
apart is_due [] = []
apart true (line ∷ lines) = [] ∷ line ∷ lines
apart false (line ∷ lines) = line ∷ lines

-- an empty line is due before the next section
abbrev pub next_due : (columns is_due : Bool) → List (List ℕ) → Bool
next_due columns is_due [] = is_due
next_due columns is_due (line ∷ lines) = not columns

-- sections, where an empty line is due before the first or isn't
abbrev pub spaced_from : (columns is_due : Bool) → List (List (List ℕ)) → List (List ℕ)
spaced_from columns is_due [] = []
spaced_from columns is_due (lines ∷ sections) =
    apart is_due lines ++ spaced_from columns (next_due columns is_due lines) sections
