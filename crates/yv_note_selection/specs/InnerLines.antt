-- Only private clauses cite this: lines whose number is known.
use Rattle.std.specs.Prelude.{◌≡◌, ℕ, List, length}
use Rattle.yv_note_selection.specs.Lines.{join_lines}

-- the text is so many lines
pub record HoldsLines (count : ℕ) (text : List ℕ) : Type 0 where
  pub said : List (List ℕ)
  pub each : length said ≡ count
  pub is : text ≡ join_lines said
