-- The form of the lines on the names of a selection.
use Rattle.std.specs.Prelude.{◌≡◌, ℕ, ◌≤◌, List, length}
use Rattle.std.specs.List.{flat_map}
use Rattle.yv_note_lines.specs.Lines.{cleared_line}

-- what a terminal is given of sentences, one after the other
abbrev pub join_lines : List (List ℕ) → List ℕ
join_lines said = flat_map cleared_line said

-- the text is at most 20 such lines
pub record AreLines (text : List ℕ) : Type 0 where
  pub said : List (List ℕ)
  pub few : length said ≤ 20
  pub is : text ≡ join_lines said
