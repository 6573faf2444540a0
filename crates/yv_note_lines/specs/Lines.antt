-- What a terminal is given of texts.
use Rattle.std.specs.Prelude.{ℕ, List, [], ◌∷◌, ◌++◌, map, take}
use Rattle.std.specs.List.{flat_map}
use Rattle.yv_note_text.specs.Clear.{visible_byte}

-- a text with a dot for each byte that is not visible
abbrev pub visible_text : List ℕ → List ℕ
visible_text text = map visible_byte text

-- what a terminal is given of a sentence: its first 1,400 bytes, with a dot for each that is not
-- visible, and a line feed
abbrev pub cleared_line : List ℕ → List ℕ
cleared_line said = visible_text (take 1400 said) ++ 10 ∷ []

-- texts, one after the other
abbrev pub join_texts : List (List ℕ) → List ℕ
join_texts texts = flat_map (λ text. text) texts
