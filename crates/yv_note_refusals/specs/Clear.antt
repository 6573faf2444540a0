-- What a terminal is given of a text.
use Rattle.std.specs.Prelude.{ℕ, ◌==◌, List, map, if◌then◌else◌}
use Rattle.yv_note_text.specs.Clear.{visible_byte}

-- a line feed as it is, and of any other byte what is visible
abbrev pub cleared_byte : ℕ → ℕ
cleared_byte b = if b == 10 then b else visible_byte b

-- what a terminal is given of a text
abbrev pub clear_text : List ℕ → List ℕ
clear_text text = map cleared_byte text
