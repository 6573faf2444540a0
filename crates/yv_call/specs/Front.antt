-- The front of a text in a buffer.
use Rattle.std.specs.Prelude.{ℕ, List, ◌∷◌, ◌++◌, length, take, drop}

-- a text, as much of it as there is room for, and after it what the buffer held at first
abbrev pub front_of : (text initial : List ℕ) → List ℕ
front_of text initial = take (length initial) text ++ drop (length text) initial

-- the text behind a mark
abbrev pub mark : (name : ℕ) → (initial text : List ℕ) → List ℕ
mark name initial text = name ∷ length initial ∷ (initial ++ text)
