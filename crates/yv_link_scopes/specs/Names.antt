-- Names with a prefix (RFC 7950, section 6.2).
use Rattle.std.specs.Prelude.{ℕ, ◌+◌, ◌==◌, Bool, List, take, drop, Option, Some, None}
use Rattle.std.specs.List.{position_from}
use Rattle.std.specs.Option.{option_map}

-- the place of the first that passes
abbrev pub first_where : {X : Type 0} → (X → Bool) → List X → Option ℕ
first_where {X} p xs = position_from p 0 xs

-- the place of the first colon
abbrev pub first_colon : List ℕ → Option ℕ
first_colon text = first_where (λ byte. byte == 58) text

-- what comes before the first colon
abbrev pub prefix_of : List ℕ → Option (List ℕ)
prefix_of text = option_map (λ i. take i text) (first_colon text)

-- what comes after a place; all, where there is none
abbrev pub behind : List ℕ → Option ℕ → List ℕ
behind text None = text
behind text (Some i) = drop (i + 1) text

-- what comes after the first colon, or the whole
abbrev pub local_of : List ℕ → List ℕ
local_of text = behind text (first_colon text)
