-- The value of a default (RFC 7950, sections 7.6.1 and 9.12).
use Rattle.std.specs.Prelude.{ℕ, List, [], ◌∷◌, Option, None}
use Rattle.std.specs.Option.{option_or}
use Rattle.yv_values.specs.Scopes.{Place, text_value}
use Rattle.yv_values.specs.Types.{Plain}
use Rattle.yv_values.specs.Values.{Val}

-- the value that a text has by the first of the types of which it has one: those of a union come in
-- the order of its members
abbrev pub first_value : List Plain → List ℕ → Place → Option Val
first_value [] text place = None
first_value (p ∷ ps) text place = option_or (text_value p text place) (first_value ps text place)
