-- The `enum` and `bit` statements of a type, as they are numbered: what each is named, and what its
-- `value` or `position` states (RFC 7950, sections 9.6.4, 9.6.4.2, 9.7.4 and 9.7.4.2).
use Rattle.std.specs.Prelude.{ℕ, ℤ, List, Option, Some, None, option_map, if◌then◌else◌}
use Rattle.std.specs.Str.Parse.{without_leading_sign, starts_with_minus}
use Rattle.yv_base_numbers.specs.Numbers.{is_numeral, value_after, with_sign}

-- What an entry states: nothing, a whole number of any size, or what isn't a whole number. The
-- check of arguments, which comes before, refuses the last. It says no number, so that the entry is
-- wrong.
pub data StatedNumber : Type 0 where
  nothing : StatedNumber
  whole : ℤ → StatedNumber
  no_number : StatedNumber

-- an entry of an enumeration or bits type: its name and the number that it states
pub record Entry : Type 0 where
  pub name : List ℕ
  pub stated : StatedNumber

-- the number that decimal digits write
abbrev pub decimal_number : List ℕ → Option ℕ
decimal_number ds = if is_numeral 10 ds then Some (value_after 10 0 ds) else None

-- The whole number of any size that a sign, or none, and decimal digits write. That it is the one
-- of the grammar is said by the law `whole_numbers_are_written`.
abbrev pub whole_number : List ℕ → Option ℤ
whole_number text =
    option_map (with_sign (starts_with_minus text)) (decimal_number (without_leading_sign text))

-- a stated whole number, or that there is none
abbrev pub number_or_none : Option ℤ → StatedNumber
number_or_none None = no_number
number_or_none (Some n) = whole n

-- what the text of a `value` or `position` states, where there is one
abbrev pub stated_number : Option (List ℕ) → StatedNumber
stated_number None = nothing
stated_number (Some text) = number_or_none (whole_number text)
