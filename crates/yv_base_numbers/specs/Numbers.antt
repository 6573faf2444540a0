-- The readers of numbers as functions. `Written` says by grammar and place value what texts write;
-- that these functions answer just that is said by the laws `naturals_are_written`,
-- `integers_are_written`, `based_integers_are_written` and
-- `decimals_are_written`.
use Rattle.std.specs.Prelude.{ℕ, ◌+◌, ◌*◌, ◌-◌, ◌^◌, ℤ, pos, negsuc, neg_ℤ, Bool, true, false, ◌&&◌, ◌==◌, nat_lt, nat_le, List, [], ◌∷◌, ◌++◌, take, drop, length, Option, Some, None, option_map, position, if◌then◌else◌, min, nat_eq}
use Rattle.std.specs.List.{list_all}
use Rattle.std.specs.Str.Parse.{without_leading_sign, starts_with_minus}
use Rattle.yv_base_numbers.specs.declared.integer.Integer.{Integer}
use Rattle.yv_base_numbers.specs.declared.integer.Integer.TheVariants.{Natural, Below}

-- the number that the program writes as a natural one, or as one below zero
abbrev pub integer : Integer → ℤ
integer (Natural n) = pos n
integer (Below n) = negsuc n

-- the value of a digit, hexadecimal ones too, or 16 for what isn't a digit
abbrev pub digit_of : ℕ → ℕ
digit_of c =
    if nat_le 48 c && nat_le c 57 then c - 48
    else (if nat_le 97 c && nat_le c 102 then c - 87
    else (if nat_le 65 c && nat_le c 70 then c - 55 else 16))

-- a byte is a digit of the radix
abbrev pub is_digit : ℕ → ℕ → Bool
is_digit radix c = nat_lt (digit_of c) radix

-- the number that digits write, after one that comes before them
abbrev pub value_after : ℕ → ℕ → List ℕ → ℕ
value_after radix n [] = n
value_after radix n (b ∷ bs) = value_after radix (n * radix + digit_of b) bs

-- a number of at most 64 bits: no type has others
abbrev pub within_64_bits : ℕ → Option ℕ
within_64_bits n = if nat_lt n (2 ^ 64) then Some n else None

-- one digit or more
abbrev pub is_numeral : ℕ → List ℕ → Bool
is_numeral radix ds = nat_lt 0 (length ds) && list_all (is_digit radix) ds

-- a number, negative after a sign
abbrev pub with_sign : Bool → ℕ → ℤ
with_sign true n = neg_ℤ (pos n)
with_sign false n = pos n

-- the number that digits of this radix write
unfoldable pub natural_of : ℕ → List ℕ → Option ℕ
natural_of radix ds = if is_numeral radix ds then within_64_bits (value_after radix 0 ds) else None

-- the whole number that a sign, or none, and decimal digits write
unfoldable pub integer_of : List ℕ → Option ℤ
integer_of text =
    option_map (with_sign (starts_with_minus text)) (natural_of 10 (without_leading_sign text))

-- after a leading zero: `x` and hexadecimal digits, or octal digits, perhaps none
abbrev pub zero_led : List ℕ → Option ℕ
zero_led [] = Some 0
zero_led (c ∷ cs) = if c == 120 then natural_of 16 cs else natural_of 8 (c ∷ cs)

-- digits of a default's text: hexadecimal after `0x`, octal after another leading zero, else
-- decimal
abbrev pub based_of : List ℕ → Option ℕ
based_of [] = None
based_of (c ∷ cs) = if c == 48 then zero_led cs else natural_of 10 (c ∷ cs)

-- the whole number of a default's text, which may have a sign
unfoldable pub based_integer_of : List ℕ → Option ℤ
based_integer_of text =
    option_map (with_sign (starts_with_minus text)) (based_of (without_leading_sign text))

-- Digits with the point left out, and zeros in the places that aren't written; only zeros are in
-- places after.
unfoldable pub scaled_value : ℕ → List ℕ → List ℕ → Option ℕ
scaled_value places whole fraction =
    let shown = min (length fraction) places in
    if is_numeral 10 whole
    && (list_all (is_digit 10) (take shown fraction)
    && list_all (λ b. b == 48) (drop shown fraction))
    then within_64_bits (value_after 10 0 (whole ++ take shown fraction) * 10 ^ (places - shown))
    else None

-- digits, or digits on either side of this point
abbrev pub around_point : ℕ → List ℕ → Option ℕ → Option ℕ
around_point places ds None = scaled_value places ds []
around_point places ds (Some i) =
    if nat_eq (length (drop (i + 1) ds)) 0 then None
    else scaled_value places (take i ds) (drop (i + 1) ds)

-- the number that digits around a point write, scaled by so many places
unfoldable pub magnitude_of : ℕ → List ℕ → Option ℕ
magnitude_of places ds = around_point places ds (position (λ b. b == 46) ds)

-- the scaled number of a decimal text: a sign, or none, digits, and perhaps a point and digits
unfoldable pub scaled_of : ℕ → List ℕ → Option ℤ
scaled_of places text =
    option_map (with_sign (starts_with_minus text))
    (magnitude_of places (without_leading_sign text))
