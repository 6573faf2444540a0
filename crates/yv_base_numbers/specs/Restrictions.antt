-- What the text of a `range` or a `length` says (RFC 7950, sections 9.2.4, 9.3.4 and 9.4.4).
use Rattle.std.specs.Prelude.{◌≡◌, ℕ, ◌+◌, ℤ, Bool, true, ◌==◌, ◌&&◌, ◌||◌, List, [], ◌∷◌, take, drop, map, reverse, slice_index, Option, Some, None, option_map, if◌then◌else◌, codes}
use Rattle.std.specs.List.{slice_split}
use Rattle.std.specs.Str.{bytes_eq}
use Rattle.yv_base_numbers.specs.Numbers.{integer_of, scaled_of}
pub use Rattle.yv_base_numbers.specs.RestrictedIntervals.{Interval, lowest, highest, ascend, lie_within}

-- space, tab, line feed and carriage return
abbrev pub is_blank : ℕ → Bool
is_blank c = (c == 32) || ((c == 9) || ((c == 10) || (c == 13)))

-- the text after the blanks that it begins with
abbrev pub behind_blanks : List ℕ → List ℕ
behind_blanks [] = []
behind_blanks (c ∷ cs) = if is_blank c then behind_blanks cs else c ∷ cs

-- the text without the blanks at its ends
abbrev pub without_blanks : List ℕ → List ℕ
without_blanks s = reverse (behind_blanks (reverse (behind_blanks s)))

-- a whole number, or the number of a decimal scaled by so many digits after the point
abbrev pub number_of : Option ℕ → List ℕ → Option ℤ
number_of None text = integer_of text
number_of (Some digits) text = scaled_of digits text

-- `min`, `max` or a number
abbrev pub bound_of : Option ℕ → List Interval → List ℕ → Option ℤ
bound_of digits base text =
    if bytes_eq text (codes "min") then lowest base
    else (if bytes_eq text (codes "max") then highest base else number_of digits text)

-- where two points stand first
abbrev pub dots_at : List ℕ → Option ℕ
dots_at [] = None
dots_at (c ∷ cs) =
    if (c == 46) && (slice_index cs 0 == 46) then Some 0 else option_map (λ i. i + 1) (dots_at cs)

-- the interval between two ends that are there
abbrev pub between : Option ℤ → Option ℤ → Option Interval
between None high = None
between (Some low) None = None
between (Some low) (Some high) = Some (record { low = low; high = high })

-- a bound, or one on either side of these two points, with blanks round each
abbrev pub around_dots : Option ℕ → List Interval → List ℕ → Option ℕ → Option Interval
around_dots digits base text None =
    let bound = bound_of digits base (without_blanks text) in between bound bound
around_dots digits base text (Some i) =
    between (bound_of digits base (without_blanks (take i text)))
    (bound_of digits base (without_blanks (drop (i + 2) text)))

-- one part: the interval that it says
abbrev pub part_of : Option ℕ → List Interval → List ℕ → Option Interval
part_of digits base text = around_dots digits base text (dots_at text)

-- The text restricts a type of these intervals to those: they are what its parts say, with bars
-- between; they ascend; and each lies within one of the type's.
pub record Restricts (digits : Option ℕ) (base : List Interval) (text : List ℕ)
    (is : List Interval) : Type 0 where
  pub parts : map (part_of digits base) (slice_split (λ c. c == 124) text) ≡ map (λ i. Some i) is
  pub ascending : ascend is ≡ true
  pub within : lie_within base is ≡ true
