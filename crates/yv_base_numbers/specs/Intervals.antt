-- Intervals of numbers, of which ranges and lengths are made (RFC 7950, sections 9.2.4 and 9.4.4).
use Rattle.std.specs.Prelude.{ℤ, int_le, Bool, true, not, ◌&&◌, List, [], ◌∷◌}
use Rattle.std.specs.List.{list_any}
use Rattle.yv_base_numbers.specs.Numbers.{integer}
use Rattle.yv_base_numbers.specs.declared.intervals.Span.{Span}

-- the numbers from the low one to the high one, both included
pub record Interval : Type 0 where
  pub low : ℤ
  pub high : ℤ

-- the interval of numbers between the two ends of a span
abbrev pub interval : Span → Interval
interval s = record { low = integer s.low; high = integer s.high }

-- the next interval begins above this one
abbrev pub ends_below : Interval → List Interval → Bool
ends_below i [] = true
ends_below i (j ∷ js) = not (int_le j.low i.high)

-- none is empty, and each begins above the one before it: they are in ascending order and disjoint
abbrev pub ascend : List Interval → Bool
ascend [] = true
ascend (i ∷ is) = int_le i.low i.high && (ends_below i is && ascend is)

-- the number lies in the interval, ends included
abbrev pub has : ℤ → Interval → Bool
has z i = int_le i.low z && int_le z i.high

-- the number lies in one of the intervals
abbrev pub are_among : List Interval → ℤ → Bool
are_among is z = list_any (has z) is
