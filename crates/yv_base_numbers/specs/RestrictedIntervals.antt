-- Which intervals lie within others (RFC 7950, sections 9.2.4 and 9.4.4).
use Rattle.std.specs.Prelude.{ℤ, int_le, Bool, ◌&&◌, List, Option, option_map, length, slice_get, ◌-◌}
use Rattle.std.specs.List.{list_all, list_any}
pub use Rattle.yv_base_numbers.specs.Intervals.{Interval, interval, ends_below, ascend}

-- the lowest and the highest number of intervals that ascend
abbrev pub lowest : List Interval → Option ℤ
lowest is = option_map (λ i. i.low) (slice_get is 0)

-- the highest number of intervals that ascend
abbrev pub highest : List Interval → Option ℤ
highest is = option_map (λ i. i.high) (slice_get is (length is - 1))

-- the one lies within the other
abbrev pub lies_in : Interval → Interval → Bool
lies_in i base = int_le base.low i.low && int_le i.high base.high

-- each lies within one interval of the base
abbrev pub lie_within : List Interval → List Interval → Bool
lie_within base is = list_all (λ i. list_any (lies_in i) base) is
