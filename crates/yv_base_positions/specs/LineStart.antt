-- Where the line of an offset begins.
use Rattle.std.specs.Prelude.{ℕ, ◌≡◌, ◌<◌, ◌≤◌, ◌-◌, List, length, get_or, true, false}
use Rattle.yv_base_positions.specs.Column.{is_in_line}

-- from this place to the offset there is no line feed, and right before the place is one, unless
-- the text begins there
pub record IsLineStart (bytes : List ℕ) (offset start : ℕ) : Type 0 where
  pub within : offset ≤ length bytes
  pub before : start ≤ offset
  pub others : (k : ℕ) → start ≤ k → k < offset → is_in_line (get_or bytes k 0) ≡ true
  pub behind : 0 < start → is_in_line (get_or bytes (start - 1) 0) ≡ false
