-- Plain types as data: what is left of a type when typedefs, unions and leafrefs are followed.
use Rattle.std.specs.Prelude.{ℕ, List, Bool}
use Rattle.yv_base_numbers.specs.Intervals.{Interval}
use Rattle.yv_values.specs.declared.plain.PlainType.{PlainType}
use Rattle.yv_values.specs.declared.plain.PlainType.TheVariants.{Whole, Decimal, Text, Boolean, Enumeration, Bits, Binary, Identity, Empty}
pub use Rattle.yv_values.specs.Identities.{Id, id_of}
pub use Rattle.yv_values.specs.Patterns.{Test, test_of}

-- The whole numbers of intervals, and whether JSON writes them as texts; decimals by digits and
-- intervals of the scaled number; texts by lengths and patterns; the truth values; the names of an
-- enumeration; the bits' names; octets by lengths; identities; the one value of empty.
pub data Plain : Type 0 where
  wholes : Bool → List Interval → Plain
  decimals : ℕ → List Interval → Plain
  strings : List Interval → List Test → Plain
  booleans : Plain
  names : List (List ℕ) → Plain
  flags : List (List ℕ) → Plain
  octets : List Interval → Plain
  identities : List Id → Plain
  empties : Plain

-- the type that the program keeps
abbrev pub plain_of : PlainType → Plain
plain_of (Whole t) = wholes t.is_text t.spans
plain_of (Decimal t) = decimals t.digits t.spans
plain_of (Text t) = strings t.lengths t.patterns
plain_of Boolean = booleans
plain_of (Enumeration ns) = names ns
plain_of (Bits ns) = flags ns
plain_of (Binary ls) = octets ls
plain_of (Identity ms) = identities ms
plain_of Empty = empties
