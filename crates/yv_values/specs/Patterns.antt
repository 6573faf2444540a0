-- The patterns of a string type as data.
use Rattle.std.specs.Prelude.{ℕ, List, Bool}
use Rattle.yv_values.specs.declared.patterns.PatternTest.{PatternTest}

-- a pattern, as the source of its translation, and whether it is to match or not to
pub record Test : Type 0 where
  pub source : List ℕ
  pub inverted : Bool

-- a pattern that a text has to match, or must not match
abbrev pub test_of : PatternTest → Test
test_of t = record { source = t.pattern.value; inverted = t.is_inverted }
