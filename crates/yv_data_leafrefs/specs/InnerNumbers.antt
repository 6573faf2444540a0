-- Only private clauses cite this: a number, if there is one.
use Rattle.std.specs.Prelude.{ℕ, Bool, true, false, Option, Some, None}

abbrev pub number_if : Bool → ℕ → Option ℕ
number_if true n = Some n
number_if false n = None
