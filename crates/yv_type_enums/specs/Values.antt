-- The names that are values, as they are kept.
use Rattle.std.specs.Prelude.{ℕ, List, Bool}
use Rattle.std.specs.BTreeSet.{contains_by}
use Rattle.std.specs.Cmp.Lexicographic.{slice_cmp}
use Rattle.std.specs.Ordering.{nat_cmp}
use Rattle.yv_type_enums.specs.declared.values.Values.{Values}

-- the name is among the values
abbrev pub has : Values → List ℕ → Bool
has values name = contains_by (λ k. slice_cmp nat_cmp name k.now) values.names
