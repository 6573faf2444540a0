-- Only private clauses cite this: sets of names.
use Rattle.std.specs.Prelude.{ℕ, Bool, List}
use Rattle.std.specs.Ordering.{nat_cmp}
use Rattle.std.specs.Cmp.Lexicographic.{slice_cmp}
use Rattle.std.specs.BTreeSet.{contains_by}
use Rattle.yv_search.specs.declared.modules.Names.{Names}

-- whether a name is among them
abbrev pub has : Names → List ℕ → Bool
has names q = contains_by (λ k. slice_cmp nat_cmp q k.now) names.set
