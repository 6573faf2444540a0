-- Only private clauses cite this: how the versions of files are looked up.
use Rattle.std.specs.Prelude.{ℕ, Bool, List, Option}
use Rattle.std.specs.Ordering.{nat_cmp}
use Rattle.std.specs.Cmp.Lexicographic.{slice_cmp}
use Rattle.std.specs.BTreeMap.{get_by}
use Rattle.yv_lint.specs.declared.versions.Versions.{Versions}

-- what is kept for a name
abbrev pub version_in : Versions → List ℕ → Option Bool
version_in v name = get_by (λ k. slice_cmp nat_cmp name k.now) v.map
