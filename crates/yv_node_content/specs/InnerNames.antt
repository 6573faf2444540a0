-- Only private clauses cite this: steps as a set.
use Rattle.std.specs.Prelude.{ℕ, Bool, List, Option}
use Rattle.std.specs.BTreeSet.{BTreeSet, contains_by}
use Rattle.std.specs.Option.{option_cmp}
use Rattle.std.specs.Ordering.{nat_cmp, ordering_then}
use Rattle.std.specs.Cmp.Lexicographic.{slice_cmp}
use Rattle.std.specs.Rc.{rc_str_bytes}
use Rattle.std.specs.declared.rc.RcStr.{RcStr}
use Rattle.std.specs.declared.alloc.Global.{Global}

-- a step is in the set
abbrev pub has : BTreeSet (RcStr Global × Option ℕ) → (module_file : Option ℕ) → (name : List ℕ)
    → Bool
has steps module_file name =
    contains_by (λ k. ordering_then (slice_cmp nat_cmp name (rc_str_bytes k.0))
    (option_cmp nat_cmp module_file k.1)) steps
