-- Only private clauses cite this: the runs that are known of a uses.
use Rattle.yv_link_scopes.specs.Files.{Files}
use Rattle.std.specs.Prelude.{◌≡◌, ℕ, List, Some, length, slice_get}
use Rattle.std.specs.declared.alloc.Global.{Global}
use Rattle.std.specs.declared.vec.Vec.{Vec}
use Rattle.yv_expand_refines.specs.Targets.{targets_at}
use Rattle.yv_expand_refines.specs.declared.targets.RefineTarget.{RefineTarget}
use Rattle.yv_expand_changes.specs.InnerAlike.{AreRuns, runs_of}
use Rattle.yv_expand_changes.specs.declared.known_runs.KnownRuns.{KnownRuns}

-- they are those of the copies that agree on these ways
abbrev pub IsKnown : Files → List RefineTarget → (runs : List (List ℕ)) → KnownRuns → Type 0
IsKnown files refine_targets runs known =
    AreRuns runs known.numbers.items (runs_of files known.ways.items refine_targets)

-- what is known of the uses at each place
pub record AreKnown (files : Files) (refine_targets : List (Vec RefineTarget Global))
    (runs : List (List ℕ))
    (known : List KnownRuns) : Type 0 where
  pub each : length known ≡ length refine_targets
  pub are : (place : ℕ) (k : KnownRuns) → slice_get known place ≡ Some k
      → IsKnown files (targets_at refine_targets place) runs k
