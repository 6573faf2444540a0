-- Only private clauses cite this: on what the copies of a uses agree that are alike, and the runs
-- of refines that change items there.
use Rattle.std.specs.Prelude.{◌≡◌, ℕ, ◌+◌, ◌&&◌, Bool, false, List, [], ◌∷◌, ◌++◌, map, filter, set, if◌then◌else◌, Option, Some, None, slice_get, slice_index_or}
use Rattle.std.specs.Option.{option_and_then, option_map}
use Rattle.yv_link_scopes.specs.Files.{Files}
use Rattle.yv_link_scopes.specs.RowList.{rows_of, statements_of}
use Rattle.yv_expand_uses.specs.declared.spot.Spot.{Spot}
use Rattle.yv_expand_refines.specs.declared.targets.RefineTarget.{RefineTarget}
use Rattle.yv_expand_statements.specs.AllowedRefines.{is_some_fit}
use Rattle.yv_expand_changes.specs.Changes.{is_meant}
use Rattle.yv_expand_changes.specs.declared.ways.Way.{Way}

-- the first of these paths, numbered from the first on, that leads to an item
abbrev pub first_from : (path : ℕ) → List (Option ℕ) → (item : ℕ) → Option ℕ
first_from path [] item = None
first_from path (t ∷ ts) item = if is_meant item t then Some path else first_from (path + 1) ts item

-- on what copies agree that are alike, where a path leads to this item and all paths lead to these
abbrev pub way_of_target : List Spot → (targets : List (Option ℕ)) → Option ℕ → Option Way
way_of_target spots targets None = None
way_of_target spots targets (Some item) =
    Some (record {
      statement = option_map (λ s. s.statement) (slice_get spots item);
      first = first_from 0 targets item;
    })

abbrev pub ways_of : List Spot → (targets : List (Option ℕ)) → List (Option Way)
ways_of spots targets = map (way_of_target spots targets) targets

-- a refine is fit for an item that this statement gives
abbrev pub is_fit_at : Files → Option ℕ → (refine : ℕ) → Bool
is_fit_at files statement refine =
    is_some_fit (option_and_then (slice_get (rows_of files)) statement)
    (slice_get (statements_of files) refine)

-- a refine changes the item to which its path leads, and the path of this number is the first that
-- leads there
abbrev pub is_in_run : Files → (path refine : ℕ) → Option Way → Bool
is_in_run files path refine None = false
is_in_run files path refine (Some w) = is_meant path w.first && is_fit_at files w.statement refine

abbrev pub is_run : Files → List (Option Way) → (path : ℕ) → RefineTarget → Bool
is_run files ways path a = is_in_run files path a.refine (slice_index_or ways a.path None)

-- the refines that change an item to which the path of this number is the first that leads
abbrev pub run_at : Files → List (Option Way) → List RefineTarget → (path : ℕ) → List ℕ
run_at files ways refine_targets path = map (λ a. a.refine) (filter
    (is_run files ways path) refine_targets)

abbrev pub runs_from : Files → List (Option Way) → List RefineTarget → (path : ℕ)
    → List (Option Way) → List (List ℕ)
runs_from files ways refine_targets path [] = []
runs_from files ways refine_targets path (w ∷ ws) =
    run_at files ways refine_targets path ∷ runs_from files ways refine_targets (path + 1) ws

-- those for each path
abbrev pub runs_of : Files → List (Option Way) → List RefineTarget → List (List ℕ)
runs_of files ways refine_targets = runs_from files ways refine_targets 0 ways

-- a run has this number; an empty one has none
abbrev pub IsRun : (runs : List (List ℕ)) → Option ℕ → List ℕ → Type 0
IsRun runs None run = run ≡ []
IsRun runs (Some number) run = slice_get runs number ≡ Some run

-- these runs have these numbers
abbrev pub AreRuns : (runs : List (List ℕ)) → (numbers : List (Option ℕ)) → List (List ℕ) → Type 0
AreRuns runs numbers lists =
    (path : ℕ) → IsRun runs (slice_index_or numbers path None) (slice_index_or lists path [])

-- a run keeps its number
abbrev pub KeepsRuns : (old new : List (List ℕ)) → Type 0
KeepsRuns old new =
    (number : ℕ) (run : List ℕ) → slice_get old number ≡ Some run → slice_get new number ≡ Some run

-- a run more changes the item to which a path leads
abbrev pub note_run : Option ℕ → (run : List ℕ) → List (List ℕ) → List (List ℕ)
note_run None run lists = lists
note_run (Some item) run lists = set lists item (slice_index_or lists item [] ++ run)

-- the runs of these paths change the items to which they lead
abbrev pub noted_from : (path : ℕ) → (targets : List (Option ℕ)) → (runs : List (List ℕ))
    → List (List ℕ) → List (List ℕ)
noted_from path [] runs lists = lists
noted_from path (t ∷ ts) runs lists =
    noted_from (path + 1) ts runs (note_run t (slice_index_or runs path []) lists)
