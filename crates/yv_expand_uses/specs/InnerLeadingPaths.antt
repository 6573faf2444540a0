-- Only private clauses cite this: which of some different paths lead to nodes at a copy, and refine
-- targets by their places among these.
use Rattle.std.specs.Prelude.{◌≡◌, ℕ, ◌+◌, ◌==◌, Bool, List, [], ◌∷◌, length, map, filter, if◌then◌else◌, Option, Some, None, is_some, slice_get, slice_index_or}
use Rattle.std.specs.Option.{unwrap_or}
use Rattle.yv_expand_rounds.specs.declared.arrivals.Arrival.{Arrival}
use Rattle.yv_expand_refines.specs.declared.targets.RefineTarget.{RefineTarget}
use Rattle.yv_expand_uses.specs.RefineTargets.{node_at}
use Rattle.yv_expand_uses.specs.declared.leading_paths.LeadingPaths.{LeadingPaths}

-- it leads to a node
abbrev pub is_led : Arrival → Bool
is_led a = is_some (node_at a.end)

abbrev pub paths_of : List Arrival → List ℕ
paths_of arrivals = map (λ a. a.path) (filter is_led arrivals)

abbrev pub targets_of : List Arrival → List (Option ℕ)
targets_of arrivals = map (λ a. node_at a.end) (filter is_led arrivals)

-- of the numbered paths those that lead to a node, and where each leads
pub record IsLed (lead : List ℕ → Option ℕ) (all : List (List ℕ))
    (led : LeadingPaths) : Type 0 where
  pub each : length led.targets.items ≡ length led.paths.items
  pub leads : (place path : ℕ) (steps : List ℕ) → slice_get led.paths.items place ≡ Some path
      → slice_get all path ≡ Some steps
      → slice_index_or led.targets.items place None ≡ lead steps
  pub whole : (path item : ℕ) (steps : List ℕ) → slice_get all path ≡ Some steps
      → lead steps ≡ Some item
      → (place : ℕ) × (slice_get led.paths.items place ≡ Some path)

-- the first place of a path among these, whose places begin with this one
abbrev pub first_from : (place : ℕ) → List ℕ → (path : ℕ) → Option ℕ
first_from place [] path = None
first_from place (p ∷ ps) path = if p == path then Some place else first_from (place + 1) ps path

-- a refine target by the place of its path among these; after the last where it isn't among them
abbrev pub place_aim : List ℕ → RefineTarget → RefineTarget
place_aim paths a =
    record { refine = a.refine; path = unwrap_or (first_from 0 paths a.path) (length paths) }
