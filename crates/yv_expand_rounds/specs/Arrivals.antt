-- Where many paths lead (RFC 7950, section 6.5).
use Rattle.std.specs.Prelude.{◌≡◌, ℕ, List, Some, slice_get}
use Rattle.yv_expand_rounds.specs.declared.arrivals.Arrival.{Arrival}
use Rattle.yv_expand_rounds.specs.declared.end.End.TheVariants.{Start}
use Rattle.yv_expand_rounds.specs.declared.label.Label.{Label}
use Rattle.yv_expand_rounds.specs.Groups.{Groups}
use Rattle.yv_expand_rounds.specs.Paths.{path_end}

-- a path leads from the items of a group to this end
pub record Arrives (labels : List Label) (groups : Groups) (limit start : ℕ) (paths : List (List ℕ))
    (a : Arrival) : Type 0 where
  pub steps : List ℕ
  pub of : slice_get paths a.path ≡ Some steps
  pub leads : path_end labels groups limit steps (Start start) ≡ Some a.end

-- these are all paths that lead somewhere, each with where it leads
pub record AreArrivals (labels : List Label) (groups : Groups) (limit start : ℕ)
    (paths : List (List ℕ)) (arrivals : List Arrival) : Type 0 where
  pub each : (place : ℕ) (a : Arrival) → slice_get arrivals place ≡ Some a
      → Arrives labels groups limit start paths a
  pub all : (a : Arrival) → Arrives labels groups limit start paths a
      → (place : ℕ) × (slice_get arrivals place ≡ Some a)
