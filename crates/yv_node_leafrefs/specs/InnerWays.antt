-- Only private clauses cite this: ways, found from their ends up.
use Rattle.std.specs.Prelude.{◌≡◌, ◌↔◌, zero, suc, ℕ, ◌<◌, ◌==◌, not, Bool, true, if◌then◌else◌}
use Rattle.std.specs.Prelude.{List, [], ◌∷◌, length, reverse, Option, Some, None}
use Rattle.std.specs.List.{slice_index_or}
use Rattle.std.specs.Option.{option_map}
use Rattle.yv_nodes.specs.Link.{Link}
use Rattle.yv_nodes.specs.Rows.{Row}
use Rattle.yv_node_leafrefs.specs.Schema.{Referral}
use Rattle.yv_node_leafrefs.specs.Above.{IsAbove}
use Rattle.yv_node_leafrefs.specs.Links.{IsInner}

-- for each of the first n nodes the container or list that is above it, choices and cases being
-- passed over: none where the document or another node does
abbrev pub AreAbove : List Row → ℕ → List (Option ℕ) → Type 0
AreAbove rows n above = (c p : ℕ) → c < n → (slice_index_or above c None ≡ Some p)
    ↔ (IsAbove rows (Some p) c × IsInner rows p)

-- so many nodes from a place upwards, each above the one before it
abbrev pub upwards : List (Option ℕ) → ℕ → Option ℕ → Option (List ℕ)
upwards above zero place = Some []
upwards above (suc k) None = None
upwards above (suc k) (Some c) =
    option_map (λ cs. c ∷ cs) (upwards above k (slice_index_or above c None))

-- a path is not so written that it begins at the leafref itself
abbrev pub is_path : Option ℕ → Bool
is_path None = true
is_path (Some climbs) = not (climbs == 0)

-- the link over these nodes of a leafref that says this and refers to the target
abbrev pub link_over : Referral → (target : ℕ) → List ℕ → Link
link_over ref target steps =
    record { climbs = ref.climbs; steps = steps; target = target; is_required = ref.is_required }

-- its link, if it has one
abbrev pub link_of_path : List (Option ℕ) → Referral → (target : ℕ) → Option Link
link_of_path above ref target =
    if is_path ref.climbs
    then option_map (λ up. link_over ref target (reverse up))
    (upwards above (length ref.steps) (Some target))
    else None
