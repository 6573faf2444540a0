-- Only private clauses cite this: lists by number, and the types that types follow, as tables keep
-- them.
use Rattle.std.specs.Prelude.{◌≡◌, ◌↔◌, ℕ, List, [], Option, Some, slice_get}
use Rattle.std.specs.Option.{option_map, unwrap_or}
use Rattle.std.specs.declared.vec.Vec.{Vec}
use Rattle.std.specs.declared.alloc.Global.{Global}
use Rattle.yv_base_tables.specs.Slots.{at}
use Rattle.yv_link_scopes.specs.Files.{Briefs}
use Rattle.yv_link_scopes.specs.Rows.{Row}
use Rattle.yv_type_chains.specs.Types.{Follows, HasBase}

-- the list at a place
abbrev pub items_at : List (Vec ℕ Global) → ℕ → List ℕ
items_at lists k = unwrap_or (option_map (λ v. v.items) (slice_get lists k)) []

-- these are the types that types follow
abbrev pub AreFollowed : Briefs → List Row → List (Option ℕ) → Type 0
AreFollowed files rows follows = (k j : ℕ) → (at follows k ≡ Some j) ↔ Follows files rows k j

-- these are the bases of types
abbrev pub AreBased : Briefs → List Row → List (Option ℕ) → Type 0
AreBased files rows bases = (k b : ℕ) → (at bases k ≡ Some b) ↔ HasBase files rows k b
