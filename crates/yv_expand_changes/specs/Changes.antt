-- Which refines change which items of an expansion (RFC 7950, section 7.13.2).
use Rattle.std.specs.Prelude.{ℕ, ◌+◌, ◌==◌, ◌&&◌, Bool, false, List, [], ◌∷◌, map, filter, Option, Some, None, slice_get}
use Rattle.std.specs.Option.{option_and_then}
use Rattle.yv_link_scopes.specs.Files.{Files}
use Rattle.yv_link_scopes.specs.RowList.{rows_of, statements_of}
use Rattle.yv_expand_refines.specs.Targets.{RefineMeaning}
use Rattle.yv_expand_uses.specs.declared.spot.Spot.{Spot}
use Rattle.yv_expand_statements.specs.AllowedRefines.{is_some_fit}

-- a refine is fit for an item; an operation's part that isn't written takes what its operation
-- takes
abbrev pub is_fit_at_item : Files → List Spot → (refine item : ℕ) → Bool
is_fit_at_item files spots refine item =
    is_some_fit (option_and_then (λ s. slice_get (rows_of files) s.statement)
    (slice_get spots item)) (slice_get (statements_of files) refine)

-- a refine means this item
abbrev pub is_meant : (item : ℕ) → Option ℕ → Bool
is_meant item None = false
is_meant item (Some i) = i == item

-- a refine changes the item: it means it and is fit for it
abbrev pub is_change : Files → List Spot → (item : ℕ) → RefineMeaning → Bool
is_change files spots item x = is_meant item x.target && is_fit_at_item files spots x.refine item

-- the numbers of the refines that change an item, in the order in which they do
abbrev pub changes : Files → List Spot → List RefineMeaning → (item : ℕ) → List ℕ
changes files spots refined item = map (λ x. x.refine) (filter (is_change files spots item) refined)

-- what changes each of these items
abbrev pub changes_from : Files → List Spot → List RefineMeaning → (item : ℕ) → List Spot
    → List (List ℕ)
changes_from files spots refined item [] = []
changes_from files spots refined item (s ∷ others) =
    changes files spots refined item ∷ changes_from files spots refined (item + 1) others

-- those of each item
abbrev pub all_changes : Files → List Spot → List RefineMeaning → List (List ℕ)
all_changes files spots refined = changes_from files spots refined 0 spots
