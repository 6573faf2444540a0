-- What all refines of an expansion mean (RFC 7950, section 7.13.2).
use Rattle.std.specs.Prelude.{ℕ, ◌+◌, List, [], ◌∷◌, ◌++◌}
use Rattle.yv_expand.specs.Tree.{Item}
use Rattle.yv_expand_rounds.specs.declared.label.Label.{Label}
use Rattle.yv_expand_refines.specs.Targets.{RefineMeaning}
use Rattle.yv_expand_uses.specs.Ends.{end_at}
use Rattle.yv_expand_augments.specs.Augmentation.{placed_from}
use Rattle.yv_expand_uses.specs.RefineTargets.{refined_at}
use Rattle.yv_expand_uses.specs.Spots.{LayoutView, Whole, labels_of, layout_of}
use Rattle.yv_expand_uses.specs.declared.spot.Spot.{Spot}

-- from the last item to the first, so that those of an inner uses come before those of an outer one
abbrev pub refined_from : Whole → List Label → (copies : ℕ) → (end : ℕ → ℕ) → (first : ℕ)
    → List Spot → List RefineMeaning
refined_from w labels copies end i [] = []
refined_from w labels copies end i (s ∷ others) =
    refined_from w labels copies end (i + 1) others
    ++ refined_at w labels s i (end i) (placed_from w labels copies (i + 1) others)

-- what the refines of all `uses` mean, in the order of the items
abbrev pub refine_meanings : Whole → LayoutView → (end : ℕ → ℕ) → List RefineMeaning
refine_meanings w l end = refined_from w (labels_of l.spots) l.copies end 0 l.spots

-- what all refines of an expansion mean
abbrev pub refined_all : Whole → List Item → List RefineMeaning
refined_all w items = refine_meanings w (layout_of w items) (end_at items)
