-- What refines mean (RFC 7950, section 7.13.2).
use Rattle.std.specs.Prelude.{ℕ, List, [], ◌∷◌, ◌++◌, Option, Some, None, map, slice_get, slice_index_or}
use Rattle.std.specs.declared.alloc.Global.{Global}
use Rattle.std.specs.declared.vec.Vec.{Vec}
use Rattle.yv_expand_refines.specs.declared.targets.RefineTarget.{RefineTarget}
use Rattle.yv_expand_refines.specs.declared.targets.RefinedUses.{RefinedUses}
use Rattle.yv_expand_refines.specs.declared.targets.Refinements.{Refinements}

-- a refine at a copy of its uses: the item that the uses is, the statement that refines, and the
-- item that it means, if there is one
pub record RefineMeaning : Type 0 where
  pub item : ℕ
  pub refine : ℕ
  pub target : Option ℕ

-- what a refine target means at a copy, where the different paths lead to these items
abbrev pub meaning_of : (item : ℕ) → List (Option ℕ) → RefineTarget → RefineMeaning
meaning_of item targets refine_target =
    record {
      item = item;
      refine = refine_target.refine;
      target = slice_index_or targets refine_target.path None;
    }

-- the refines of a `uses` with their paths, where it has some
abbrev pub targets_of : Option (Vec RefineTarget Global) → List RefineTarget
targets_of None = []
targets_of (Some refine_targets) = refine_targets.items

-- the refine targets of a place; none past the last
abbrev pub targets_at : List (Vec RefineTarget Global) → (place : ℕ) → List RefineTarget
targets_at refine_targets place = targets_of (slice_get refine_targets place)

-- what the refines of a uses mean at a copy
abbrev pub meant_at : List (Vec RefineTarget Global) → RefinedUses → List RefineMeaning
meant_at refine_targets u = map (meaning_of u.item u.targets.items)
    (targets_at refine_targets u.refine_targets)

-- what those of some copies mean, one copy after the other
abbrev pub meant_from : List (Vec RefineTarget Global) → List RefinedUses → List RefineMeaning
meant_from refine_targets [] = []
meant_from refine_targets (u ∷ us) = meant_at refine_targets u ++ meant_from refine_targets us

-- what all refines mean
abbrev pub all_meant : Refinements → List RefineMeaning
all_meant r = meant_from r.refine_targets.items r.uses.items
