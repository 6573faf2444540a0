-- Inner definitions: what the refines of `uses` statements aim at, made once for all copies in one
-- module that are alike. Public clauses cite `AreRefineTargets` alone.
use Rattle.std.specs.Prelude.{◌≡◌, ℕ, ◌<◌, List, length, map, Option, Some, slice_get, vec_capacity}
use Rattle.std.specs.Ordering.{nat_cmp, ordering_then}
use Rattle.std.specs.declared.cmp.Ordering.{Ordering}
use Rattle.std.specs.BTreeMap.{IsUnchanged, get}
use Rattle.yv_base_tables.specs.InnerTree.{IsPathTree}
use Rattle.yv_expand_refines.specs.Targets.{targets_at}
use Rattle.yv_expand_refines.specs.declared.targets.RefineTarget.{RefineTarget}
use Rattle.yv_expand_refines.specs.declared.targets.RefinedUses.{RefinedUses}
use Rattle.yv_expand_uses.specs.Paths.{path_in}
use Rattle.yv_expand_uses.specs.InnerLeadingPaths.{place_aim}
use Rattle.yv_expand_uses.specs.RefineTargets.{SameRefinements, refines_in}
use Rattle.yv_expand_uses.specs.Spots.{Whole}
use Rattle.yv_expand_uses.specs.declared.refine_targets.UsesTargets.{UsesTargets}
use Rattle.yv_expand_uses.specs.declared.refine_targets.RefineTargets.{RefineTargets}
use Rattle.yv_expand_uses.specs.declared.refine_targets.KeptTargets.{KeptTargets}

-- these are the refines of a block in order, each with the number of the path that it has in the
-- module of the file `module_file`
pub record AreTargets (w : Whole) (statement module_file : ℕ) (refine_targets : List RefineTarget)
    (paths : List (List ℕ)) : Type 0 where
  pub refines : map (λ a. a.refine) refine_targets ≡ refines_in w.rows statement
  pub each : map (λ a. slice_get paths a.path) refine_targets
      ≡ map (λ k. Some (path_in w module_file k)) (refines_in w.rows statement)

-- the same, where the paths are those of a tree
pub record IsUsesTargets (w : Whole) (statement module_file : ℕ)
    (aimed : UsesTargets) : Type 0 where
  pub all : List (List ℕ)
  pub tree : IsPathTree all aimed.paths
  pub refine_targets : AreTargets w statement module_file aimed.refine_targets.items all

-- the number of a `uses`, and the file of a module
abbrev pub Key : Type 0
Key = ℕ × ℕ

abbrev pub key_cmp : Key → Key → Ordering
key_cmp j k = ordering_then (nat_cmp j.0 k.0) (nat_cmp j.1 k.1)

-- the number that is known
abbrev pub number_in : RefineTargets → (statement module_file : ℕ) → Option ℕ
number_in refine_targets statement module_file = get key_cmp refine_targets.known
    (statement, module_file)

-- what the refines of a `uses` aim at in a module has this number
pub record HasNumber (w : Whole) (refine_targets : RefineTargets)
    (statement module_file number : ℕ) : Type 0 where
  pub aimed : UsesTargets
  pub at : slice_get refine_targets.aimed.items number ≡ Some aimed
  pub is : IsUsesTargets w statement module_file aimed

-- the refine targets of this number stand at this place, for copies where these paths lead to nodes
pub record IsPlaced (refine_targets : RefineTargets) (number : ℕ) (paths : List ℕ)
    (place : ℕ) : Type 0 where
  pub within : place < length refine_targets.refinements.refine_targets.items
  pub stand : (aimed : UsesTargets) → slice_get refine_targets.aimed.items number ≡ Some aimed
      → targets_at refine_targets.refinements.refine_targets.items place ≡ map
      (place_aim paths) aimed.refine_targets.items

-- the refine targets of each copy stand at one of so many places
abbrev pub StandWithin : (places : ℕ) → List RefinedUses → Type 0
StandWithin places us = (k : ℕ) (u : RefinedUses) → slice_get us k ≡ Some u
    → u.refine_targets < places

-- the refine targets that are known have their numbers, those that are kept stand at their places,
-- and those of each copy do
pub record AreRefineTargets (w : Whole) (refine_targets : RefineTargets) : Type 0 where
  pub known : (statement module_file number : ℕ)
      → number_in refine_targets statement module_file ≡ Some number
      → HasNumber w refine_targets statement module_file number
  pub each : length refine_targets.kept.items ≡ length refine_targets.aimed.items
  pub kept : (number : ℕ) (k : KeptTargets)
      → slice_get refine_targets.kept.items number ≡ Some (Some k)
      → IsPlaced refine_targets number k.paths.items k.place
  pub uses : StandWithin
      (length refine_targets.refinements.refine_targets.items) refine_targets.refinements.uses.items

-- all that is noted is as before; there may be room for more
pub record IsAsBefore (old new : RefineTargets) : Type 0 where
  pub known : IsUnchanged old.known new.known
  pub aimed : new.aimed.items ≡ old.aimed.items
  pub kept : new.kept.items ≡ old.kept.items
  pub refinements : SameRefinements old.refinements new.refinements

-- there is room for one more copy
abbrev pub HasRoom : RefineTargets → Type 0
HasRoom refine_targets =
    length refine_targets.refinements.uses.items < vec_capacity refine_targets.refinements.uses
