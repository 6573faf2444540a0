-- The refine targets that are noted at places, when others are.
use Rattle.std.proofs.Common.{◌≡◌, ℕ, ◌+◌, ◌<◌, List, [], ◌∷◌, ◌++◌, length, length-append, map, Option, Some, None, Result, Ok, Err, sym, ◌∙◌, ap, arith}
use Rattle.std.specs.List.{slice_get}
use Rattle.std.specs.Map.{lookup}
use Rattle.std.specs.Prelude.{IsOk, OnErr, OnOk}
use Rattle.std.specs.Ordering.{is_eq}
use Rattle.std.specs.declared.alloc.Global.{Global}
use Rattle.std.specs.declared.vec.Vec.{Vec}
use Rattle.std.proofs.lemmas.Option.{slice_get_within}
use Rattle.yv_expand_refines.proofs.Meaning.{aims_at_left}
use Rattle.yv_expand_refines.specs.Targets.{all_meant, meant_from, targets_at}
use Rattle.yv_expand_refines.specs.declared.targets.RefineTarget.{RefineTarget}
use Rattle.yv_expand_refines.specs.declared.targets.Refinements.{Refinements}
use Rattle.yv_expand_uses.specs.InnerRefineTargets.{AreRefineTargets, HasNumber, IsAsBefore, IsPlaced, key_cmp, number_in}
use Rattle.yv_expand_uses.specs.InnerLeadingPaths.{place_aim}
use Rattle.yv_expand_uses.specs.RefineTargets.{SameRefinements}
use Rattle.yv_expand_uses.specs.Spots.{Whole}
use Rattle.yv_expand_uses.specs.declared.refine_targets.UsesTargets.{UsesTargets}
use Rattle.yv_expand_uses.specs.declared.refine_targets.RefineTargets.{RefineTargets}
use Rattle.yv_expand_uses.specs.declared.refine_targets.KeptTargets.{KeptTargets}
use Rattle.yv_expand_uses.proofs.TargetLists.{aims_last}
use Rattle.yv_expand_uses.proofs.ListGrowth.{get_before, keep_before, last_or_before}

-- one place more
module _ (old new : RefineTargets) (v : Vec RefineTarget Global) (made : new.refinements.refine_targets.items ≡ old.refinements.refine_targets.items ++ v ∷ []) (same : new.aimed ≡ old.aimed) where
  pub long : length new.refinements.refine_targets.items ≡ length old.refinements.refine_targets.items + 1
  long = ap length made ∙ length-append old.refinements.refine_targets.items (v ∷ [])

  was : (number : ℕ) (aimed : UsesTargets) → slice_get new.aimed.items number ≡ Some aimed → slice_get old.aimed.items number ≡ Some aimed
  was number aimed at = ap (λ (l : Vec UsesTargets Global). slice_get l.items number) (sym same) ∙ at

  pub placed_before : (number place : ℕ) (paths : List ℕ) → IsPlaced old number paths place → IsPlaced new number paths place
  placed_before number place paths it = record {
    within = (let less = it.within in omega (arith, less, long));
    stand = λ aimed at. ap (λ l. targets_at l place) made ∙ aims_at_left old.refinements.refine_targets.items v place it.within ∙ it.stand aimed (was number aimed at);
  }

  pub placed_last : (number place : ℕ) (paths : List ℕ) → place ≡ length old.refinements.refine_targets.items
      → ((aimed : UsesTargets) → slice_get old.aimed.items number ≡ Some aimed → v.items ≡ map (place_aim paths) aimed.refine_targets.items) → IsPlaced new number paths place
  placed_last number place paths is told = record {
    within = omega (arith, is, long);
    stand = λ aimed at. ap (λ l. targets_at l place) made ∙ ap (targets_at (old.refinements.refine_targets.items ++ v ∷ [])) is ∙ aims_last old.refinements.refine_targets.items v ∙ told aimed (was number aimed at);
  }

-- one number more
module _ (old new : RefineTargets) (a : UsesTargets) (more : new.aimed.items ≡ old.aimed.items ++ a ∷ []) (same : new.refinements ≡ old.refinements) where
  pub number_before : (w : Whole) (statement module_file number : ℕ) → HasNumber w old statement module_file number → HasNumber w new statement module_file number
  number_before w statement module_file number it = record {
    aimed = it.aimed;
    at = ap (λ l. slice_get l number) more ∙ keep_before old.aimed.items a number it.aimed it.at;
    is = it.is;
  }

  pub kept_before : (kept : List (Option KeptTargets)) → length old.kept.items ≡ length old.aimed.items → kept ≡ old.kept.items ++ None ∷ []
      → ((number : ℕ) (k : KeptTargets) → slice_get old.kept.items number ≡ Some (Some k) → IsPlaced old number k.paths.items k.place)
      → (number : ℕ) (k : KeptTargets) → slice_get kept number ≡ Some (Some k) → IsPlaced new number k.paths.items k.place
  kept_before kept each longer before number k at =
      last_or_before (λ n. IsPlaced new n k.paths.items k.place) old.kept.items None (Some k) number (ap (λ l. slice_get l number) (sym longer) ∙ at)
      (λ there.
      let it = before number k there in
      let inside : number < length old.aimed.items = (let less = slice_get_within old.kept.items number (Some k) there in omega (arith, less, each)) in
      record {
        within = (let less = it.within in let size = ap (λ r. length r.refine_targets.items) same in omega (arith, less, size));
        stand = λ aimed is. ap (λ r. targets_at r.refine_targets.items k.place) same
            ∙ it.stand aimed (sym (ap (λ l. slice_get l number) more ∙ get_before old.aimed.items a number inside) ∙ is);
      })
      (λ last none. absurd (let bad : Some k ≡ None = none in cc))

-- all that is noted is as before
module _ (old new : RefineTargets) (same : IsAsBefore old new) where
  aimed_before : (number : ℕ) (aimed : UsesTargets) → slice_get new.aimed.items number ≡ Some aimed → slice_get old.aimed.items number ≡ Some aimed
  aimed_before number aimed at = ap (λ l. slice_get l number) (sym same.aimed) ∙ at

  placed_still : (number place : ℕ) (paths : List ℕ) → IsPlaced old number paths place → IsPlaced new number paths place
  placed_still number place paths it = record {
    within = (let less = it.within in let size = ap length same.refinements.refine_targets in omega (arith, less, size));
    stand = λ aimed at. ap (λ l. targets_at l place) same.refinements.refine_targets ∙ it.stand aimed (aimed_before number aimed at);
  }

  pub targets_stay : (w : Whole) → AreRefineTargets w old → AreRefineTargets w new
  targets_stay w are = record {
    known = λ statement module_file number at.
        let was : number_in old statement module_file ≡ Some number = ap (λ es. lookup (λ k. is_eq (key_cmp (statement, module_file) k)) es) (sym same.known) ∙ at in
        let it = are.known statement module_file number was in
        record { aimed = it.aimed; at = ap (λ l. slice_get l number) same.aimed ∙ it.at; is = it.is };
    each = ap length same.kept ∙ are.each ∙ sym (ap length same.aimed);
    kept = λ number k at. placed_still number k.place k.paths.items (are.kept number k (ap (λ l. slice_get l number) (sym same.kept) ∙ at));
    uses = λ k u at. (let less = are.uses k u (ap (λ l. slice_get l k) (sym same.refinements.uses) ∙ at) in let size = ap length same.refinements.refine_targets in omega (arith, less, size));
  }

-- what is as before is so after more that leaves it
pub same_still : (old mid new : Refinements) → SameRefinements old mid → SameRefinements mid new → SameRefinements old new
same_still old mid new f g = record { refine_targets = g.refine_targets ∙ f.refine_targets; uses = g.uses ∙ f.uses }

pub same_meant : (old new : Refinements) → SameRefinements old new → all_meant new ≡ all_meant old
same_meant old new f = ap (λ l. meant_from l new.uses.items) f.refine_targets ∙ ap (meant_from old.refine_targets.items) f.uses

-- what doesn't fail
pub where_fine : {A E : Type 0} {P : Type 0} (r : Result A E) → IsOk r → OnOk r P → P
where_fine (Ok a) is h = h
where_fine (Err e) is h = absurd (cc)

pub none_failed : {A E : Type 0} (P : Type 0) (r : Result A E) → IsOk r → OnErr r P
none_failed P (Ok a) is = tt
none_failed P (Err e) is = absurd (cc)
