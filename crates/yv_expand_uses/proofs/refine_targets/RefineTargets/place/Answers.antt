use Rattle.std.proofs.Common.{◌≡◌, ◌∙◌, List, ℕ, Some, map, ap, sym, subst}
use Rattle.std.specs.Option.{IfSome}
use Rattle.std.specs.List.{slice_get}
use Rattle.std.proofs.lemmas.Option.{same_Some, slice_get-get_or}
use Rattle.yv_expand_uses.specs.InnerRefineTargets.{IsPlaced}
use Rattle.yv_expand_uses.specs.InnerLeadingPaths.{place_aim}
use Rattle.yv_expand_uses.specs.declared.refine_targets.UsesTargets.{UsesTargets}
use Rattle.yv_expand_uses.proofs.refine_targets.RefineTargets.place.Goals as goal

pub keep-requires : goal.keep-requires
keep-requires c = c.requires.keeps

pub returns-in-Some-clause-place : goal.returns-in-Some-clause-place
returns-in-Some-clause-place c = λ w are.
    let told = subst (λ o. IfSome o (IsPlaced c.args.self.now c.args.number c.deref.result.now)) c.in-Some.is (c.last_place.ensures w are) in
    subst (λ (ps : List ℕ). IsPlaced c.args.self.now c.args.number ps c.in-Some.place) c.deref.ensures.value told

module _ (c : goal.After-keep) where
  told : (aimed : UsesTargets) → slice_get c.args.self.now.aimed.items c.args.number ≡ Some aimed → c.in_ok-refine_targets-in-None.refine_targets.items ≡ map (place_aim c.args.paths.items) aimed.refine_targets.items
  told aimed at =
      let found : UsesTargets = c.index.result.now in
      let here : found ≡ aimed = same_Some found aimed (sym (slice_get-get_or c.args.self.now.aimed.items c.args.number found c.requires.aims_at ∙ ap Some (sym c.index.ensures)) ∙ at) in
      c.in_ok-refine_targets-in-None.ensures
      ∙ ap (λ ps. map (place_aim ps) c.deref-in-None.result.now) c.deref-in-None-2.ensures.value
      ∙ ap (map (place_aim c.args.paths.items)) (c.deref-in-None.ensures.value ∙ ap (λ (a : UsesTargets). a.refine_targets.items) here)

pub returns-in_ok-refine_targets-in-None-clause-refine_targets : goal.returns-in_ok-refine_targets-in-None-clause-refine_targets
unfolding told
returns-in_ok-refine_targets-in-None-clause-refine_targets c = λ w are. c.keep.ensures.refine_targets w are (told c)

pub returns-in_ok-refine_targets-in-None-clause-place : goal.returns-in_ok-refine_targets-in-None-clause-place
unfolding told
returns-in_ok-refine_targets-in-None-clause-place c = λ w are. c.keep.ensures.place (told c)
