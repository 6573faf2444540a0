use Rattle.std.proofs.Common.{◌≡◌, ◌+◌, ◌∙◌, ℕ, inl, inr, ap, refl, sym, subst, arith, length, length-set, Some}
use Rattle.std.specs.Vec.{with_item}
use Rattle.std.proofs.lemmas.Option.{same_Some}
use Rattle.yv_expand_refines.proofs.Meaning.{meant_from_aims}
use Rattle.yv_expand_refines.specs.Targets.{meant_from}
use Rattle.yv_expand_uses.specs.InnerRefineTargets.{IsPlaced}
use Rattle.yv_expand_uses.specs.declared.refine_targets.RefineTargets.{RefineTargets}
use Rattle.yv_expand_uses.specs.declared.refine_targets.KeptTargets.{KeptTargets}
use Rattle.yv_expand_uses.proofs.TargetLists.{within_more}
use Rattle.yv_expand_uses.proofs.NotedTargets.{long, placed_before, placed_last}
use Rattle.yv_expand_uses.proofs.ListGrowth.{set_at}
use Rattle.yv_expand_uses.proofs.refine_targets.RefineTargets.keep.Goals as goal

pub returns-clause-refine_targets : goal.returns-clause-refine_targets
returns-clause-refine_targets c = λ w are told.
    let old : RefineTargets = c.args.self.now in
    let k : KeptTargets = record { paths = c.args.paths; place = c.len-place.result } in
    let new : RefineTargets = record { known = old.known; aimed = old.aimed; kept = with_item old.kept c.args.number (Some k); refinements = record { refine_targets = c.push.new.self; uses = old.refinements.uses } } in
    let made = c.in_ok-push.ensures.items in
    let next : c.len-place.result ≡ length old.refinements.refine_targets.items = omega (arith, c.len-place.ensures) in
    let size : length new.refinements.refine_targets.items ≡ length old.refinements.refine_targets.items + 1 = long old new c.args.refine_targets made refl in
    let here : IsPlaced new c.args.number c.args.paths.items c.len-place.result = placed_last old new c.args.refine_targets made refl c.args.number c.len-place.result c.args.paths.items next told in
    record {
      known = λ statement module_file number at. (let it = are.known statement module_file number at in record { aimed = it.aimed; at = it.at; is = it.is });
      each = length-set old.kept.items c.args.number (Some k) ∙ are.each;
      kept = λ number j at. elim (set_at old.kept.items c.args.number number (Some k) (Some j) at) [
        | inl (here_is, is) ↦
            subst (λ (n : ℕ). IsPlaced new n j.paths.items j.place) (sym here_is)
            (subst (λ (x : KeptTargets). IsPlaced new c.args.number x.paths.items x.place) (sym (same_Some j k is)) here)
        | inr there ↦ placed_before old new c.args.refine_targets made refl number j.place j.paths.items (are.kept number j there)
      ];
      uses = within_more (length old.refinements.refine_targets.items) (length new.refinements.refine_targets.items) old.refinements.uses.items (omega (arith, size)) are.uses;
    }

pub returns-clause-place : goal.returns-clause-place
returns-clause-place c = λ told.
    let old : RefineTargets = c.args.self.now in
    let k : KeptTargets = record { paths = c.args.paths; place = c.len-place.result } in
    let new : RefineTargets = record { known = old.known; aimed = old.aimed; kept = with_item old.kept c.args.number (Some k); refinements = record { refine_targets = c.push.new.self; uses = old.refinements.uses } } in
    placed_last old new c.args.refine_targets c.in_ok-push.ensures.items refl c.args.number c.len-place.result c.args.paths.items (omega (arith, c.len-place.ensures)) told

pub returns-clause-means : goal.returns-clause-means
returns-clause-means c = λ w are.
    let us = c.args.self.now.refinements.uses.items in
    ap (λ l. meant_from l us) c.in_ok-push.ensures.items ∙ meant_from_aims c.args.self.now.refinements.refine_targets.items c.args.refine_targets us are.uses
