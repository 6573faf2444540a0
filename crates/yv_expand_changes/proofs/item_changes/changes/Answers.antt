use Rattle.std.proofs.Common.{◌≡◌, ◌<◌, ◌++◌, [], ℕ, List, Vec, Global, Some, get_or, length, map, take, refl, ◌∙◌, ap, subst, sym, arith}
use Rattle.std.specs.List.{slice_get}
use Rattle.std.proofs.lemmas.Option.{slice_get_read}
use Rattle.yv_link_scopes.specs.Views.{lent_in}
use Rattle.yv_expand_refines.specs.Changes.{sequence_at}
use Rattle.yv_expand_refines.specs.Targets.{meant_at, meant_from}
use Rattle.yv_expand_refines.specs.declared.targets.RefineTarget.{RefineTarget}
use Rattle.yv_expand_refines.specs.declared.targets.RefinedUses.{RefinedUses}
use Rattle.yv_expand_changes.specs.Changes.{all_changes}
use Rattle.yv_expand_changes.specs.InnerRuns.{AreKnown}
use Rattle.yv_expand_changes.proofs.UsesRuns.{meant_next, nothing_changes}
use Rattle.yv_expand_changes.proofs.item_changes.changes.Goals as goal

pub loop-uses-init : goal.loop-uses-init
loop-uses-init c =
    let files = lent_in c.args.rows.now in
    record {
      known = subst (λ (runs : List (List ℕ)). AreKnown files c.args.refinements.now.refine_targets.items runs c.in_ok-known.known.items) (sym c.in_ok-changes.ensures.runs)
          (subst (λ (refine_targets : List (Vec RefineTarget Global)). AreKnown files refine_targets [] c.in_ok-known.known.items) c.as_slice-refine_targets.ensures.value (c.in_ok-known.ensures files));
      each = ap (map (sequence_at c.in_ok-changes.changes.sequences)) c.in_ok-changes.ensures.of ∙ nothing_changes files c.args.spots.now c.in_ok-changes.changes.sequences 0 c.args.spots.now;
    }

pub loop-uses-preserved : goal.loop-uses-preserved
loop-uses-preserved c =
    let files = lent_in c.args.rows.now in
    let spots = c.args.spots.now in
    let refine_targets : List (Vec RefineTarget Global) = c.args.refinements.now.refine_targets.items in
    let uses : List RefinedUses = c.args.refinements.now.uses.items in
    let k : ℕ = c.loop-uses.uses-index in
    let u : RefinedUses = c.uses-item.result in
    let within : k < length uses = omega (arith, c.loop-uses-test.true, ap length c.deref-uses-items.ensures.value) in
    let at : slice_get uses k ≡ Some u = slice_get_read uses _ k u refl within (c.uses-item.is ∙ ap (λ (us : List RefinedUses). get_or us k u) c.deref-uses-items.ensures.value) in
    record {
      known = subst (λ (l : List (Vec RefineTarget Global)). AreKnown files l c.note_copy.new.changes.runs c.note_copy.new.known.items) c.as_slice-refine_targets.ensures.value c.in_ok-note_copy.ensures.knows;
      each = c.in_ok-note_copy.ensures.each (meant_from refine_targets (take k uses)) c.loop-uses.invariant.each
          ∙ ap (all_changes files spots) (ap (λ (l : List (Vec RefineTarget Global)). meant_from refine_targets (take k uses) ++ meant_at l u) c.as_slice-refine_targets.ensures.value ∙ sym (meant_next refine_targets uses k u at));
    }
