use Rattle.std.proofs.Common.{◌≡◌, ◌<◌, ◌++◌, ℕ, List, length, map, refl, sym, ◌∙◌, ap, subst, arith}
use Rattle.std.proofs.lemmas.List.{append-nil}
use Rattle.std.proofs.lemmas.Option.{slice_get_read}
use Rattle.yv_link_scopes.specs.Views.{lent_in}
use Rattle.yv_expand_refines.specs.Targets.{targets_at, targets_of, meaning_of}
use Rattle.yv_expand_refines.specs.declared.targets.RefineTarget.{RefineTarget}
use Rattle.yv_expand_changes.specs.Changes.{all_changes}
use Rattle.yv_expand_changes.specs.InnerRuns.{IsKnown}
use Rattle.yv_expand_changes.proofs.UsesRuns.{both_ok, known_more, nothing_meant, on_ok}
use Rattle.yv_expand_changes.proofs.item_changes.note_copy.Goals as goal

pub returns-then-place-refine_targets-clause-each : goal.returns-then-place-refine_targets-clause-each
returns-then-place-refine_targets-clause-each c = λ refined before.
    before
    ∙ ap (all_changes (lent_in c.args.rows.now) c.args.spots.now)
    (sym (append-nil refined) ∙ ap (λ l. refined ++ l) (sym (nothing_meant c.args.refine_targets.now c.args.uses.now c.if-place-refine_targets.true)))

pub returns-clause-knows : goal.returns-clause-knows
returns-clause-knows c =
    let files = lent_in c.args.rows.now in
    let place : ℕ = c.args.uses.now.refine_targets in
    let within : place < length c.args.refine_targets.now = omega (arith, c.if-place-refine_targets.false) in
    let there : place < length c.args.known.now.items = omega (arith, within, c.requires.each) in
    let refine_targets : c.deref.result.now ≡ targets_at c.args.refine_targets.now place =
    c.deref.ensures.value ∙ sym (ap targets_of (slice_get_read c.args.refine_targets.now _ place c.index-refine_targets-place.result refl within c.index-refine_targets-place.is))
    in
    let was : IsKnown files c.deref.result.now c.args.changes.now.runs c.index_mut.result.now =
    subst (λ (l : List RefineTarget). IsKnown files l c.args.changes.now.runs c.index_mut.result.now) (sym refine_targets)
    (c.requires.are place c.index_mut.result.now (slice_get_read c.args.known.now.items _ place c.index_mut.result.now refl there c.index_mut.ensures.value))
    in
    both_ok c.note.result
    (λ keeps now. known_more files c.args.refine_targets.now c.args.changes.now.runs c.note.new.changes.runs c.args.known.now.items place c.note.new.self keeps c.requires
    (subst (λ (l : List RefineTarget). IsKnown files l c.note.new.changes.runs c.note.new.self) refine_targets now))
    c.note.ensures.runs (c.note.ensures.knows was)

pub returns-clause-each : goal.returns-clause-each
returns-clause-each c = λ refined before.
    let files = lent_in c.args.rows.now in
    let place : ℕ = c.args.uses.now.refine_targets in
    let within : place < length c.args.refine_targets.now = omega (arith, c.if-place-refine_targets.false) in
    let there : place < length c.args.known.now.items = omega (arith, within, c.requires.each) in
    let refine_targets : c.deref.result.now ≡ targets_at c.args.refine_targets.now place =
    c.deref.ensures.value ∙ sym (ap targets_of (slice_get_read c.args.refine_targets.now _ place c.index-refine_targets-place.result refl within c.index-refine_targets-place.is))
    in
    let was : IsKnown files c.deref.result.now c.args.changes.now.runs c.index_mut.result.now =
    subst (λ (l : List RefineTarget). IsKnown files l c.args.changes.now.runs c.index_mut.result.now) (sym refine_targets)
    (c.requires.are place c.index_mut.result.now (slice_get_read c.args.known.now.items _ place c.index_mut.result.now refl there c.index_mut.ensures.value))
    in
    on_ok c.note.result
    (λ e. e ∙ ap (λ (l : List RefineTarget). all_changes files c.args.spots.now (refined ++ map (meaning_of c.args.uses.now.item c.args.uses.now.targets.items) l)) refine_targets)
    (c.note.ensures.each refined was before)
