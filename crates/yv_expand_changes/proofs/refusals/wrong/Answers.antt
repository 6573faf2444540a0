use Rattle.std.proofs.Common.{◌≡◌, ◌<◌, ℕ, List, length, map, refl, sym, ◌∙◌, ap, subst, arith, true, rules}
use Rattle.std.specs.BTreeSet.{contains}
use Rattle.std.specs.Ordering.{nat_cmp}
use Rattle.std.proofs.lemmas.Option.{slice_get_read}
use Rattle.yv_text_statement.specs.Order.{IsLeast}
use Rattle.yv_link_scopes.specs.Views.{lent_in}
use Rattle.yv_expand_refines.specs.Targets.{targets_at, targets_of, meaning_of}
use Rattle.yv_expand_refines.specs.declared.targets.RefineTarget.{RefineTarget}
use Rattle.yv_expand_changes.specs.Refusals.{BadRefines}
use Rattle.yv_expand_changes.specs.InnerRefusals.{IsJudged}
use Rattle.yv_expand_changes.proofs.UsesRuns.{nothing_meant, on_ok}
use Rattle.yv_expand_changes.proofs.RefineJudgements.{absent_judged, if_ok, judged_more, none_judged}
use Rattle.yv_expand_changes.proofs.refusals.wrong.Goals as goal
use Rattle.yv_expand_changes.proofs.refusals.wrong.Goals.{then-place-refine_targets-via-then-place-refine_targets, then-place-refine_targets-via-else-place-refine_targets+then-not-contains}

pub returns-then-place-refine_targets-clause-least : goal.returns-then-place-refine_targets-clause-least
returns-then-place-refine_targets-clause-least c = λ tree are.
    let files = lent_in c.args.rows.now in
    elim c.then-place-refine_targets.branch [
      | then-place-refine_targets-via-then-place-refine_targets w ↦ none_judged files c.args.spots.now tree _ (nothing_meant c.args.refine_targets.now c.args.uses.now w.if-place-refine_targets.true)
      | then-place-refine_targets-via-else-place-refine_targets+then-not-contains w ↦ absent_judged files c.args.spots.now tree c.args.refine_targets.now c.args.uses.now c.args.items.now are (sym w.contains.ensures ∙ w.if-not-contains.true)
    ]

pub returns-clause-judges : goal.returns-clause-judges
returns-clause-judges c =
    let files = lent_in c.args.rows.now in
    let place : ℕ = c.args.uses.now.refine_targets in
    let within : place < length c.args.refine_targets.now = omega (arith, c.if-place-refine_targets.false) in
    let there : place < length c.args.judged.now.items = omega (arith, within, c.requires.each) in
    let refine_targets : c.deref.result.now ≡ targets_at c.args.refine_targets.now place =
    c.deref.ensures.value ∙ sym (ap targets_of (slice_get_read c.args.refine_targets.now _ place c.index-refine_targets-place.result refl within c.index-refine_targets-place.is))
    in
    let was : IsJudged files c.deref.result.now c.index_mut.result.now =
    subst (λ (l : List RefineTarget). IsJudged files l c.index_mut.result.now) (sym refine_targets) (c.requires.are place c.index_mut.result.now (slice_get_read c.args.judged.now.items _ place c.index_mut.result.now refl there c.index_mut.ensures.value))
    in
    on_ok c.judge.result (λ now. judged_more files c.args.refine_targets.now c.args.judged.now.items place c.judge.new.judged c.requires (subst (λ (l : List RefineTarget). IsJudged files l c.judge.new.judged) refine_targets now))
    (c.judge.ensures.judges was)

pub returns-clause-least : goal.returns-clause-least
returns-clause-least c = λ tree are.
    let files = lent_in c.args.rows.now in
    let place : ℕ = c.args.uses.now.refine_targets in
    let within : place < length c.args.refine_targets.now = omega (arith, c.if-place-refine_targets.false) in
    let there : place < length c.args.judged.now.items = omega (arith, within, c.requires.each) in
    let refine_targets : c.deref.result.now ≡ targets_at c.args.refine_targets.now place =
    c.deref.ensures.value ∙ sym (ap targets_of (slice_get_read c.args.refine_targets.now _ place c.index-refine_targets-place.result refl within c.index-refine_targets-place.is))
    in
    let was : IsJudged files c.deref.result.now c.index_mut.result.now =
    subst (λ (l : List RefineTarget). IsJudged files l c.index_mut.result.now) (sym refine_targets) (c.requires.are place c.index_mut.result.now (slice_get_read c.args.judged.now.items _ place c.index_mut.result.now refl there c.index_mut.ensures.value))
    in
    let known : contains nat_cmp c.args.items.now c.args.uses.now.item ≡ true = search rules in
    if_ok c.judge.result
    (λ least h. subst (λ (l : List RefineTarget). IsLeast (BadRefines files c.args.spots.now (map (meaning_of c.args.uses.now.item c.args.uses.now.targets.items) l) tree) least) refine_targets
    (h c.args.spots.now c.args.uses.now.targets.items tree c.args.uses.now.item refl (are.there c.args.uses.now.item known)))
    (c.judge.ensures.least was)
