use Rattle.std.proofs.Common.{◌≡◌, ◌==◌, ◌∙◌, List, ℕ, Some, ap, refl, sym, subst, eqb-true, eq-eqb}
use Rattle.std.specs.Bool.{Decides}
use Rattle.std.specs.List.{slice_get}
use Rattle.std.proofs.lemmas.Option.{slice_get_read}
use Rattle.std.proofs.lemmas.Slice.Eq.{slice_eq-Decides}
use Rattle.yv_expand_uses.specs.InnerRefineTargets.{IsPlaced}
use Rattle.yv_expand_uses.specs.declared.refine_targets.KeptTargets.{KeptTargets}
use Rattle.yv_expand_uses.proofs.refine_targets.RefineTargets.last_place.Goals as goal

number_decides : (a b : ℕ) → Decides (a == b) (a ≡ b)
number_decides a b = (eqb-true a b, eq-eqb a b)

pub returns-then-eq : goal.returns-then-eq
returns-then-eq c = λ w are. (
    let k : KeptTargets = c.in-Some-Some.kept in
    let at : slice_get c.args.self.now.kept.items c.args.number ≡ Some (Some k) =
    ap (λ l. slice_get l c.args.number) (sym c.deref.ensures.value)
    ∙ slice_get_read c.deref.result.now _ c.args.number c.in-Some-Some.field-0.now refl c.in-Some-Some.ensures.lookup.3.0 c.in-Some-Some.ensures.lookup.1
    ∙ ap (λ o. Some o) c.in-Some-Some.field-0-is in
    let same : c.as_slice.result.now ≡ c.args.paths.now = (slice_eq-Decides number_decides c.as_slice.result.now c.args.paths.now c.eq.result c.eq.ensures).0 c.if-eq.true in
    subst (λ (ps : List ℕ). IsPlaced c.args.self.now c.args.number ps k.place) (sym c.as_slice.ensures.value ∙ same) (are.kept c.args.number k at))
