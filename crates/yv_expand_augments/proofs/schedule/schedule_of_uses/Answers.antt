use Rattle.std.proofs.Common.{◌≡◌, ℕ, List, Some, length, get_or, ap, sym, subst, ◌∙◌, arith}
use Rattle.std.specs.List.{Contains, slice_get}
use Rattle.std.proofs.lemmas.List.{length-map}
use Rattle.std.proofs.lemmas.List.Elements.{Contains-get_or}
use Rattle.std.proofs.lemmas.Option.{slice_get-get_or, slice_get_within}
use Rattle.yv_link_scopes.specs.Views.{rows_in}
use Rattle.yv_link_scopes.specs.Rows.{Row}
use Rattle.yv_expand_uses.specs.InnerPlan.{whole_in}
use Rattle.yv_expand_uses.specs.AugmentOrder.{augment_places, augments_in}
use Rattle.yv_expand_augments.proofs.schedule.schedule_of_uses.Goals as goal

pub gather-requires-clause-within : goal.gather-requires-clause-within
gather-requires-clause-within c =
    let rows : List Row = rows_in c.args.plan.now.rows.now in
    let items : List ℕ = c.augments_in-augment-items.result.now in
    let a : ℕ = get_or items c.loop-augment.augment-index 0 in
    let among : Contains (augments_in rows c.args.statement) a =
    subst (λ (l : List ℕ). Contains l a) c.augments_in-augment-items.ensures (Contains-get_or items c.loop-augment.augment-index 0 c.loop-augment-test.true) in
    let less = slice_get_within (augment_places rows) a (Some c.args.statement) ((c.a_number_is_listed_at_its_place.ensures (augment_places rows) c.args.statement a).0 among) in
    let size : length (augment_places rows) ≡ length rows = length-map rows _ in
    omega (arith, less, size)

pub loop-augment-preserved : goal.loop-augment-preserved
loop-augment-preserved c =
    let items : List ℕ = c.augments_in-augment-items.result.now in
    let k : ℕ = c.loop-augment.augment-index in
    c.in_ok-gather.ensures k c.loop-augment.invariant
    (ap (λ (l : List ℕ). slice_get l k) (sym c.augments_in-augment-items.ensures) ∙ slice_get-get_or items k 0 c.loop-augment-test.true)

pub returns-clause-schedule : goal.returns-clause-schedule
returns-clause-schedule c =
    let w = whole_in c.args.plan.now in
    let k : ℕ = c.loop-augment.augment-index in
    let last : k ≡ length (augments_in w.rows c.args.statement) =
    (let size = ap length c.augments_in-augment-items.ensures in omega (arith, size, c.loop-augment-test.false, c.loop-augment.auto.augment-index-end)) in
    c.in_ok-close.ensures.ends w c.args.statement c.args.module_file k (length (augments_in w.rows c.args.statement)) c.loop-augment.invariant last
