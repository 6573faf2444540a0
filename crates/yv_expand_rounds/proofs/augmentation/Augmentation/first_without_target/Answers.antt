use Rattle.std.proofs.Common.{◌≡◌, ◌∙◌, ℕ, Option, sym, ap, drop, [], get_or, Some, None}
use Rattle.std.specs.List.{slice_get}
use Rattle.std.proofs.lemmas.List.{drop_all}
use Rattle.std.proofs.lemmas.Option.{slice_get-get_or}
use Rattle.yv_expand_rounds.specs.Paths.{lesser}
use Rattle.yv_expand_rounds.specs.InnerMissingTargets.{least_from}
use Rattle.yv_expand_rounds.proofs.Least.{lesser_none}
use Rattle.yv_expand_rounds.proofs.UnplacedLemmas.{least_more, first_is}
use Rattle.yv_expand_rounds.proofs.augmentation.Augmentation.first_without_target.Goals as goal

pub loop-number-preserved : goal.loop-number-preserved
loop-number-preserved c = λ labels st is.
    let place : Option ℕ = get_or c.args.places.now c.loop-number.number None in
    let at : slice_get c.args.places.now c.loop-number.number ≡ Some place =
    slice_get-get_or c.args.places.now c.loop-number.number None c.loop-number-test.true in
    least_more labels st.ends c.args.places.now c.loop-number.number place c.loop-number.least c.lesser-least.result (least_from labels st.ends 0 c.args.places.now) at
    (c.lesser-least.ensures ∙ ap (lesser c.loop-number.least) (c.place_without.ensures labels st is)) (c.loop-number.invariant labels st is)

pub returns : goal.returns
returns c = λ labels st is.
    let past : drop c.loop-number.number c.args.places.now ≡ [] = drop_all c.loop-number.number c.args.places.now c.loop-number-test.false in
    first_is labels st.ends c.args.places.now c.loop-number.least
    (sym (lesser_none c.loop-number.least) ∙ ap (λ l. lesser c.loop-number.least (least_from labels st.ends c.loop-number.number l)) (sym past)
    ∙ c.loop-number.invariant labels st is)
