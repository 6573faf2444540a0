use Rattle.std.proofs.Common.{◌≡◌, ◌+◌, ◌≤◌, ◌<◌, ℕ, Some, List, length, arith, refl}
use Rattle.std.specs.List.{slice_get}
use Rattle.std.proofs.lemmas.Option.{slice_get_read}
use Rattle.yv_expand_rounds.specs.declared.arrivals.Arrival.{Arrival}
use Rattle.yv_expand_rounds.specs.InnerArrivals.{Follows, FollowsSome, Gains}
use Rattle.yv_expand_rounds.proofs.PathArrivals.{follows_split, gains_sounder, gains_then, gains_weaker, stood}
use Rattle.yv_expand_rounds.proofs.places.ItemPlaces.deepen.Goals as goal

pub index-from-requires : goal.index-from-requires
index-from-requires c = let l = c.loop-place.invariant.longer in let t = c.loop-place-test.true in let n = c.len-count.ensures in omega (arith, l, t, n)

pub loop-place-preserved : goal.loop-place-preserved
loop-place-preserved c = record {
  longer = let was = c.loop-place.invariant.longer in let more = c.in_ok-go_on.ensures.longer in omega (arith, was, more);
  gains = λ labels groups all are tree.
      let k : ℕ = c.loop-place.place in
      let first : ℕ = c.args.first in
      let old : List Arrival = c.args.found.now.items in
      let mid : List Arrival = c.loop-place.found.items in
      let new : List Arrival = c.go_on.new.found.items in
      let from_ : Arrival = c.index-from.result.now in
      let Sound : Arrival → Type 0 = FollowsSome labels groups c.args.limit all old first (length old) in
      let Must : Arrival → Type 0 = FollowsSome labels groups c.args.limit all old first k in
      let More : Arrival → Type 0 = FollowsSome labels groups c.args.limit all old first (k + 1) in
      let Next : Arrival → Type 0 = Follows labels groups c.args.limit all from_ in
      let had : Gains Sound Must old mid = c.loop-place.invariant.gains labels groups all are tree in
      let less : k < length old = (let t = c.loop-place-test.true in let n = c.len-count.ensures in omega (arith, t, n)) in
      let here : slice_get mid k ≡ Some from_ =
      slice_get_read mid _ k from_ refl (let l = c.loop-place.invariant.longer in omega (arith, l, less)) c.index-from.ensures in
      let at : slice_get old k ≡ Some from_ = stood Sound Must old mid k from_ had less here in
      let past : first ≤ k = c.loop-place.auto.place in
      let gained : Gains Sound Next mid new =
      gains_sounder Next Sound Next mid new (c.in_ok-go_on.ensures.finds labels groups all are tree)
      (λ a f. record { place = k; «from» = from_; past = past; before = less; at = at; follows = f }) in
      gains_then Sound Must Next More old mid new had gained (λ a m. follows_split labels groups c.args.limit all a from_ old first k at m);
}

pub returns-clause-finds : goal.returns-clause-finds
returns-clause-finds c = λ labels groups all are tree.
    gains_weaker _ _ _ _ _ (c.loop-place.invariant.gains labels groups all are tree)
    (λ a m. record { place = m.place; «from» = m.from; past = m.past; before = (let l = m.before in let t = c.loop-place-test.false in let n = c.len-count.ensures in omega (arith, l, t, n)); at = m.at; follows = m.follows })
