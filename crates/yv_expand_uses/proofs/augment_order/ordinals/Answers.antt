use Rattle.std.proofs.Common.{ℕ, List, Option, Some, length, ◌∙◌, ap, arith, length-append, [], ◌∷◌}
use Rattle.std.proofs.lemmas.Option.{slice_get-get_or}
use Rattle.yv_expand_uses.proofs.PlaceNumbers.{count_within, counts_more, next_told, told_all, told_more}
use Rattle.yv_expand_uses.proofs.augment_order.ordinals.Goals as goal

pub next-requires-clause-room : goal.next-requires-clause-room
next-requires-clause-room c = λ k is. (
    let places : List (Option ℕ) = c.args.places.now in
    let i : ℕ = c.loop-place.place-index in
    let at = slice_get-get_or places i _ c.loop-place-test.true in
    let within = c.requires i k (at ∙ ap Some is) in
    let l = count_within places i k c.loop-place.counts.items (omega (arith, c.loop-place-test.true)) within c.loop-place.invariant.counts in
    omega (arith, l, c.loop-place-test.true))

pub loop-place-preserved : goal.loop-place-preserved
loop-place-preserved c =
    let places : List (Option ℕ) = c.args.places.now in
    let i : ℕ = c.loop-place.place-index in
    let at = slice_get-get_or places i _ c.loop-place-test.true in
    let old = c.loop-place.invariant in
    record {
      counts = counts_more places i _ c.loop-place.counts.items c.next.new.counts.items at
          (λ k e. (let l = c.requires i k (at ∙ ap Some e) in omega (arith, l, old.counts.each))) c.next.ensures.counts old.counts;
      each = (let long = length-append c.loop-place.ordinals.items (c.next.result ∷ []) in omega (arith, ap length c.in_ok-push.ensures.items, long, old.each));
      told = told_more places i c.next.result c.loop-place.ordinals.items c.push.new.self.items old.each c.in_ok-push.ensures.items
          (next_told places i _ c.loop-place.counts.items c.next.result at (λ k e. c.requires i k (at ∙ ap Some e)) c.next.ensures.value old.counts) old.told;
    }

pub returns : goal.returns
returns c = told_all c.args.places.now c.loop-place.place-index c.loop-place.ordinals.items c.loop-place-test.false c.loop-place.invariant.each c.loop-place.invariant.told
