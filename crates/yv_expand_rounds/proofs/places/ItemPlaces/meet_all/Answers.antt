use Rattle.std.proofs.Common.{length, length-append, ◌≡◌, ◌+◌, ◌∷◌, [], ℕ, Some, List, get_or, ap, arith, inl, inr, sym, subst, ◌∙◌}
use Rattle.std.specs.List.{slice_get}
use Rattle.std.proofs.lemmas.Option.{none-some, same_Some, slice_get-get_or}
use Rattle.yv_expand_rounds.specs.declared.arrivals.Arrival.{Arrival}
use Rattle.yv_expand_rounds.specs.InnerArrivals.{Follows, Gains, Meets}
use Rattle.yv_expand_rounds.proofs.PathArrivals.{gains_more, gains_weaker, meets_split}
use Rattle.yv_expand_rounds.proofs.places.ItemPlaces.meet_all.Goals as goal
use Rattle.yv_expand_rounds.proofs.places.ItemPlaces.meet_all.Goals.{in-Some+in_ok-push, in_default}

pub loop-item-preserved : goal.loop-item-preserved
loop-item-preserved c = record {
  longer = elim c.match-meet.branch [
    | in-Some+in_ok-push w ↦
        let was = c.loop-item.invariant.longer in
        let more : length w.push.new.self.items ≡ length c.loop-item.found.items + 1 = ap length w.in_ok-push.ensures.items ∙ length-append c.loop-item.found.items (w.in-Some.next ∷ []) in
        let is = ap (λ v. length v.items) w.found-is in
        omega (arith, was, more, is)
    | in_default w ↦ let was = c.loop-item.invariant.longer in let is = ap (λ v. length v.items) w.found-is in omega (arith, was, is)
  ];
  gains = λ labels groups all are tree.
      let items : List ℕ = c.args.items.now in
      let from_ : Arrival = c.args.from in
      let k : ℕ = c.loop-item.item-index in
      let item : ℕ = get_or items k 0 in
      let at : slice_get items k ≡ Some item = slice_get-get_or items k 0 c.loop-item-test.true in
      let Sound : Arrival → Type 0 = Follows labels groups c.args.limit all from_ in
      let Must : Arrival → Type 0 = Meets labels groups c.args.limit all from_ items k in
      let More : Arrival → Type 0 = Meets labels groups c.args.limit all from_ items (k + 1) in
      let old : List Arrival = c.args.found.now.items in
      let mid : List Arrival = c.loop-item.found.items in
      let had : Gains Sound Must old mid = c.loop-item.invariant.gains labels groups all are tree in
      elim c.match-meet.branch [
        | in-Some+in_ok-push w ↦
            gains_more Sound Must More old mid c.match-meet.found.items w.in-Some.next had (ap (λ v. v.items) w.found-is ∙ w.in_ok-push.ensures.items)
            (w.in-Some.ensures.some labels groups all are tree)
            (λ a m. elim (meets_split labels groups c.args.limit all from_ a items k item at m) [
              | inl before ↦ inl before
              | inr here ↦ inr (same_Some a w.in-Some.next (sym (c.meet.ensures.all labels groups all a are tree here.0 here.1) ∙ w.in-Some.is))
            ])
        | in_default w ↦
            subst (λ (found : List Arrival). Gains Sound More old found) (ap (λ v. v.items) (sym w.found-is))
            (gains_weaker Sound Must More old mid had (λ a m. elim (meets_split labels groups c.args.limit all from_ a items k item at m) [
              | inl before ↦ before
              | inr here ↦ absurd (none-some a (sym w.in_default.is ∙ c.meet.ensures.all labels groups all a are tree here.0 here.1))
            ]))
      ];
}

pub returns-clause-finds : goal.returns-clause-finds
returns-clause-finds c = λ labels groups all are tree.
    gains_weaker _ _ _ _ _ (c.loop-item.invariant.gains labels groups all are tree)
    (λ a m. record { follows = m.follows; place = m.place; before = (let l = m.before in let t = c.loop-item-test.false in omega (arith, l, t)); item = m.item; at = m.at; is = m.is })
