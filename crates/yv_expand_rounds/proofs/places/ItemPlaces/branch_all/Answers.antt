use Rattle.std.proofs.Common.{length, length-append, ◌≡◌, ◌+◌, ◌∷◌, [], ℕ, Some, List, get_or, ap, arith, inl, inr, sym, subst, ◌∙◌}
use Rattle.std.specs.List.{slice_get}
use Rattle.std.proofs.lemmas.Option.{none-some, same_Some, slice_get-get_or, slice_get_within}
use Rattle.yv_expand_rounds.specs.declared.arrivals.Arrival.{Arrival}
use Rattle.yv_expand_rounds.specs.InnerArrivals.{Follows, Gains, Branches}
use Rattle.yv_expand_rounds.proofs.PathArrivals.{gains_more, gains_weaker, branches_split}
use Rattle.yv_expand_rounds.proofs.places.ItemPlaces.branch_all.Goals as goal
use Rattle.yv_expand_rounds.proofs.places.ItemPlaces.branch_all.Goals.{in_Some-next+in_ok-push, in_default-next}

pub loop-path-preserved : goal.loop-path-preserved
loop-path-preserved c = record {
  longer = elim c.match-branch.branch [
    | in_Some-next+in_ok-push w ↦
        let was = c.loop-path.invariant.longer in
        let more : length w.push.new.self.items ≡ length c.loop-path.found.items + 1 = ap length w.in_ok-push.ensures.items ∙ length-append c.loop-path.found.items (w.in_Some-next.next ∷ []) in
        let is = ap (λ v. length v.items) w.found-is in
        omega (arith, was, more, is)
    | in_default-next w ↦ let was = c.loop-path.invariant.longer in let is = ap (λ v. length v.items) w.found-is in omega (arith, was, is)
  ];
  gains = λ labels groups all are tree.
      let items : List ℕ = c.branches-branches.result.now in
      let from_ : Arrival = c.args.from in
      let k : ℕ = c.loop-path.path-index in
      let item : ℕ = get_or items k 0 in
      let at : slice_get items k ≡ Some item = slice_get-get_or items k 0 c.loop-path-test.true in
      let Sound : Arrival → Type 0 = Follows labels groups c.args.limit all from_ in
      let Must : Arrival → Type 0 = Branches labels groups c.args.limit all from_ items k in
      let More : Arrival → Type 0 = Branches labels groups c.args.limit all from_ items (k + 1) in
      let old : List Arrival = c.args.found.now.items in
      let mid : List Arrival = c.loop-path.found.items in
      let had : Gains Sound Must old mid = c.loop-path.invariant.gains labels groups all are tree in
      elim c.match-branch.branch [
        | in_Some-next+in_ok-push w ↦
            gains_more Sound Must More old mid c.match-branch.found.items w.in_Some-next.next had (ap (λ v. v.items) w.found-is ∙ w.in_ok-push.ensures.items)
            (let g = c.branches-branches.ensures.some all item tree (record { place = k; at = at }) in w.in_Some-next.ensures.some labels groups all g.0 are tree g.1)
            (λ a m. elim (branches_split labels groups c.args.limit all from_ a items k item at m) [
              | inl before ↦ inl before
              | inr here ↦ inr (same_Some a w.in_Some-next.next (sym (c.branch-next.ensures.all labels groups all a are tree here.0 here.1) ∙ w.in_Some-next.is))
            ])
        | in_default-next w ↦
            subst (λ (found : List Arrival). Gains Sound More old found) (ap (λ v. v.items) (sym w.found-is))
            (gains_weaker Sound Must More old mid had (λ a m. elim (branches_split labels groups c.args.limit all from_ a items k item at m) [
              | inl before ↦ before
              | inr here ↦ absurd (none-some a (sym w.in_default-next.is ∙ c.branch-next.ensures.all labels groups all a are tree here.0 here.1))
            ]))
      ];
}

pub returns-clause-finds : goal.returns-clause-finds
returns-clause-finds c = λ labels groups all are tree.
    gains_weaker _ _ _ _ _ (c.loop-path.invariant.gains labels groups all are tree)
    (λ a f.
    let s = c.branches-branches.ensures.all all f.step a.path tree f.path in
    record { follows = f; place = s.place; before = (let l = slice_get_within c.branches-branches.result.now s.place a.path s.at in let t = c.loop-path-test.false in omega (arith, l, t)); at = s.at })
