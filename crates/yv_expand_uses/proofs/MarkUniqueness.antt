-- Marks of items are told in one way.
use Rattle.std.proofs.Common.{inl, inr, ◌≡◌, ℕ, zero, suc, ◌+◌, ◌<◌, ◌&&◌, Bool, false, List, length, refl, sym, ◌∙◌, ap, arith, Option, Some, None, below_more}
use Rattle.std.specs.List.{slice_get}
use Rattle.std.proofs.lemmas.List.{ext_get_or}
use Rattle.std.proofs.lemmas.Option.{slice_get_cases}
use Rattle.yv_link_scopes.specs.Rows.{Row}
use Rattle.yv_expand.specs.ItemLimit.{ParentsComeFirst}
use Rattle.yv_expand_statements.specs.Origin.{number_of}
use Rattle.yv_expand.specs.Tree.{Item}
use Rattle.yv_base_graph.specs.Marks.{is_marked}
use Rattle.yv_expand_uses.specs.On.{AreOn, above_on, augment_on, uses_on}
use Rattle.yv_expand_uses.specs.declared.spot.Spot.{Spot}

module _ (rows : List Row) (spots : List Spot) (items : List Item) (statements own : ℕ → Bool) (a b : List Bool) (parents : ParentsComeFirst items)
    (p : AreOn rows spots items statements own a) (q : AreOn rows spots items statements own b) where
  same_above : (i : ℕ) (parent : Option ℕ) → ((n : ℕ) → parent ≡ Some n → n < i) → ((k : ℕ) → k < i → is_marked a k ≡ is_marked b k)
      → above_on spots a parent ≡ above_on spots b parent
  same_above i None fits before = refl
  same_above i (Some n) fits before = ap (uses_on (slice_get spots n)) (before n (fits n refl))

  same_at : (i : ℕ) (x : Item) → slice_get items i ≡ Some x → ((k : ℕ) → k < i → is_marked a k ≡ is_marked b k) → is_marked a i ≡ is_marked b i
  same_at i x at before =
      p.at i x at
      ∙ ap (λ (t : Bool). own i && (t && augment_on rows statements (slice_get rows (number_of x.origin))))
      (same_above i x.parent (λ n is. parents i n x at is) before)
      ∙ sym (q.at i x at)

  same_before : (n : ℕ) → n < length items + 1 → (k : ℕ) → k < n → is_marked a k ≡ is_marked b k
  same_before zero within k lt = absurd (omega (arith, lt))
  same_before (suc n) within k lt =
      let before : (j : ℕ) → j < n → is_marked a j ≡ is_marked b j = same_before n (omega (arith, within)) in
      below_more (λ j. is_marked a j ≡ is_marked b j) n before (here n (omega (arith, within)) before) k (omega (arith, lt))
    where
      here : (j : ℕ) → j < length items → ((k : ℕ) → k < j → is_marked a k ≡ is_marked b k) → is_marked a j ≡ is_marked b j
      here j lt before = elim (slice_get_cases items j).1 [
        | inl (x, l, at, e) ↦ same_at j x at before
        | inr (past, at) ↦ absurd (omega (arith, lt, past))
      ]

  pub marks_one : a ≡ b
  marks_one =
      ext_get_or false a b (p.each ∙ sym q.each)
      (λ k lt. same_before (length items) (omega arith) k (let e = p.each in omega (arith, lt, e)))
