-- The pairs of one entry more, and the first entry that is wrong.
use Rattle.std.proofs.Common.{◌≡◌, ℕ, ◌+◌, ◌<◌, ◌≤◌, Bool, true, false, not, ◌⊎◌, inl, inr, List, [], ◌∷◌, ◌++◌, take, length, Option, Some, None, refl, sym, ◌∙◌, ap, subst, arith}
use Rattle.std.specs.Prelude.{slice_get}
use Rattle.std.proofs.lemmas.Bool.{both_ways, cases_lt}
use Rattle.std.proofs.lemmas.List.{take_more}
use Rattle.std.proofs.lemmas.Option.{slice_get_within, get_or_from_slice_get}
use Rattle.yv_base_numbers.specs.InnerEarlierEntries.{Adds, first_with, IsLeastBelow}
use Rattle.yv_base_numbers.specs.Numberings.{Pair, with_entry, pairs_behind, IsWrongAt, IsFirstWrong}
use Rattle.yv_base_numbers.specs.Entries.{Entry}

one_more : (es : List Entry) (i : ℕ) (e : Entry) → slice_get es i ≡ Some e → take (i + 1) es ≡ take i es ++ e ∷ []
one_more es i e h = take_more es i e (slice_get_within es i e h) ∙ ap (λ (x : Entry). take i es ++ x ∷ []) (get_or_from_slice_get es i e e h)

-- the first of one place more
first_more : (P : ℕ → Type 0) (w : Bool) (i : ℕ) (found : Option ℕ) (good : Bool) → good ≡ not w → (w ≡ true → P i) → (w ≡ false → P i → ⊥) → IsLeastBelow P i found → IsLeastBelow P (i + 1) (first_with found i good)
first_more P w i (Some j) true e wrongly rightly least = least
first_more P w i (Some j) false e wrongly rightly least = least
first_more P true i None false e wrongly rightly least = (wrongly refl, least)
first_more P false i None false e wrongly rightly least = absurd (cc)
first_more P true i None true e wrongly rightly least = absurd (cc)
first_more P false i None true e wrongly rightly least = λ k low p. by_place k p (cases_lt k i) low
  where
    by_place : (k : ℕ) → P k → (k < i) ⊎ (i ≤ k) → k < i + 1 → ⊥
    by_place k p (inl b) low = least k b p
    by_place k p (inr b) low = let same : k ≡ i = omega (arith, low, b) in rightly refl (subst P same p)

-- by a test of entries, and the pair of one that passes
module _ (wrong : List Pair → Entry → Bool) (pair : List Pair → Entry → Pair) where
  abbrev right : List Entry → List Pair
  right es = pairs_behind wrong pair [] es

  pub behind_pushed : (before : List Pair) (xs : List Entry) (e : Entry) → pairs_behind wrong pair before (xs ++ e ∷ []) ≡ with_entry wrong pair (pairs_behind wrong pair before xs) e
  behind_pushed before [] e = refl
  behind_pushed before (x ∷ xs) e = behind_pushed (with_entry wrong pair before x) xs e

  pairs_more : (es : List Entry) (i : ℕ) (e : Entry) → slice_get es i ≡ Some e → right (take (i + 1) es) ≡ with_entry wrong pair (right (take i es)) e
  pairs_more es i e h = ap right (one_more es i e h) ∙ behind_pushed [] (take i es) e

  same_test : (es : List Entry) (i : ℕ) (e : Entry) → slice_get es i ≡ Some e → IsWrongAt right wrong es i → wrong (right (take i es)) e ≡ true
  same_test es i e here w =
      let both : Some w.0 ≡ Some e = sym w.1 ∙ here in
      let same : w.0 ≡ e = cc in
      subst (λ (f : Entry). wrong (right (take i es)) f ≡ true) same w.2

  -- one entry more
  pub entry_step : {S : Type 0} (holds : S → List Pair → Type 0) (old new : S) (es : List Entry) (i : ℕ) (e : Entry) (found : Option ℕ) (good : Bool) → slice_get es i ≡ Some e → Adds holds (λ ps. wrong ps e) (λ ps. pair ps e) old new good → holds old (right (take i es)) → IsLeastBelow (IsWrongAt right wrong es) i found → holds new (right (take (i + 1) es)) × IsLeastBelow (IsWrongAt right wrong es) (i + 1) (first_with found i good)
  entry_step holds old new es i e found good here adds keeps least =
      let more = adds (right (take i es)) keeps in (
        subst (holds new) (sym (pairs_more es i e here)) more.1,
        first_more (IsWrongAt right wrong es) (wrong (right (take i es)) e) i found good more.0
            (λ t. (e, here, t))
            (λ f w. both_ways (wrong (right (take i es)) e) f (same_test es i e here w))
            least,
      )

pub first_of_all : (pairs : List Entry → List Pair) (wrong : List Pair → Entry → Bool) (es : List Entry) (i : ℕ) (found : Option ℕ) → length es ≤ i → IsLeastBelow (IsWrongAt pairs wrong es) i found → IsFirstWrong pairs wrong es found
first_of_all pairs wrong es i None end least = λ k w. least k (omega (arith, end, slice_get_within es k w.0 w.1)) w
first_of_all pairs wrong es i (Some j) end least = least
