-- No word stands twice: of lists one behind the other, in another order, and in ascending order.
use Rattle.std.proofs.Common.{◌≡◌, ℕ, ◌+◌, ◌<◌, ◌≤◌, Bool, true, false, not, ◌&&◌, ◌||◌, cond, List, [], ◌∷◌, ◌++◌, map, refl, sym, ◌∙◌, ap, zero-add, arith}
use Rattle.std.specs.List.{list_any, sum_by}
use Rattle.std.specs.List.Sorted.{IsPermutation}
use Rattle.std.specs.Str.{bytes_eq}
use Rattle.std.proofs.lemmas.Bool.{and_parts, false_from_ne_true, false≢true, not-true, or_parts}
use Rattle.std.proofs.lemmas.Cmp.{nat_list_eq_equiv}
use Rattle.std.proofs.lemmas.List.Folds.{list_any-append}
use Rattle.std.proofs.lemmas.List.Sums.{sum_by-cons}
use Rattle.std.proofs.lemmas.List.Sorted.{sum_by-IsPermutation, IsPermutation-append_left, IsPermutation-map, IsPermutation-sym}
use denote.Ref.{Bor}
use Rattle.yv_text_grammar.specs.InnerDistinct.{share, text_of}
use Rattle.yv_text_grammar.specs.Texts.{none_twice}

either_any : (p q : List ℕ → Bool) (xs : List (List ℕ)) → list_any (λ x. p x || q x) xs ≡ (list_any p xs || list_any q xs)
either_any p q [] = refl
either_any p q (x ∷ xs) = rw (either_any p q xs) (four (p x) (q x) (list_any p xs) (list_any q xs))
  where
    four : (a b c d : Bool) → ((a || b) || (c || d)) ≡ ((a || c) || (b || d))
    four true b c d = refl
    four false true true d = refl
    four false true false d = refl
    four false false c d = refl

turned : (w : List ℕ) (xs : List (List ℕ)) → list_any (λ x. bytes_eq x w) xs ≡ list_any (bytes_eq w) xs
turned w [] = refl
turned w (x ∷ xs) = rw (nat_list_eq_equiv.symm x w, turned w xs) refl

-- one list behind the other
none_twice-append : (xs ys : List (List ℕ)) → none_twice (xs ++ ys) ≡ (none_twice xs && (not (share xs ys) && none_twice ys))
none_twice-append [] ys = rw (nothing ys) refl
  where
    nothing : (ys : List (List ℕ)) → share [] ys ≡ false
    nothing [] = refl
    nothing (y ∷ ys) = nothing ys
none_twice-append (x ∷ xs) ys =
    rw (list_any-append (bytes_eq x) xs ys, none_twice-append xs ys, either_any (λ w. bytes_eq w x) (λ w. list_any (bytes_eq w) xs) ys, turned x ys)
    (five (list_any (bytes_eq x) xs) (list_any (bytes_eq x) ys) (none_twice xs) (share xs ys) (none_twice ys))
  where
    five : (a b n s m : Bool) → (not (a || b) && (n && (not s && m))) ≡ ((not a && n) && (not (b || s) && m))
    five true b n s m = refl
    five false true true s m = refl
    five false true false s m = refl
    five false false n s m = refl

-- how often a word stands
occurrences : List ℕ → List (List ℕ) → ℕ
occurrences w ws = sum_by (λ v. cond (bytes_eq w v) 1 0) ws

module _ (w : List ℕ) where
  met : (v : List ℕ) (ws : List (List ℕ)) → bytes_eq w v ≡ true → occurrences w (v ∷ ws) ≡ 1 + occurrences w ws
  unfolding occurrences
  met v ws h = sum_by-cons (λ x. cond (bytes_eq w x) 1 0) v ws ∙ ap (λ b. cond b 1 0 + occurrences w ws) h

  unmet : (v : List ℕ) (ws : List (List ℕ)) → bytes_eq w v ≡ false → occurrences w (v ∷ ws) ≡ occurrences w ws
  unfolding occurrences
  unmet v ws h = sum_by-cons (λ x. cond (bytes_eq w x) 1 0) v ws ∙ ap (λ b. cond b 1 0 + occurrences w ws) h ∙ zero-add (occurrences w ws)

  absent : (ws : List (List ℕ)) → list_any (bytes_eq w) ws ≡ false → occurrences w ws ≡ 0
  unfolding occurrences
  absent [] h = refl
  absent (v ∷ ws) h = unmet v ws (or_parts _ _ h).0 ∙ absent ws (or_parts _ _ h).1

  present : (ws : List (List ℕ)) → list_any (bytes_eq w) ws ≡ true → 0 < occurrences w ws
  present [] h = absurd (false≢true h)
  present (v ∷ ws) h =
      let cases : (t : Bool) → bytes_eq w v ≡ t → (t || list_any (bytes_eq w) ws) ≡ true → 0 < occurrences w (v ∷ ws) =
      λ t. elim t as (λ t. bytes_eq w v ≡ t → (t || list_any (bytes_eq w) ws) ≡ true → 0 < occurrences w (v ∷ ws)) [
        | true ↦ λ e g. omega (arith, met v ws e)
        | false ↦ λ e g. omega (arith, unmet v ws e, present ws g)
      ] in
      cases (bytes_eq w v) refl h

at_most_one : (w : List ℕ) (ws : List (List ℕ)) → none_twice ws ≡ true → occurrences w ws ≤ 1
unfolding occurrences
at_most_one w [] h = omega arith
at_most_one w (v ∷ ws) h =
    let cases : (t : Bool) → bytes_eq w v ≡ t → occurrences w (v ∷ ws) ≤ 1 =
    λ t. elim t as (λ t. bytes_eq w v ≡ t → occurrences w (v ∷ ws) ≤ 1) [
      | true ↦ λ e.
          let other : list_any (bytes_eq w) ws ≡ false = alike w v ws e ∙ not-true _ (and_parts _ _ h).0 in
          omega (arith, met w v ws e, absent w ws other)
      | false ↦ λ e. omega (arith, unmet w v ws e, at_most_one w ws (and_parts _ _ h).1)
    ] in
    cases (bytes_eq w v) refl
  where
    alike : (w v : List ℕ) (ws : List (List ℕ)) → bytes_eq w v ≡ true → list_any (bytes_eq w) ws ≡ list_any (bytes_eq v) ws
    alike w v [] e = refl
    alike w v (x ∷ ws) e = rw (nat_list_eq_equiv.congr w v x e, alike w v ws e) refl

each_once : (ws : List (List ℕ)) → ((w : List ℕ) → occurrences w ws ≤ 1) → none_twice ws ≡ true
each_once [] h = refl
each_once (v ∷ ws) h =
    let here : occurrences v (v ∷ ws) ≡ 1 + occurrences v ws = met v v ws (nat_list_eq_equiv.refl v) in
    let none : list_any (bytes_eq v) ws ≡ false = false_from_ne_true _ (λ e. absurd (omega (arith, h v, here, present v ws e))) in
    rw (none, each_once ws (λ w. fewer w v ws (h w))) refl
  where
    fewer : (w v : List ℕ) (ws : List (List ℕ)) → occurrences w (v ∷ ws) ≤ 1 → occurrences w ws ≤ 1
    fewer w v ws h =
        let cases : (t : Bool) → bytes_eq w v ≡ t → occurrences w ws ≤ 1 =
        λ t. elim t as (λ t. bytes_eq w v ≡ t → occurrences w ws ≤ 1) [
          | true ↦ λ e. omega (arith, met w v ws e, h)
          | false ↦ λ e. omega (arith, unmet w v ws e, h)
        ] in
        cases (bytes_eq w v) refl

kept : (xs ys : List (List ℕ)) → IsPermutation xs ys → none_twice xs ≡ true → none_twice ys ≡ true
unfolding occurrences
kept xs ys h once =
    each_once ys (λ w.
    let same : occurrences w ys ≡ occurrences w xs = sum_by-IsPermutation (λ v. cond (bytes_eq w v) 1 0) xs ys h in
    omega (arith, same, at_most_one w xs once))

-- the same words in another order
none_twice-permutation : (xs ys : List (List ℕ)) → IsPermutation xs ys → none_twice xs ≡ none_twice ys
none_twice-permutation xs ys h = both_ways (none_twice xs) (none_twice ys) (kept xs ys h) (kept ys xs (IsPermutation-sym xs ys h))
  where
    both_ways : (s t : Bool) → (s ≡ true → t ≡ true) → (t ≡ true → s ≡ true) → s ≡ t
    both_ways true t f g = sym (f refl)
    both_ways false true f g = g refl
    both_ways false false f g = refl

-- words of which the first ones were taken and put in order
pub none_twice_taken : (ws : List (List ℕ)) (xs ys : List (Bor (List ℕ))) (rest : List (List ℕ)) → ws ≡ map text_of xs ++ rest → IsPermutation xs ys → none_twice ws ≡ (none_twice (map text_of ys) && (not (share (map text_of ys) rest) && none_twice rest))
none_twice_taken ws xs ys rest e h =
    ap none_twice e
    ∙ none_twice-permutation (map text_of xs ++ rest) (map text_of ys ++ rest) (IsPermutation-append_left rest (map text_of xs) (map text_of ys) (IsPermutation-map text_of xs ys h))
    ∙ none_twice-append (map text_of ys) rest
