-- Which faults are picked by their marks.
use Rattle.std.proofs.Common.{◌≡◌, ℕ, suc, ◌≤◌, ◌<◌, Bool, true, false, List, [], ◌∷◌, ◌++◌, length, take, drop, refl, sym, ap, ◌∙◌, append_assoc, arith, Option, Some, None, slice_get, get_or, nat_le, nat_lt, subst, ◌&&◌, ◌+◌, if◌then◌else◌}
use Rattle.std.proofs.Math.Seq.{drop-cons}
use Rattle.std.proofs.lemmas.Bool.{leb-true, leb-false, ltb-false, ltb-true}
use Rattle.std.proofs.lemmas.List.{append-nil, drop_all, length-append, length-take, take-append-le, take_all}
use Rattle.std.proofs.lemmas.Option.{get_or_from_slice_get, slice_get-get_or, slice_get_within}
use Rattle.yv_data_faults.specs.Flaw.{Flaw}
use Rattle.yv_note_faults.specs.Sentences.{chosen_faults, marked_faults}
use Rattle.yv_note_faults.specs.InnerAdds.{AddsIf, PicksMarked}

-- some of the others were added, and the rest is left
pub record LeavesMarked (most : ℕ) (old others new rest : List Flaw) : Type 0 where
  pub same : take most (old ++ others) ≡ take most (new ++ rest)
  pub bound : length old ≤ most → length new ≤ most

unmarked : (mark : Bool) (fs : List Flaw) → marked_faults mark fs [] ≡ []
unmarked mark [] = refl
unmarked mark (f ∷ fs) = refl

none_left : (mark : Bool) (marks : List Bool) → marked_faults mark [] marks ≡ []
none_left mark [] = refl
none_left mark (b ∷ bs) = refl

first_has : (mark : Bool) (f : Flaw) (fs : List Flaw) (marks : List Bool) → marked_faults mark (f ∷ fs) (mark ∷ marks) ≡ f ∷ marked_faults mark fs marks
first_has true f fs marks = refl
first_has false f fs marks = refl

first_lacks : (mark other : Bool) (f : Flaw) (fs : List Flaw) (marks : List Bool) → (other ≡ mark → ⊥) → marked_faults mark (f ∷ fs) (other ∷ marks) ≡ marked_faults mark fs marks
first_lacks true true f fs marks lacks = absurd (lacks refl)
first_lacks true false f fs marks lacks = refl
first_lacks false true f fs marks lacks = refl
first_lacks false false f fs marks lacks = absurd (lacks refl)

-- a list from a place on
from_place : {A : Type 0} → (xs : List A) (i : ℕ) (x : A) → slice_get xs i ≡ Some x → drop i xs ≡ x ∷ drop (suc i) xs
from_place xs i x at = drop-cons xs i x (slice_get_within xs i x at) ∙ ap (λ y. y ∷ drop (suc i) xs) (get_or_from_slice_get xs i x x at)

-- no place that is within a list has nothing
none_past : {A : Type 0} → (xs : List A) (i : ℕ) → slice_get xs i ≡ None → length xs ≤ i
none_past [] i e = omega arith
none_past (x ∷ xs) i e = cases (nat_lt i (length (x ∷ xs))) refl
  where
    cases : (is : Bool) → nat_lt i (length (x ∷ xs)) ≡ is → length (x ∷ xs) ≤ i
    cases true is = let there : Some (get_or (x ∷ xs) i x) ≡ None = sym (slice_get-get_or (x ∷ xs) i x (ltb-true i (length (x ∷ xs)) is)) ∙ e in absurd (let never : ⊥ = cc in never)
    cases false is = ltb-false i (length (x ∷ xs)) is

module _ (mark : Bool) (fs : List Flaw) (marks : List Bool) (i : ℕ) (f : Flaw) (at : slice_get fs i ≡ Some f) where
  -- a fault with the mark is the first of those that are left
  pub has_step : slice_get marks i ≡ Some mark → marked_faults mark (drop i fs) (drop i marks) ≡ f ∷ marked_faults mark (drop (suc i) fs) (drop (suc i) marks)
  has_step has =
      ap (λ (xs : List Flaw). marked_faults mark xs (drop i marks)) (from_place fs i f at)
      ∙ ap (λ (ys : List Bool). marked_faults mark (f ∷ drop (suc i) fs) ys) (from_place marks i mark has)
      ∙ first_has mark f (drop (suc i) fs) (drop (suc i) marks)

  lacks_by : (o : Option Bool) → slice_get marks i ≡ o → (slice_get marks i ≡ Some mark → ⊥) → marked_faults mark (drop i fs) (drop i marks) ≡ marked_faults mark (drop (suc i) fs) (drop (suc i) marks)
  lacks_by (Some b) there lacks =
      ap (λ (xs : List Flaw). marked_faults mark xs (drop i marks)) (from_place fs i f at)
      ∙ ap (λ (ys : List Bool). marked_faults mark (f ∷ drop (suc i) fs) ys) (from_place marks i b there)
      ∙ first_lacks mark b f (drop (suc i) fs) (drop (suc i) marks) (λ same. lacks (there ∙ ap (λ (c : Bool). Some c) same))
  lacks_by None past lacks =
      let le : length marks ≤ i = none_past marks i past in
      ap (λ (ys : List Bool). marked_faults mark (drop i fs) ys) (drop_all i marks le)
      ∙ unmarked mark (drop i fs)
      ∙ sym (unmarked mark (drop (suc i) fs))
      ∙ sym (ap (λ (ys : List Bool). marked_faults mark (drop (suc i) fs) ys) (drop_all (suc i) marks (omega (arith, le))))

  -- a fault without it is none of them
  pub lacks_step : (slice_get marks i ≡ Some mark → ⊥) → marked_faults mark (drop i fs) (drop i marks) ≡ marked_faults mark (drop (suc i) fs) (drop (suc i) marks)
  lacks_step lacks = lacks_by (slice_get marks i) refl lacks

module _ (most : ℕ) (old others new : List Flaw) where
  pub none_yet : LeavesMarked most old others old others
  none_yet = record { same = refl; bound = λ le. le }

  pub picked : (f : Flaw) (rest left : List Flaw) → LeavesMarked most old others new rest → rest ≡ f ∷ left → length new < most → LeavesMarked most old others (new ++ f ∷ []) left
  picked f rest left before is lt = record {
    same = before.same ∙ ap (λ (xs : List Flaw). take most (new ++ xs)) is ∙ ap (take most) (sym (append_assoc new (f ∷ []) left));
    bound = λ le. omega (arith, length-append new (f ∷ []));
  }

  pub passed : (rest left : List Flaw) → LeavesMarked most old others new rest → rest ≡ left → LeavesMarked most old others new left
  passed rest left before is = record {
    same = before.same ∙ ap (λ (xs : List Flaw). take most (new ++ xs)) is;
    bound = before.bound;
  }

  pub full : (rest left : List Flaw) → LeavesMarked most old others new rest → most ≤ length new → LeavesMarked most old others new left
  full rest left before le = record {
    same = before.same ∙ take-append-le most new rest le ∙ sym (take-append-le most new left le);
    bound = before.bound;
  }

  pub all_picked : (rest : List Flaw) → LeavesMarked most old others new rest → rest ≡ [] → PicksMarked most old others new
  all_picked rest before is = record {
    picks = before.same ∙ ap (λ (xs : List Flaw). take most (new ++ xs)) is ∙ ap (take most) (append-nil new);
    bound = before.bound;
  }

-- no fault is left behind the last
pub at_end : (mark : Bool) (fs : List Flaw) (marks : List Bool) (i : ℕ) → length fs ≤ i → marked_faults mark (drop i fs) (drop i marks) ≡ []
at_end mark fs marks i le = ap (λ (xs : List Flaw). marked_faults mark xs (drop i marks)) (drop_all i fs le) ∙ none_left mark (drop i marks)

take_front : (most : ℕ) (xs ys : List Flaw) → take most (take most xs ++ ys) ≡ take most (xs ++ ys)
take_front most xs ys = cases (nat_le (length xs) most) refl
  where
    cases : (is : Bool) → nat_le (length xs) most ≡ is → take most (take most xs ++ ys) ≡ take most (xs ++ ys)
    cases true e = ap (λ (zs : List Flaw). take most (zs ++ ys)) (take_all most xs (leb-true (length xs) most e))
    cases false e =
        let more : most ≤ length xs = omega (arith, leb-false (length xs) most e) in
        take-append-le most (take most xs) ys (omega (arith, length-take most xs))
        ∙ take_all most (take most xs) (omega (arith, length-take most xs))
        ∙ sym (take-append-le most xs ys more)

-- first those that lead were picked, and then the others
pub chosen_by : (most : ℕ) (fs : List Flaw) (leads : List Bool) (leading those : List Flaw) → PicksMarked most [] (marked_faults true fs leads) leading
    → PicksMarked most leading (marked_faults false fs leads) those → those ≡ chosen_faults most fs leads
chosen_by most fs leads leading those first second =
    let within : length leading ≤ most = first.bound (omega arith) in
    let front : take most (marked_faults true fs leads) ≡ leading = first.picks ∙ take_all most leading within in
    sym (take_all most those (second.bound within))
    ∙ sym second.picks
    ∙ ap (λ (xs : List Flaw). take most (xs ++ marked_faults false fs leads)) (sym front)
    ∙ take_front most (marked_faults true fs leads) (marked_faults false fs leads)

module _ (most : ℕ) (mark : Bool) (fs : List Flaw) (marks : List Bool) (i : ℕ) (f : Flaw) (old others new next : List Flaw) where
  step_by : (b lt : Bool) → nat_lt (length new) most ≡ lt → slice_get fs i ≡ Some f → (b ≡ true → slice_get marks i ≡ Some mark) → (b ≡ false → slice_get marks i ≡ Some mark → ⊥)
      → next ≡ (if b && lt then new ++ f ∷ [] else new) → LeavesMarked most old others new (marked_faults mark (drop i fs) (drop i marks))
      → LeavesMarked most old others next (marked_faults mark (drop (suc i) fs) (drop (suc i) marks))
  step_by true true lt at has lacks is before =
      subst (λ (xs : List Flaw). LeavesMarked most old others xs (marked_faults mark (drop (suc i) fs) (drop (suc i) marks))) (sym is)
      (picked most old others new f _ _ before (has_step mark fs marks i f at (has refl)) (ltb-true (length new) most lt))
  step_by true false lt at has lacks is before =
      subst (λ (xs : List Flaw). LeavesMarked most old others xs (marked_faults mark (drop (suc i) fs) (drop (suc i) marks))) (sym is)
      (full most old others new _ _ before (ltb-false (length new) most lt))
  step_by false lt less at has lacks is before =
      subst (λ (xs : List Flaw). LeavesMarked most old others xs (marked_faults mark (drop (suc i) fs) (drop (suc i) marks))) (sym is)
      (passed most old others new _ _ before (lacks_step mark fs marks i f at (lacks refl)))

  -- one fault further
  pub step : slice_get fs i ≡ Some f → (b : Bool) → (b ≡ true → slice_get marks i ≡ Some mark) → (b ≡ false → slice_get marks i ≡ Some mark → ⊥) → AddsIf most b f new next
      → LeavesMarked most old others new (marked_faults mark (drop i fs) (drop i marks)) → LeavesMarked most old others next (marked_faults mark (drop (i + 1) fs) (drop (i + 1) marks))
  step at b has lacks is before =
      let same : suc i ≡ i + 1 = omega arith in
      subst (λ (k : ℕ). LeavesMarked most old others next (marked_faults mark (drop k fs) (drop k marks))) same (step_by b (nat_lt (length new) most) refl at has lacks is before)
