-- Where the items below an item end.
use Rattle.std.proofs.Common.{◌≡◌, ℕ, ◌+◌, ◌<◌, ◌≤◌, zero, suc, Bool, true, false, if◌then◌else◌, List, [], ◌∷◌, length, drop, Option, Some, None, refl, sym, ◌∙◌, ap, arith, length-drop}
use Rattle.std.specs.List.{slice_get}
use Rattle.std.proofs.lemmas.Option.{slice_get_within}
use Rattle.yv_expand.specs.Tree.{Item}
use Rattle.yv_expand_uses.specs.Ends.{end_at, is_above, is_from, run_length}
use Rattle.yv_expand_uses.specs.InnerEnds.{is_from_at}
use Rattle.yv_expand_uses.proofs.StatementLists.{rest_of}

pub drop_one : {A : Type 0} (n : ℕ) (x : A) (xs : List A) → drop (1 + n) (x ∷ xs) ≡ drop n xs
drop_one n x xs = let e : 1 + n ≡ suc n = omega arith in rw e refl

above_less : (i e : ℕ) (o : Option ℕ) → i ≤ e → is_above e o ≡ true → is_above i o ≡ true
above_less i e None l h = h
above_less i e (Some p) l h = grind arith

pub run_yes : (i : ℕ) (x : Item) (xs : List Item) → is_from i x ≡ true → run_length i (x ∷ xs) ≡ 1 + run_length i xs
run_yes i x xs h = ap (λ (b : Bool). if b then 1 + run_length i xs else 0) h

pub run_no : (i : ℕ) (x : Item) (xs : List Item) → is_from i x ≡ false → run_length i (x ∷ xs) ≡ 0
run_no i x xs h = ap (λ (b : Bool). if b then 1 + run_length i xs else 0) h

-- what stands below a later item may be passed at once
run_run : (i e : ℕ) (xs : List Item) → i ≤ e → run_length i xs ≡ run_length e xs + run_length i (drop (run_length e xs) xs)
run_run i e [] l = refl
run_run i e (x ∷ xs) l = by (is_from e x) refl (run_run i e xs l)
  where
    by : (b : Bool) → is_from e x ≡ b → run_length i xs ≡ run_length e xs + run_length i (drop (run_length e xs) xs) → run_length i (x ∷ xs) ≡ run_length e (x ∷ xs) + run_length i (drop (run_length e (x ∷ xs)) (x ∷ xs))
    by true h on =
        let more : run_length e (x ∷ xs) ≡ 1 + run_length e xs = run_yes e x xs h in
        let here : run_length i (x ∷ xs) ≡ 1 + run_length i xs = run_yes i x xs (above_less i e x.parent l h) in
        let rest : run_length i (drop (run_length e (x ∷ xs)) (x ∷ xs)) ≡ run_length i (drop (run_length e xs) xs) = ap (λ n. run_length i (drop n (x ∷ xs))) more ∙ ap (run_length i) (drop_one (run_length e xs) x xs) in
        omega (arith, more, here, rest, on)
    by false h on =
        let none : run_length e (x ∷ xs) ≡ 0 = run_no e x xs h in
        let rest : run_length i (drop (run_length e (x ∷ xs)) (x ∷ xs)) ≡ run_length i (x ∷ xs) = ap (λ n. run_length i (drop n (x ∷ xs))) none in
        omega (arith, none, rest)

nothing : {A : Type 0} (k : ℕ) → (let l : List A = [] in drop k l ≡ l)
nothing zero = refl
nothing (suc k) = refl

pub drop_drop : {A : Type 0} (n m : ℕ) (xs : List A) → drop m (drop n xs) ≡ drop (n + m) xs
drop_drop zero m xs = ap (λ k. drop k xs) (let e : m ≡ 0 + m = omega arith in e)
drop_drop {A = A} (suc n) m [] = nothing {A = A} m ∙ sym (nothing {A = A} (suc n + m))
drop_drop (suc n) m (x ∷ xs) = drop_drop n m xs ∙ (let e : suc n + m ≡ suc (n + m) = omega arith in rw e refl)

-- the next item that stands below, and what stands below it
pub end_next : (i next : ℕ) (items : List Item) → i ≤ next → is_from_at i (slice_get items next) ≡ true → next + run_length i (drop next items) ≡ end_at items next + run_length i (drop (end_at items next) items)
end_next i next items l h = by (slice_get items next) refl h
  where
    by : (o : Option Item) → slice_get items next ≡ o → is_from_at i o ≡ true → next + run_length i (drop next items) ≡ end_at items next + run_length i (drop (end_at items next) items)
    by None at f = absurd (let bad : false ≡ true = f in cc)
    by (Some x) at f =
        let more : List Item = drop (next + 1) items in
        let here : run_length i (drop next items) ≡ 1 + run_length i more = ap (run_length i) (rest_of items next x at) ∙ run_yes i x more f in
        let rest : run_length i (drop (run_length next more) more) ≡ run_length i (drop (end_at items next) items) = ap (run_length i) (drop_drop (next + 1) (run_length next more) items) in
        omega (arith, here, rest, run_run i next more l)

-- no more items stand below
pub end_here : (i next : ℕ) (items : List Item) → is_from_at i (slice_get items next) ≡ false → run_length i (drop next items) ≡ 0
end_here i zero [] h = refl
end_here i (suc next) [] h = refl
end_here i zero (x ∷ xs) h = run_no i x xs h
end_here i (suc next) (x ∷ xs) h = end_here i next xs h

pub from_within : (i next : ℕ) (items : List Item) → is_from_at i (slice_get items next) ≡ true → next < length items
from_within i next items h = by (slice_get items next) refl h
  where
    by : (o : Option Item) → slice_get items next ≡ o → is_from_at i o ≡ true → next < length items
    by None at f = absurd (let bad : false ≡ true = f in cc)
    by (Some x) at f = slice_get_within items next x at

run_most : (i : ℕ) (xs : List Item) → run_length i xs ≤ length xs
run_most i [] = omega arith
run_most i (x ∷ xs) = by (is_from i x) refl (run_most i xs)
  where
    by : (b : Bool) → is_from i x ≡ b → run_length i xs ≤ length xs → run_length i (x ∷ xs) ≤ length (x ∷ xs)
    by true h on = omega (arith, run_yes i x xs h, on)
    by false h on = omega (arith, run_no i x xs h)

pub end_within : (items : List Item) (i : ℕ) → i < length items → end_at items i ≤ length items
end_within items i h = omega (arith, run_most i (drop (i + 1) items), length-drop (i + 1) items)
