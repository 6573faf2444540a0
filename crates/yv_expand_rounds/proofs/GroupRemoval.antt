-- Groups that are taken out, one by one, and the stack of the items that were in them.
use Rattle.std.proofs.Common.{◌⊎◌, inl, inr, ◌≡◌, ◌≢◌, ℕ, ◌+◌, ◌≤◌, ◌<◌, ◌==◌, Bool, if◌then◌else◌, List, [], ◌∷◌, ◌++◌, set, length, reverse, refl, sym, ◌∙◌, ap, subst, arith, eq-eqb, append_assoc, append-nil, Option, Some, None}
use Rattle.std.specs.List.{sum_by, count_by}
use Rattle.std.specs.List.Sorted.{IsPermutation}
use Rattle.std.proofs.lemmas.Bool.{ne_eqb, cases_lt, cases_order}
use Rattle.std.proofs.lemmas.List.{get_or-set_other, get_or_past, set_past, reverse-append, reverse-reverse, length-reverse, length-map, length-append}
use Rattle.std.proofs.lemmas.List.Sums.{sum_by-set, sum_by-append}
use Rattle.std.proofs.lemmas.List.Sorted.{sum_by-IsPermutation, IsPermutation-reverse, length_permutation}
use Rattle.yv_expand_rounds.specs.declared.label.Label.{Label}
use Rattle.yv_expand_rounds.specs.declared.row.ItemRow.{ItemRow}
use Rattle.yv_expand_rounds.specs.Groups.{Groups, members_of, times}
use Rattle.yv_expand_rounds.specs.Tree.{AreInOrder, AreRows}
use Rattle.yv_expand_rounds.specs.Placements.{StandOnce}
use Rattle.yv_expand_rounds.specs.InnerTreeList.{row, under, StandAtMostOnce, Each, none_left}
use Rattle.yv_expand_rounds.proofs.Stacks.{step, whole}

-- a group that is taken out is missing from a sum
pub sum_taken : (f : List ℕ → ℕ) (gs : Groups) (g : ℕ) → f [] ≡ 0 → sum_by f (set gs g []) + f (members_of gs g) ≡ sum_by f gs
sum_taken f gs g none = elim (cases_lt g (length gs)) [
  | inl l ↦ (let e : sum_by f (set gs g []) + f (members_of gs g) ≡ sum_by f gs + f [] = sum_by-set f gs g [] [] l in omega (arith, e, none))
  | inr past ↦
      let a : sum_by f (set gs g []) ≡ sum_by f gs = ap (sum_by f) (set_past gs g [] past) in
      let b : f (members_of gs g) ≡ 0 = ap f (get_or_past gs g [] past) ∙ none in
      omega (arith, a, b)
]

-- how often a number stands on a stack
abbrev on : ℕ → List ItemRow → ℕ
on y stack = count_by (λ w. w.number == y) stack

abbrev one_if : Bool → ℕ
one_if b = if b then 1 else 0

on_under : (y : ℕ) (parent : Option ℕ) (depth : ℕ) (items : List ℕ) → on y (under parent depth items) ≡ count_by (λ i. i == y) items
on_under y parent depth [] = refl
on_under y parent depth (i ∷ items) =
    let a : on y (under parent depth (i ∷ items)) ≡ 0 + one_if (i == y) + on y (under parent depth items) =
    sum_by-append (λ (w : ItemRow). one_if (w.number == y)) (row parent depth i ∷ []) (under parent depth items) in
    let b : count_by (λ j. j == y) (i ∷ items) ≡ 0 + one_if (i == y) + count_by (λ j. j == y) items =
    sum_by-append (λ j. one_if (j == y)) (i ∷ []) items in
    let e = on_under y parent depth items in
    omega (arith, a, b, e)

on_reverse : (y : ℕ) (stack : List ItemRow) → on y (reverse stack) ≡ on y stack
on_reverse y stack = sum_by-IsPermutation (λ (w : ItemRow). one_if (w.number == y)) stack (reverse stack) (IsPermutation-reverse stack)

-- what is put on the stack
on_put : (labels : List Label) (y : ℕ) (popped new : List ItemRow) (parent : Option ℕ) (depth : ℕ) (gs : Groups) (g : ℕ) (items : List ℕ) → AreInOrder labels gs g items
    → new ≡ popped ++ reverse (under parent depth items) → on y new ≡ on y popped + count_by (λ i. i == y) (members_of gs g)
on_put labels y popped new parent depth gs g items order is =
    ap (on y) is
    ∙ sum_by-append (λ (w : ItemRow). one_if (w.number == y)) popped (reverse (under parent depth items))
    ∙ ap (λ n. on y popped + n) (on_reverse y (under parent depth items) ∙ on_under y parent depth items
    ∙ sum_by-IsPermutation (λ i. one_if (i == y)) (members_of gs g) items order.permutation)

-- a number is on the stack or in the groups that are left at most once, and if it is, what stands
-- below it wasn't taken
abbrev pub IsFresh : (groups rest : Groups) → List ItemRow → ℕ → Type 0
IsFresh groups rest stack y = (times y rest + on y stack ≡ 0) ⊎ ((times y rest + on y stack ≡ 1) × (members_of rest (y + 1) ≡ members_of groups (y + 1)))

abbrev pub AreFresh : (groups rest : Groups) → List ItemRow → Type 0
AreFresh groups rest stack = (y : ℕ) → IsFresh groups rest stack y

at_most : (n : ℕ) → n ≤ 1 → (n ≡ 0) ⊎ (n ≡ 1)
at_most n l = elim (cases_lt n 1) [ inl z ↦ inl (omega (arith, z)) | inr o ↦ inr (omega (arith, o, l)) ]

pub fresh_start : (labels : List Label) (groups rest : Groups) (empty stack : List ItemRow) (items : List ℕ) → StandAtMostOnce groups → AreInOrder labels groups 0 items
    → rest ≡ set groups 0 [] → empty ≡ [] → stack ≡ empty ++ reverse (under None 1 items) → AreFresh groups rest stack
fresh_start labels groups rest empty stack items once order left none is = λ y.
    let a : times y (set groups 0 []) + count_by (λ i. i == y) (members_of groups 0) ≡ times y groups = sum_taken (λ ms. count_by (λ i. i == y) ms) groups 0 refl in
    let b : on y stack ≡ on y empty + count_by (λ i. i == y) (members_of groups 0) = on_put labels y empty stack None 1 groups 0 items order is in
    let z : on y empty ≡ 0 = ap (on y) none in
    let r : times y rest ≡ times y (set groups 0 []) = ap (times y) left in
    let sum : times y rest + on y stack ≡ times y groups = omega (arith, a, b, z, r) in
    elim (at_most (times y groups) (once y)) [
      | inl zero_ ↦ inl (sum ∙ zero_)
      | inr one_ ↦ inr (sum ∙ one_, ap (λ gs. members_of gs (y + 1)) left ∙ get_or-set_other groups 0 (y + 1) [] [] (λ e. omega (arith, e)))
    ]

on_top : (y : ℕ) (stack popped : List ItemRow) (w : ItemRow) → stack ≡ popped ++ w ∷ [] → on y stack ≡ on y popped + one_if (w.number == y)
on_top y stack popped w is =
    let a : on y (popped ++ w ∷ []) ≡ on y popped + (0 + one_if (w.number == y)) =
    sum_by-append (λ (v : ItemRow). one_if (v.number == y)) popped (w ∷ []) in
    let b : on y stack ≡ on y (popped ++ w ∷ []) = ap (on y) is in
    omega (arith, a, b)

-- what stands below the item on top of the stack wasn't taken
pub fresh_top : (groups rest : Groups) (stack popped : List ItemRow) (w : ItemRow) → stack ≡ popped ++ w ∷ [] → AreFresh groups rest stack
    → members_of rest (w.number + 1) ≡ members_of groups (w.number + 1)
fresh_top groups rest stack popped w is fresh =
    let top : on w.number stack ≡ on w.number popped + one_if (w.number == w.number) = on_top w.number stack popped w is in
    let one : one_if (w.number == w.number) ≡ 1 = ap one_if (eq-eqb w.number w.number refl) in
    elim (fresh w.number) [
      | inl zero_ ↦ absurd (omega (arith, zero_, top, one))
      | inr (one_, same) ↦ same
    ]

pub fresh_step : (labels : List Label) (groups rest left : Groups) (stack popped new : List ItemRow) (w : ItemRow) (depth : ℕ) (items : List ℕ) → stack ≡ popped ++ w ∷ []
    → AreInOrder labels rest (w.number + 1) items → left ≡ set rest (w.number + 1) [] → new ≡ popped ++ reverse (under (Some w.number) depth items)
    → AreFresh groups rest stack → AreFresh groups left new
fresh_step labels groups rest left stack popped new w depth items is order taken put fresh = λ y.
    let g : ℕ = w.number + 1 in
    let a : times y (set rest g []) + count_by (λ i. i == y) (members_of rest g) ≡ times y rest = sum_taken (λ ms. count_by (λ i. i == y) ms) rest g refl in
    let b : on y new ≡ on y popped + count_by (λ i. i == y) (members_of rest g) = on_put labels y popped new (Some w.number) depth rest g items order put in
    let t : on y stack ≡ on y popped + one_if (w.number == y) = on_top y stack popped w is in
    let r : times y left ≡ times y (set rest g []) = ap (times y) taken in
    let sum : times y left + on y new + one_if (w.number == y) ≡ times y rest + on y stack = omega (arith, a, b, t, r) in
    by_number y sum (cases_order w.number y)
  where
    other : (y : ℕ) → w.number ≢ y → times y left + on y new + one_if (w.number == y) ≡ times y rest + on y stack → IsFresh groups left new y
    other y ne sum =
        let z : one_if (w.number == y) ≡ 0 = ap one_if (ne_eqb w.number y ne) in
        elim (fresh y) [
          | inl zero_ ↦ inl (omega (arith, sum, z, zero_))
          | inr (one_, same) ↦ inr (
            omega (arith, sum, z, one_),
            ap (λ gs. members_of gs (y + 1)) taken ∙ get_or-set_other rest (w.number + 1) (y + 1) [] [] (λ e. ne (omega (arith, e))) ∙ same,
          )
        ]

    by_number : (y : ℕ) → times y left + on y new + one_if (w.number == y) ≡ times y rest + on y stack
        → (w.number ≡ y) ⊎ ((w.number < y) ⊎ (y < w.number)) → IsFresh groups left new y
    by_number y sum (inl e) =
        let o : one_if (w.number == y) ≡ 1 = ap one_if (eq-eqb w.number y e) in
        elim (fresh y) [
          | inl zero_ ↦ inl (omega (arith, sum, zero_))
          | inr (one_, same) ↦ inl (omega (arith, sum, o, one_))
        ]
    by_number y sum (inr (inl l)) = other y (λ e. omega (arith, e, l)) sum
    by_number y sum (inr (inr l)) = other y (λ e. omega (arith, e, l)) sum

back_put : (popped new xs : List ItemRow) → new ≡ popped ++ reverse xs → reverse new ≡ xs ++ reverse popped
back_put popped new xs e = ap reverse e ∙ reverse-append popped (reverse xs) ∙ ap (λ l. l ++ reverse popped) (reverse-reverse xs)

-- whatever the stack gives completes what was written to the final tree
abbrev pub Completes : List Label → Groups → List ItemRow → List ItemRow → Type 0
Completes labels groups stack written = (rows : List ItemRow) → Each labels groups (reverse stack) rows → AreRows labels groups (written ++ rows)

pub completes_start : (labels : List Label) (groups : Groups) (empty stack none : List ItemRow) (items : List ℕ) → AreInOrder labels groups 0 items → empty ≡ []
    → stack ≡ empty ++ reverse (under None 1 items) → none ≡ [] → Completes labels groups stack none
completes_start labels groups empty stack none items order no_stack is no_rows = λ rows e.
    let turned : reverse stack ≡ under None 1 items ++ [] = back_put empty stack (under None 1 items) is ∙ ap (λ l. under None 1 items ++ reverse l) no_stack in
    let first : Each labels groups (under None 1 items) rows =
    subst (λ l. Each labels groups l rows) (turned ∙ append-nil (under None 1 items)) e in
    subst (λ l. AreRows labels groups (l ++ rows)) (sym no_rows) (whole labels groups items rows order first)

pub completes_step : (labels : List Label) (groups rest : Groups) (stack popped new written more : List ItemRow) (w : ItemRow) (items : List ℕ) → stack ≡ popped ++ w ∷ []
    → AreInOrder labels rest (w.number + 1) items → members_of rest (w.number + 1) ≡ members_of groups (w.number + 1)
    → new ≡ popped ++ reverse (under (Some w.number) (w.depth + 1) items) → more ≡ written ++ w ∷ [] → Completes labels groups stack written
    → Completes labels groups new more
completes_step labels groups rest stack popped new written more w items is order same put added goes = λ rows e.
    let turned : reverse stack ≡ w ∷ reverse popped = ap reverse is ∙ reverse-append popped (w ∷ []) in
    let now : AreInOrder labels groups (w.number + 1) items = record {
      permutation = subst (λ ms. IsPermutation ms items) same order.permutation;
      sorted = order.sorted;
    } in
    let below : Each labels groups (under (Some w.number) (w.depth + 1) items ++ reverse popped) rows =
    subst (λ l. Each labels groups l rows) (back_put popped new (under (Some w.number) (w.depth + 1) items) put) e in
    let shown_ : Each labels groups (reverse stack) (w ∷ rows) = subst (λ l. Each labels groups l (w ∷ rows)) (sym turned) (step labels groups w items (reverse popped) rows now below) in
    subst (λ l. AreRows labels groups l) (sym (ap (λ l. l ++ rows) added ∙ append_assoc written (w ∷ []) rows)) (goes (w ∷ rows) shown_)

pub completes_all : (labels : List Label) (groups : Groups) (stack written : List ItemRow) → stack ≡ [] → Completes labels groups stack written → AreRows labels groups written
completes_all labels groups stack written none goes =
    subst (λ l. AreRows labels groups l) (append-nil written) (goes [] (subst (λ l. Each labels groups l []) (sym (ap reverse none)) none_left))

-- with each item that is taken from the stack less is left
pub fewer_left : (labels : List Label) (stack popped new : List ItemRow) (w : ItemRow) (parent : Option ℕ) (depth : ℕ) (gs left : Groups) (g : ℕ) (items : List ℕ) → stack ≡ popped ++ w ∷ []
    → AreInOrder labels gs g items → left ≡ set gs g [] → new ≡ popped ++ reverse (under parent depth items)
    → length new + sum_by (λ ms. length ms) left < length stack + sum_by (λ ms. length ms) gs
fewer_left labels stack popped new w parent depth gs left g items is order taken put =
    let a : sum_by (λ ms. length ms) (set gs g []) + length (members_of gs g) ≡ sum_by (λ ms. length ms) gs = sum_taken (λ ms. length ms) gs g refl in
    let b : sum_by (λ ms. length ms) left ≡ sum_by (λ ms. length ms) (set gs g []) = ap (sum_by (λ ms. length ms)) taken in
    let d : length new ≡ length popped + length (reverse (under parent depth items)) = ap length put ∙ length-append popped (reverse (under parent depth items)) in
    let e : length (reverse (under parent depth items)) ≡ length items = length-reverse (under parent depth items) ∙ length-map items (row parent depth) in
    let f : length items ≡ length (members_of gs g) = length_permutation (members_of gs g) items order.permutation in
    let h : length stack ≡ length popped + 1 = ap length is ∙ length-append popped (w ∷ []) in
    omega (arith, a, b, d, e, f, h)

pub no_items_in : (stack : List ItemRow) → length stack ≡ 0 → stack ≡ []
no_items_in [] e = refl
no_items_in (w ∷ stack) e = absurd (omega (arith, e))

pub stand_at_most_once : (items : ℕ) (groups : Groups) → StandOnce items groups → StandAtMostOnce groups
stand_at_most_once items groups stand i = elim (cases_lt i items) [
  | inl l ↦ (let e = stand.once i l in omega (arith, e))
  | inr l ↦ (let e = stand.no_other i l in omega (arith, e))
]
