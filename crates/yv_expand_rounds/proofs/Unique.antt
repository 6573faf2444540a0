-- The final tree of groups is one.
use Rattle.std.proofs.Common.{inl, inr, ◌≡◌, ◌≢◌, ℕ, zero, suc, ◌+◌, ◌≤◌, ◌<◌, ◌==◌, ◌⊎◌, cond, Bool, true, false, if◌then◌else◌, List, [], ◌∷◌, get_or, length, refl, sym, ◌∙◌, ap, subst, arith, eq-eqb, None}
use Rattle.std.specs.List.{count_by}
use Rattle.std.specs.Cmp.{IsStrictWeakOrder, bool_cmp_total, nat_cmp_total, on_total, then_total}
use Rattle.std.specs.Ordering.{is_lt, nat_cmp}
use Rattle.std.specs.declared.cmp.Ordering.TheVariants.{Less, Equal, Greater}
use Rattle.std.proofs.lemmas.Bool.{ne_eqb, cases_order, lt-ltb}
use Rattle.std.proofs.lemmas.List.Sums.{sum_by-append}
use Rattle.std.proofs.lemmas.List.Sorted.{ranks_by, sorted_far, sum_by-IsPermutation}
use Rattle.yv_expand_rounds.specs.declared.label.Label.{Label}
use Rattle.yv_expand_rounds.specs.declared.row.ItemRow.{ItemRow}
use Rattle.yv_expand_rounds.specs.Groups.{Groups, members_of}
use Rattle.yv_expand_rounds.specs.Order.{is_given, sibling_cmp}
use Rattle.yv_expand_rounds.specs.Tree.{Tree, item, AreInOrder, Make, no_items, one_more, tree_list, AreRows, IsTree}
use Rattle.yv_expand_rounds.proofs.Least.{by_marks}

abbrev one_if : Bool → ℕ
one_if b = if b then 1 else 0

-- how often a number stands in a list
abbrev count : ℕ → List ℕ → ℕ
count y xs = count_by (λ i. i == y) xs

count_more : (y x : ℕ) (xs : List ℕ) → count y (x ∷ xs) ≡ 0 + one_if (x == y) + count y xs
count_more y x xs = sum_by-append (λ i. one_if (i == y)) (x ∷ []) xs

if_eq : (x y : ℕ) → x ≡ y → one_if (x == y) ≡ 1
if_eq x y e = ap one_if (eq-eqb x y e)

if_ne : (x y : ℕ) → x ≢ y → one_if (x == y) ≡ 0
if_ne x y e = ap one_if (ne_eqb x y e)

-- the order of siblings tells two items apart
less_number : (x y : ℕ) → x < y → is_lt (nat_cmp x y) ≡ true
less_number x y l = ap (λ b. is_lt (cond b Less (cond (x == y) Equal Greater))) (lt-ltb x y l)

abbrev Tells : (labels : List Label) (x y : ℕ) → Type 0
Tells labels x y = (x ≡ y) ⊎ ((is_lt (sibling_cmp labels x y) ≡ true) ⊎ (is_lt (sibling_cmp labels y x) ≡ true))

by_numbers : (labels : List Label) (x y : ℕ) (g : Bool) → is_given labels x ≡ g → is_given labels y ≡ g → (sibling_cmp labels x y ≡ nat_cmp x y) → (sibling_cmp labels y x ≡ nat_cmp y x)
    → Tells labels x y
by_numbers labels x y g e f there back = elim (cases_order x y) [
  | inl same ↦ inl same
  | inr (inl l) ↦ inr (inl (ap is_lt there ∙ less_number x y l))
  | inr (inr l) ↦ inr (inr (ap is_lt back ∙ less_number y x l))
]

tells : (labels : List Label) (x y : ℕ) → Tells labels x y
tells labels x y = by_mark (is_given labels x) (is_given labels y) refl refl
  where
    by_mark : (g h : Bool) → is_given labels x ≡ g → is_given labels y ≡ h → Tells labels x y
    by_mark true true e f = by_numbers labels x y true e f (by_marks labels x y true true e f) (by_marks labels y x true true f e)
    by_mark false false e f = by_numbers labels x y false e f (by_marks labels x y false false e f) (by_marks labels y x false false f e)
    by_mark false true e f = inr (inl (ap is_lt (by_marks labels x y false true e f)))
    by_mark true false e f = inr (inr (ap is_lt (by_marks labels y x false true f e)))

is_order : (labels : List Label) → IsStrictWeakOrder (λ x y. is_lt (sibling_cmp labels x y))
is_order labels = ranks_by (then_total (on_total (is_given labels) bool_cmp_total) nat_cmp_total) (λ (x : ℕ). x)

-- no item of these comes before one that stands in front of it
abbrev Rises : List Label → List ℕ → Type 0
Rises labels xs = (i j d : ℕ) → i ≤ j → j < length xs → is_lt (sibling_cmp labels (get_or xs j d) (get_or xs i d)) ≡ false

absent : (z : ℕ) (xs : List ℕ) → ((j : ℕ) → j < length xs → get_or xs j 0 ≢ z) → count z xs ≡ 0
absent z [] other = refl
absent z (x ∷ xs) other =
    let a = count_more z x xs in
    let b : one_if (x == z) ≡ 0 = if_ne x z (other zero (omega arith)) in
    let d : count z xs ≡ 0 = absent z xs (λ j h. other (suc j) (omega (arith, h))) in
    omega (arith, a, b, d)

-- what comes before the first doesn't stand there
before_head : (labels : List Label) (z x : ℕ) (xs : List ℕ) → Rises labels (x ∷ xs) → is_lt (sibling_cmp labels z x) ≡ true → count z (x ∷ xs) ≡ 0
before_head labels z x xs up l = absent z (x ∷ xs)
    (λ j h e.
    let bad : true ≡ false = sym l ∙ ap (λ n. is_lt (sibling_cmp labels n x)) (sym e) ∙ up zero j 0 (omega arith) h in
    absurd (let never : true ≡ false = bad in cc))

-- two lists in order that have each number as often are the same
same : (labels : List Label) (xs ys : List ℕ) → Rises labels xs → Rises labels ys → ((y : ℕ) → count y xs ≡ count y ys) → xs ≡ ys
same labels [] [] ux uy e = refl
same labels [] (y ∷ ys) ux uy e =
    let a = count_more y y ys in
    let b : one_if (y == y) ≡ 1 = if_eq y y refl in
    let d : 0 ≡ count y (y ∷ ys) = e y in
    absurd (omega (arith, a, b, d))
same labels (x ∷ xs) [] ux uy e =
    let a = count_more x x xs in
    let b : one_if (x == x) ≡ 1 = if_eq x x refl in
    let d : count x (x ∷ xs) ≡ 0 = e x in
    absurd (omega (arith, a, b, d))
same labels (x ∷ xs) (y ∷ ys) ux uy e =
    let heads : x ≡ y = elim (tells labels x y) [
      | inl h ↦ h
      | inr (inl l) ↦
          let a = count_more x x xs in
          let b : one_if (x == x) ≡ 1 = if_eq x x refl in
          let d = e x in
          let f : count x (y ∷ ys) ≡ 0 = before_head labels x y ys uy l in
          absurd (omega (arith, a, b, d, f))
      | inr (inr l) ↦
          let a = count_more y y ys in
          let b : one_if (y == y) ≡ 1 = if_eq y y refl in
          let d = e y in
          let f : count y (x ∷ xs) ≡ 0 = before_head labels y x xs ux l in
          absurd (omega (arith, a, b, d, f))
    ] in
    let tails : xs ≡ ys = same labels xs ys
    (λ i j d le l. ux (suc i) (suc j) d (omega (arith, le)) (omega (arith, l)))
    (λ i j d le l. uy (suc i) (suc j) d (omega (arith, le)) (omega (arith, l)))
    (λ z.
    let a = count_more z x xs in
    let b = count_more z y ys in
    let d = e z in
    let f : one_if (x == z) ≡ one_if (y == z) = ap (λ n. one_if (n == z)) heads in
    omega (arith, a, b, d, f)) in
    ap (λ n. n ∷ xs) heads ∙ ap (λ l. y ∷ l) tails

order_one : (labels : List Label) (groups : Groups) (g : ℕ) (xs ys : List ℕ) → AreInOrder labels groups g xs → AreInOrder labels groups g ys → xs ≡ ys
order_one labels groups g xs ys p q =
    let lt : ℕ → ℕ → Bool = λ x y. is_lt (sibling_cmp labels x y) in
    same labels xs ys (sorted_far lt (is_order labels) xs p.sorted) (sorted_far lt (is_order labels) ys q.sorted)
    (λ y. sum_by-IsPermutation (λ i. one_if (i == y)) (members_of groups g) xs p.permutation
    ∙ sym (sum_by-IsPermutation (λ i. one_if (i == y)) (members_of groups g) ys q.permutation))

make_one : (labels : List Label) (groups : Groups) (items : List ℕ) (t u : Tree) → Make labels groups items t → Make labels groups items u → t ≡ u
make_one labels groups [] t u no_items no_items = refl
make_one labels groups (i ∷ others) t u (one_more {items = a} {below = below} {behind = behind} o m r) (one_more {items = b} {below = below'} {behind = behind'} p n s) =
    let e : a ≡ b = order_one labels groups (i + 1) a b o p in
    let first : below ≡ below' = make_one labels groups a below below' m (subst (λ l. Make labels groups l below') (sym e) n) in
    let rest : behind ≡ behind' = make_one labels groups others behind behind' r s in
    ap (λ x. item i x behind) first ∙ ap (λ x. item i below' x) rest

pub tree_one : (labels : List Label) (groups : Groups) (a b : Tree) → IsTree labels groups a → IsTree labels groups b → a ≡ b
tree_one labels groups a b p q =
    let e : p.0 ≡ q.0 = order_one labels groups 0 p.0 q.0 p.1 q.1 in
    make_one labels groups p.0 a b p.2 (subst (λ l. Make labels groups l b) (sym e) q.2)

pub rows_one : (labels : List Label) (groups : Groups) (first second : List ItemRow) → AreRows labels groups first → AreRows labels groups second → first ≡ second
rows_one labels groups first second p q =
    p.rows_are ∙ ap (tree_list None 1) (tree_one labels groups p.tree q.tree p.is_tree q.is_tree) ∙ sym q.rows_are
