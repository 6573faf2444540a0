-- What is shown at the top is what the final tree by number shows.
use Rattle.std.proofs.Common.{◌⊎◌, inl, inr, ◌≡◌, ◌≢◌, ℕ, zero, suc, ◌+◌, ◌≤◌, ◌<◌, ◌==◌, ◌&&◌, ◌||◌, nat_lt, cond, Bool, true, false, if◌then◌else◌, List, [], ◌∷◌, get_or, length, refl, sym, ◌∙◌, ap, subst, arith, eq-eqb}
use Rattle.std.specs.List.{Contains, count_by}
use Rattle.std.specs.Cmp.{IsStrictWeakOrder, bool_cmp_total, nat_cmp_total, on_total, then_total}
use Rattle.std.specs.Ordering.{is_lt, nat_cmp}
use Rattle.std.specs.declared.cmp.Ordering.TheVariants.{Less, Equal, Greater}
use Rattle.std.proofs.lemmas.Bool.{cases_eq, cases_lt, cases_order, false≢true, lt-ltb, ltb-true, ne_eqb}
use Rattle.std.proofs.lemmas.List.Sums.{sum_by-append}
use Rattle.std.proofs.lemmas.List.Sorted.{ranks_by, sorted_far, sum_by-IsPermutation}
use Rattle.yv_expand_rounds.specs.declared.label.Label.{Label}
use Rattle.yv_expand_rounds.specs.Groups.{Groups, members_of, times}
use Rattle.yv_expand_rounds.specs.Order.{is_given, sibling_cmp}
use Rattle.yv_expand_rounds.specs.Placements.{StandOnce}
use Rattle.yv_expand_rounds.specs.Tree.{Tree, AreInOrder, Make, no_items, one_more}
use Rattle.yv_expand_rounds.proofs.Least.{by_marks}
use Rattle.yv_expand_definition.specs.Nodes.{Forest, node}
use Rattle.yv_expand_laws.specs.Order.{comes_before}
use Rattle.yv_expand_laws.specs.Shows.{AreLabels, Ascend, Items, Orders, Stand}
use Rattle.yv_expand_laws.specs.Shows.Ascend.{no_items as none_ascend, one_more as more_ascend}
use Rattle.yv_expand_laws.specs.Shows.Stand.{no_items as none_stand, not_a_node, shown_node}
use Rattle.yv_expand_laws.specs.Trees.{TreeShows, forest_shown as shown_by}
use Rattle.yv_expand_laws.proofs.FoundItems.{there_first, there_later}
use Rattle.yv_expand_laws.proofs.FrameSequences.{nothing_stands}
use Rattle.yv_expand_laws.proofs.BlockNodes.{first_or}

-- how often a number stands in a list
abbrev pub one_if : Bool → ℕ
one_if b = if b then 1 else 0

abbrev pub count : ℕ → List ℕ → ℕ
count y xs = count_by (λ i. i == y) xs

count_more : (y x : ℕ) (xs : List ℕ) → count y (x ∷ xs) ≡ 0 + one_if (x == y) + count y xs
count_more y x xs = sum_by-append (λ i. one_if (i == y)) (x ∷ []) xs

if_eq : (x y : ℕ) → x ≡ y → one_if (x == y) ≡ 1
if_eq x y e = ap one_if (eq-eqb x y e)

pub counted : (y : ℕ) (xs : List ℕ) → Contains xs y → 1 ≤ count y xs
counted y [] h = absurd (nothing_stands y h)
counted y (x ∷ xs) h = elim (first_or x xs y h) [
  | inl same ↦ (let a = count_more y x xs in let b = if_eq x y same in omega (arith, a, b))
  | inr rest ↦ (let a = count_more y x xs in let b = counted y xs rest in omega (arith, a, b))
]

pub contained : (y : ℕ) (xs : List ℕ) → 1 ≤ count y xs → Contains xs y
contained y [] h = absurd (omega (arith, h))
contained y (x ∷ xs) h = elim (cases_eq x y) [
  | inl same ↦ subst (λ n. Contains (x ∷ xs) n) same (there_first x xs)
  | inr other ↦
      (let a = count_more y x xs in let b : one_if (x == y) ≡ 0 = ap one_if (ne_eqb x y other) in
      there_later x y xs (contained y xs (omega (arith, a, b, h))))
]

-- an item stands in a group at most as often as in all
pub in_all : (y g : ℕ) (groups : Groups) → count y (members_of groups g) ≤ times y groups
in_all y g [] = omega arith
in_all y zero (members ∷ groups) =
    (let a = sum_by-append (λ ms. count y ms) (members ∷ []) groups in let e : times y (members ∷ groups) ≡ 0 + count y members + times y groups = a in omega (arith, e))
in_all y (suc g) (members ∷ groups) =
    (let a = sum_by-append (λ ms. count y ms) (members ∷ []) groups in let e : times y (members ∷ groups) ≡ 0 + count y members + times y groups = a in
    let b = in_all y g groups in omega (arith, e, b))

module _ (given : ℕ → Bool) (labels : List Label) (marks : (i : ℕ) → given i ≡ is_given labels i) where
  less_number : (x y : ℕ) → x < y → is_lt (nat_cmp x y) ≡ true
  less_number x y l = ap (λ b. is_lt (cond b Less (cond (x == y) Equal Greater))) (lt-ltb x y l)

  -- what doesn't come behind another item comes before it
  comes_first : (x y : ℕ) → is_lt (sibling_cmp labels y x) ≡ false → x ≢ y → comes_before given x y ≡ true
  comes_first x y never other = by (is_given labels x) (is_given labels y) refl refl
    where
      up : sibling_cmp labels y x ≡ nat_cmp y x → nat_lt x y ≡ true
      up e = elim (cases_order x y) [
        | inl same ↦ absurd (other same)
        | inr (inl l) ↦ lt-ltb x y l
        | inr (inr l) ↦ absurd (false≢true (sym never ∙ (ap is_lt e ∙ less_number y x l)))
      ]

      is : (p q : Bool) → is_given labels x ≡ p → is_given labels y ≡ q → comes_before given x y ≡ (if p then q && nat_lt x y else q || nat_lt x y)
      is p q e f =
          ap (λ (b : Bool). if b then given y && nat_lt x y else given y || nat_lt x y) (marks x ∙ e)
          ∙ ap (λ (b : Bool). if p then b && nat_lt x y else b || nat_lt x y) (marks y ∙ f)

      by : (p q : Bool) → is_given labels x ≡ p → is_given labels y ≡ q → comes_before given x y ≡ true
      by true true e f = is true true e f ∙ up (by_marks labels y x true true f e)
      by false false e f = is false false e f ∙ up (by_marks labels y x false false f e)
      by false true e f = is false true e f
      by true false e f = absurd (false≢true (sym never ∙ ap is_lt (by_marks labels y x false true f e)))

  not_both : (x y : ℕ) → comes_before given x y ≡ true → comes_before given y x ≡ true → ⊥
  not_both x y h k = by (given x) (given y) h k
    where
      less : nat_lt x y ≡ true → nat_lt y x ≡ true → ⊥
      less a b = (let l : x < y = ltb-true x y a in let m : y < x = ltb-true y x b in omega (arith, l, m))

      by : (p q : Bool) → (if p then q && nat_lt x y else q || nat_lt x y) ≡ true → (if q then p && nat_lt y x else p || nat_lt y x) ≡ true → ⊥
      by true true a b = less a b
      by false false a b = less a b
      by true false a b = false≢true a
      by false true a b = false≢true b

  -- what is sorted and stands once is in order
  ascends : (xs : List ℕ) → ((i j d : ℕ) → i ≤ j → j < length xs → is_lt (sibling_cmp labels (get_or xs j d) (get_or xs i d)) ≡ false)
      → ((y : ℕ) → count y xs ≤ 1) → Ascend given xs
  ascends [] up once = none_ascend
  ascends (x ∷ xs) up once =
      more_ascend (λ j there. comes_first x j (behind j there) (not_again j there))
      (ascends xs (λ i j d le l. up (suc i) (suc j) d (omega (arith, le)) (omega (arith, l)))
      (λ y. (let a = count_more y x xs in let b = once y in omega (arith, a, b))))
    where
      behind : (j : ℕ) → Contains xs j → is_lt (sibling_cmp labels j x) ≡ false
      behind j (k, l, e) = subst (λ n. is_lt (sibling_cmp labels n x) ≡ false) e (up 0 (suc k) j (omega arith) (omega (arith, l)))

      not_again : (j : ℕ) → Contains xs j → x ≢ j
      not_again j there same = (let a = count_more j x xs in let b = if_eq x j same in let c = once j in let d = counted j xs there in omega (arith, a, b, c, d))

  -- lists in order with the same members are the same
  pub one_order : (xs ys : List ℕ) → Ascend given xs → Ascend given ys → ((i : ℕ) → Contains xs i → Contains ys i) → ((i : ℕ) → Contains ys i → Contains xs i) → xs ≡ ys
  one_order [] [] a b there back = refl
  one_order [] (y ∷ ys) a b there back = absurd (nothing_stands y (back y (there_first y ys)))
  one_order (x ∷ xs) [] a b there back = absurd (nothing_stands x (there x (there_first x xs)))
  one_order (x ∷ xs) (y ∷ ys) (more_ascend less a) (more_ascend less' b) there back =
      ap (λ n. n ∷ xs) heads ∙ ap (λ l. y ∷ l) (one_order xs ys a b (λ i h. rest i x xs y ys heads less h (there i (there_later x i xs h))) (λ i h. rest i y ys x xs (sym heads) less' h (back i (there_later y i ys h))))
    where
      heads : x ≡ y
      heads = by (first_or y ys x (there x (there_first x xs))) (first_or x xs y (back y (there_first y ys)))
        where
          by : (y ≡ x) ⊎ Contains ys x → (x ≡ y) ⊎ Contains xs y → x ≡ y
          by (inl same) h = sym same
          by (inr l) (inl same) = same
          by (inr l) (inr m) = absurd (not_both x y (less y m) (less' x l))

      rest : (i x : ℕ) (xs : List ℕ) (y : ℕ) (ys : List ℕ) → x ≡ y → ((j : ℕ) → Contains xs j → comes_before given x j ≡ true) → Contains xs i → Contains (y ∷ ys) i → Contains ys i
      rest i x xs y ys same less h l = elim (first_or y ys i l) [
        | inr m ↦ m
        | inl e ↦ (let f : x ≡ i = same ∙ e in let before : comes_before given x x ≡ true = subst (λ n. comes_before given x n ≡ true) (sym f) (less i h) in absurd (not_both x x before before))
      ]

module _ (labels : List Label) (its : Items) (are : AreLabels labels its) (groups : Groups) (stands : StandOnce (length labels) groups) where
  at_most_once : (y g : ℕ) → count y (members_of groups g) ≤ 1
  at_most_once y g = elim (cases_lt y (length labels)) [
    | inl l ↦ (let a = in_all y g groups in let b = stands.once y l in omega (arith, a, b))
    | inr l ↦ (let a = in_all y g groups in let b = stands.no_other y l in omega (arith, a, b))
  ]

  within : (y g : ℕ) → Contains (members_of groups g) y → y < length labels
  within y g h = elim (cases_lt y (length labels)) [
    | inl l ↦ l
    | inr l ↦ (let a = in_all y g groups in let b = stands.no_other y l in let d = counted y (members_of groups g) h in absurd (omega (arith, a, b, d)))
  ]

  order_is_one : (g : ℕ) (xs ys : List ℕ) → Orders its.given (Contains (members_of groups g)) xs → AreInOrder labels groups g ys → xs ≡ ys
  order_is_one g xs ys o a =
      one_order its.given labels are.given xs ys o.ascend (ascends its.given labels are.given ys up (λ y. (let e = as_often y in let f = at_most_once y g in omega (arith, e, f))))
      (λ i h. contained i ys (let e = as_often i in let f = counted i (members_of groups g) (o.only i h) in omega (arith, e, f)))
      (λ i h. o.all i (contained i (members_of groups g) (let e = as_often i in let f = counted i ys h in omega (arith, e, f))))
    where
      lt : ℕ → ℕ → Bool
      lt x y = is_lt (sibling_cmp labels x y)

      is_order : IsStrictWeakOrder (λ x y. is_lt (sibling_cmp labels x y))
      is_order = ranks_by (then_total (on_total (is_given labels) bool_cmp_total) nat_cmp_total) (λ (x : ℕ). x)

      up : (i j d : ℕ) → i ≤ j → j < length ys → is_lt (sibling_cmp labels (get_or ys j d) (get_or ys i d)) ≡ false
      up = sorted_far (λ x y. is_lt (sibling_cmp labels x y)) is_order ys a.sorted

      as_often : (y : ℕ) → count y ys ≡ count y (members_of groups g)
      as_often y = sum_by-IsPermutation (λ i. one_if (i == y)) (members_of groups g) ys a.permutation

  tree_is : {owns : ℕ → Bool} {xs : List ℕ} {f : Forest} → Stand its groups owns xs f → (t : Tree) → Make labels groups xs t → f ≡ shown_by its t
  tree_is none_stand _ no_items = refl
  tree_is (not_a_node has no_node rest) _ (one_more {i = i} {below = below} {behind = behind} o m r) =
      tree_is rest behind r ∙ sym (ap (λ (b : Bool). if b then node (its.node_of i) (shown_by its below) (shown_by its behind) else shown_by its behind) no_node)
  tree_is (shown_node {i = i} {items = kids} {below = low} {behind = last} mine rest is_node s o B F) _ (one_more {items = items} {below = below} {behind = behind} p m r) =
      ap (λ b. node (its.node_of i) b last) (tree_is B below (subst (λ l. Make labels groups l below) (sym (order_is_one (i + 1) kids items o p)) m))
      ∙ (ap (λ b. node (its.node_of i) (shown_by its below) b) (tree_is F behind r)
      ∙ sym (ap (λ (b : Bool). if b then node (its.node_of i) (shown_by its below) (shown_by its behind) else shown_by its behind) is_node))

pub tree_shows : (labels : List Label) (its : Items) → AreLabels labels its → TreeShows labels its
tree_shows labels its are groups t f stands s is =
    tree_is labels its are groups stands s.stand t (subst (λ l. Make labels groups l t) (sym (order_is_one labels its are groups stands 0 s.items is.0 orders is.1)) is.2)
  where
    orders : Orders its.given (Contains (members_of groups 0)) s.items
    orders = record {
      ascend = s.orders.ascend;
      all = λ i h. s.orders.all i (h, (omega arith, within labels its are groups stands i 0 h));
      only = λ i h. (s.orders.only i h).0;
    }
