-- A tree has no item twice where each stands once in groups.
use Rattle.std.proofs.Common.{inl, inr, ◌≡◌, ◌≢◌, ℕ, zero, suc, ◌+◌, ◌≤◌, ◌<◌, ◌==◌, Bool, if◌then◌else◌, List, [], ◌∷◌, ◌++◌, set, map, length, refl, sym, ap, ap₂, ◌∙◌, subst, arith, eq-eqb, length-append, Option, Some, None}
use Rattle.std.specs.List.{count_by, slice_get}
use Rattle.std.specs.List.Sorted.{IsPermutation}
use Rattle.std.proofs.lemmas.Bool.{cases_eq, cases_lt, ne_eqb}
use Rattle.std.proofs.lemmas.List.{get_or-set_other}
use Rattle.std.proofs.lemmas.List.Sums.{sum_by-append}
use Rattle.std.proofs.lemmas.List.Sorted.{sum_by-IsPermutation}
use Rattle.std.proofs.lemmas.List.{map-append}
use Rattle.std.proofs.lemmas.Option.{same_Some, slice_get-map}
use Rattle.std.specs.Option.{option_map}
use Rattle.yv_expand_rounds.specs.declared.label.Label.{Label}
use Rattle.yv_expand_rounds.specs.declared.row.ItemRow.{ItemRow}
use Rattle.yv_expand_rounds.specs.Groups.{Groups, IsIn, members_of, times}
use Rattle.yv_expand_rounds.specs.Placements.{StandOnce}
use Rattle.yv_expand_rounds.specs.Tree.{Tree, none, item, AreInOrder, IsTree, Make, no_items, one_more, group_under, tree_list}
use Rattle.yv_expand_rounds.proofs.Parents.{back, front, side}
use Rattle.yv_expand_rounds.proofs.GroupRemoval.{sum_taken}

abbrev one_if : Bool → ℕ
one_if b = if b then 1 else 0

-- how often a number stands in a list
abbrev count : ℕ → List ℕ → ℕ
count y xs = count_by (λ i. i == y) xs

count_more : (y x : ℕ) (xs : List ℕ) → count y (x ∷ xs) ≡ one_if (x == y) + count y xs
count_more y x xs = (let e : count y (x ∷ xs) ≡ 0 + one_if (x == y) + count y xs = sum_by-append (λ i. one_if (i == y)) (x ∷ []) xs in omega (arith, e))

count_both : (y : ℕ) (xs ys : List ℕ) → count y (xs ++ ys) ≡ count y xs + count y ys
count_both y xs ys = sum_by-append (λ i. one_if (i == y)) xs ys

one_same : (y : ℕ) → one_if (y == y) ≡ 1
one_same y = ap one_if (eq-eqb y y refl)

one_other : (x y : ℕ) → x ≢ y → one_if (x == y) ≡ 0
one_other x y ne = ap one_if (ne_eqb x y ne)

-- a group that is emptied
taken : (y g : ℕ) (groups : Groups) → times y (set groups g []) + count y (members_of groups g) ≡ times y groups
taken y g groups = sum_taken (λ ms. count y ms) groups g refl

ordered : (labels : List Label) (groups : Groups) (g : ℕ) (items : List ℕ) (y : ℕ) → AreInOrder labels groups g items → count y items ≡ count y (members_of groups g)
ordered labels groups g items y o = sum_by-IsPermutation (λ i. one_if (i == y)) (members_of groups g) items o.permutation

abbrev emptied : Groups → ℕ → Groups
emptied groups g = set groups g []

in_order_still : (labels : List Label) (groups : Groups) (g h : ℕ) (items : List ℕ) → h ≢ g → AreInOrder labels groups h items → AreInOrder labels (emptied groups g) h items
in_order_still labels groups g h items ne o =
    let same : members_of (emptied groups g) h ≡ members_of groups h = get_or-set_other groups g h [] [] ne in
    record { permutation = subst (λ ms. IsPermutation ms items) (sym same) o.permutation; sorted = o.sorted }

-- an item is in none of these groups, or once
count_times : (y g : ℕ) (groups : Groups) → count y (members_of groups g) ≤ times y groups
count_times y g groups = (let e = taken y g groups in omega (arith, e))

-- an item that stands in no group stands nowhere below: what is below it may be taken out
unopened : (labels : List Label) (groups : Groups) (i : ℕ) → times i groups ≡ 0 → (items : List ℕ) (t : Tree) → count i items ≡ 0 → Make labels groups items t
    → Make labels (emptied groups (i + 1)) items t
unopened labels groups i nowhere [] none absent no_items = no_items
unopened labels groups i nowhere [] (item j' below behind) absent m = elim m [ ]
unopened labels groups i nowhere (j ∷ others) none absent m = elim m [ ]
unopened labels groups i nowhere (j ∷ others) (item j' below behind) absent (one_more {items = inner} o m r) =
    let more = count_more i j others in
    let rest : count i others ≡ 0 = omega (arith, more, absent) in
    let apart : j + 1 ≢ i + 1 = λ e. (
    let same : j ≡ i = omega (arith, e) in
    let one : one_if (j == i) ≡ 1 = ap one_if (eq-eqb j i same) in
    omega (arith, more, absent, one)) in
    let least = count_times i (j + 1) groups in
    let here : count i inner ≡ 0 = (let e = ordered labels groups (j + 1) inner i o in omega (arith, e, least, nowhere)) in
    one_more (in_order_still labels groups (i + 1) (j + 1) inner apart o) (unopened labels groups i nowhere inner below here m)
    (unopened labels groups i nowhere others behind rest r)

-- the items of a tree, one by one
abbrev numbers : Tree → List ℕ
numbers none = []
numbers (item i below behind) = i ∷ (numbers below ++ numbers behind)

-- groups without the items of a tree: trees of other items are as before
record Consumed (labels : List Label) (groups : Groups) (items : List ℕ) (t : Tree) : Type 0 where
  left : Groups
  each : (y : ℕ) → count y (numbers t) + times y left ≡ count y items + times y groups
  others : (more : List ℕ) (u : Tree) → ((y : ℕ) → count y more + (count y items + times y groups) ≤ 1) → Make labels groups more u → Make labels left more u

consumed : (labels : List Label) (t : Tree) (groups : Groups) (items : List ℕ) → ((y : ℕ) → count y items + times y groups ≤ 1) → Make labels groups items t → Consumed labels groups items t
consumed labels none groups [] once no_items = record { left = groups; each = λ y. refl; others = λ more u h m. m }
consumed labels none groups (i ∷ rest) once m = elim m [ ]
consumed labels (item i' below behind) groups [] once m = elim m [ ]
consumed labels (item i' below behind) groups (i ∷ rest) once (one_more {items = inner} o m r) =
    let first : Groups = emptied groups (i + 1) in
    let here : (y : ℕ) → count y inner + times y first ≡ times y groups = λ y. (
    let a = taken y (i + 1) groups in
    let b = ordered labels groups (i + 1) inner y o in
    omega (arith, a, b)) in
    let at_i : count i (i ∷ rest) + times i groups ≤ 1 = once i in
    let mine : count i (i ∷ rest) ≡ one_if (i == i) + count i rest = count_more i i rest in
    let one : one_if (i == i) ≡ 1 = one_same i in
    let nowhere : times i groups ≡ 0 = omega (arith, at_i, mine, one) in
    let apart : count i rest ≡ 0 = omega (arith, at_i, mine, one) in
    let inside : count i inner ≡ 0 = (let a = here i in omega (arith, a, nowhere)) in
    let b : Consumed labels first inner below = consumed labels below first inner
    (λ y. (let a = here y in let l = once y in omega (arith, a, l))) (unopened labels groups i nowhere inner below inside m) in
    let later : (y : ℕ) → count y rest + (count y inner + times y first) ≤ 1 = λ y. (
    let a = here y in
    let l = once y in
    let c = count_more y i rest in
    omega (arith, a, l, c)) in
    let next : Make labels b.left rest behind = b.others rest behind later (unopened labels groups i nowhere rest behind apart r) in
    let fewer : (y : ℕ) → times y b.left ≤ times y groups = λ y. (let e = b.each y in let a = here y in omega (arith, e, a)) in
    let o : Consumed labels b.left rest behind = consumed labels behind b.left rest
    (λ y. (let f = fewer y in let l = once y in let c = count_more y i rest in omega (arith, f, l, c))) next in
    record {
      left = o.left;
      each = λ y. (
          let c = count_more y i (numbers below ++ numbers behind) in
          let s = count_both y (numbers below) (numbers behind) in
          let d = count_more y i rest in
          let p = b.each y in
          let q = o.each y in
          let a = here y in
          omega (arith, c, s, d, p, q, a));
      others = λ more u h made. (
          let at : count i more + (count i (i ∷ rest) + times i groups) ≤ 1 = h i in
          let none_more : count i more ≡ 0 = omega (arith, at, mine, one) in
          o.others more u
          (λ y. (let f = fewer y in let l = h y in let c = count_more y i rest in omega (arith, f, l, c)))
          (b.others more u
          (λ y. (let a = here y in let l = h y in omega (arith, a, l)))
          (unopened labels groups i nowhere more u none_more made)));
    }

-- the top is no group below an item
top_taken : (labels : List Label) (groups : Groups) (items : List ℕ) (t : Tree) → Make labels groups items t → Make labels (emptied groups 0) items t
top_taken labels groups [] none no_items = no_items
top_taken labels groups [] (item j' below behind) m = elim m [ ]
top_taken labels groups (j ∷ others) none m = elim m [ ]
top_taken labels groups (j ∷ others) (item j' below behind) (one_more {items = inner} o m r) =
    one_more (in_order_still labels groups 0 (j + 1) inner (λ e. omega (arith, e)) o) (top_taken labels groups inner below m) (top_taken labels groups others behind r)

-- each item stands in the tree no more often than in groups
no_more : (labels : List Label) (groups : Groups) (t : Tree) → IsTree labels groups t → ((y : ℕ) → times y groups ≤ 1) → (y : ℕ) → count y (numbers t) ≤ times y groups
no_more labels groups t is once y =
    let items : List ℕ = is.0 in
    let here : (z : ℕ) → count z items + times z (emptied groups 0) ≡ times z groups = λ z. (
    let a = taken z 0 groups in
    let b = ordered labels groups 0 items z is.1 in
    omega (arith, a, b)) in
    let all : Consumed labels (emptied groups 0) items t = consumed labels t (emptied groups 0) items
    (λ z. (let a = here z in let l = once z in omega (arith, a, l))) (top_taken labels groups items t is.2) in
    let e = all.each y in
    let a = here y in
    omega (arith, e, a)

-- how often the first numbers stand in a list
abbrev total : ℕ → List ℕ → ℕ
total zero xs = 0
total (suc n) xs = total n xs + count n xs

total_none : (n : ℕ) → total n [] ≡ 0
total_none zero = refl
total_none (suc n) = (let e = total_none n in omega (arith, e))

total_past : (n x : ℕ) (xs : List ℕ) → n ≤ x → total n (x ∷ xs) ≡ total n xs
total_past zero x xs le = refl
total_past (suc n) x xs le =
    let e = total_past n x xs (omega (arith, le)) in
    let c = count_more n x xs in
    let o = one_other x n (λ same. omega (arith, same, le)) in
    omega (arith, e, c, o)

total_more : (n x : ℕ) (xs : List ℕ) → x < n → total n (x ∷ xs) ≡ 1 + total n xs
total_more zero x xs lt = absurd (omega (arith, lt))
total_more (suc n) x xs lt =
    let c = count_more n x xs in
    elim (cases_eq x n) [
      | inl same ↦
          let e = total_past n x xs (omega (arith, same)) in
          let o : one_if (x == n) ≡ 1 = ap one_if (eq-eqb x n same) in
          omega (arith, e, c, o)
      | inr other ↦
          let e = total_more n x xs (omega (arith, lt, other)) in
          let o = one_other x n other in
          omega (arith, e, c, o)
    ]

total_all : (n : ℕ) (xs : List ℕ) → ((y : ℕ) → n ≤ y → count y xs ≡ 0) → total n xs ≡ length xs
total_all n [] h = total_none n
total_all n (x ∷ xs) h =
    let rest : total n xs ≡ length xs = total_all n xs (λ y le. (let a = h y le in let c = count_more y x xs in omega (arith, a, c))) in
    elim (cases_lt x n) [
      | inl lt ↦ (let e = total_more n x xs lt in omega (arith, e, rest))
      | inr le ↦ absurd (let a = h x le in let c = count_more x x xs in let o = one_same x in omega (arith, a, c, o))
    ]

total_few : (n : ℕ) (xs : List ℕ) → ((y : ℕ) → count y xs ≤ 1) → total n xs ≤ n
total_few zero xs h = omega arith
total_few (suc n) xs h = (let e = total_few n xs h in let c = h n in omega (arith, e, c))

listed_long : (parent : Option ℕ) (depth : ℕ) (t : Tree) → length (tree_list parent depth t) ≡ length (numbers t)
listed_long parent depth none = refl
listed_long parent depth (item i below behind) =
    let inner : List ItemRow = tree_list (Some i) (depth + 1) below in
    let outer : List ItemRow = tree_list parent depth behind in
    let a = length-append inner outer in
    let b = length-append (numbers below) (numbers behind) in
    let p = listed_long (Some i) (depth + 1) below in
    let q = listed_long parent depth behind in
    omega (arith, a, b, p, q)

at_most_once : (items : ℕ) (groups : Groups) → StandOnce items groups → (y : ℕ) → times y groups ≤ 1
at_most_once items groups s y = elim (cases_lt y items) [
  | inl lt ↦ (let e = s.once y lt in omega (arith, e))
  | inr le ↦ (let e = s.no_other y le in omega (arith, e))
]

pub no_item_twice : (labels : List Label) (groups : Groups) (items : ℕ) (t : Tree) → IsTree labels groups t → StandOnce items groups → length (tree_list None 1 t) ≤ items
no_item_twice labels groups items t is s =
    let once : (y : ℕ) → times y groups ≤ 1 = at_most_once items groups s in
    let few : (y : ℕ) → count y (numbers t) ≤ times y groups = no_more labels groups t is once in
    let long = listed_long None 1 t in
    let all = total_all items (numbers t) (λ y le. (let e = s.no_other y le in let f = few y in omega (arith, e, f))) in
    let up = total_few items (numbers t) (λ y. (let o = once y in let f = few y in omega (arith, o, f))) in
    omega (arith, long, all, up)

-- each item of a tree stands in the group of the one above it
stand_in : (labels : List Label) (groups : Groups) (parent : Option ℕ) (depth : ℕ) (items : List ℕ) (t : Tree) (k : ℕ) (w : ItemRow) → Make labels groups items t
    → ((y : ℕ) → count y items ≤ count y (members_of groups (group_under parent))) → slice_get (tree_list parent depth t) k ≡ Some w
    → IsIn w.number (group_under w.parent) groups
stand_in labels groups parent depth [] none k w no_items all at = absurd (let bad : None ≡ Some w = at in cc)
stand_in labels groups parent depth [] (item i' below behind) k w m all at = elim m [ ]
stand_in labels groups parent depth (i ∷ rest) none k w m all at = elim m [ ]
stand_in labels groups parent depth (i ∷ rest) (item i' below behind) zero w (one_more {items = inner} o m r) all at =
    let x : ItemRow = record { number = i; parent = parent; depth = depth } in
    let same : x ≡ w = same_Some x w at in
    let here : IsIn i (group_under parent) groups = (let a = all i in let c = count_more i i rest in let e = one_same i in omega (arith, a, c, e)) in
    subst (λ (z : ItemRow). IsIn z.number (group_under z.parent) groups) same here
stand_in labels groups parent depth (i ∷ rest) (item i' below behind) (suc k) w (one_more {items = inner} o m r) all at =
    elim (side (tree_list (Some i) (depth + 1) below) (tree_list parent depth behind) w k at) [
      | front h ↦ stand_in labels groups (Some i) (depth + 1) inner below k w m (λ y. (let e = ordered labels groups (i + 1) inner y o in omega (arith, e))) h
      | back j e h ↦ stand_in labels groups parent depth rest behind j w r (λ y. (let a = all y in let c = count_more y i rest in omega (arith, a, c))) h
    ]

pub row_in : (labels : List Label) (groups : Groups) (k : ℕ) (row : ItemRow) (t : Tree) → IsTree labels groups t → slice_get (tree_list None 1 t) k ≡ Some row
    → IsIn row.number (group_under row.parent) groups
row_in labels groups k row t is at = stand_in labels groups None 1 is.0 t k row is.2 (λ y. (let e = ordered labels groups 0 is.0 y is.1 in omega (arith, e))) at

pub row_within : (labels : List Label) (groups : Groups) (items k : ℕ) (row : ItemRow) (t : Tree) → IsTree labels groups t → StandOnce items groups → slice_get (tree_list None 1 t) k ≡ Some row
    → row.number < items
row_within labels groups items k row t is s at = elim (cases_lt row.number items) [
  | inl lt ↦ lt
  | inr le ↦
      let e = s.no_other row.number le in
      let here : 0 < count row.number (members_of groups (group_under row.parent)) = row_in labels groups k row t is at in
      let least = count_times row.number (group_under row.parent) groups in
      absurd (omega (arith, e, here, least))
]

pub one_group : (groups : Groups) (items i g h : ℕ) → StandOnce items groups → IsIn i g groups → IsIn i h groups → g ≡ h
one_group groups items i g h s p q = elim (cases_eq g h) [
  | inl same ↦ same
  | inr other ↦
      let once = at_most_once items groups s i in
      let e = taken i g groups in
      let there : members_of (emptied groups g) h ≡ members_of groups h = get_or-set_other groups g h [] [] (λ z. other (sym z)) in
      let more = count_times i h (emptied groups g) in
      let still : count i (members_of (emptied groups g) h) ≡ count i (members_of groups h) = ap (count i) there in
      let first : 0 < count i (members_of groups g) = p in
      let second : 0 < count i (members_of groups h) = q in
      absurd (omega (arith, once, e, more, still, first, second))
]

-- the numbers of the rows of a tree
numbers_listed : (parent : Option ℕ) (depth : ℕ) (t : Tree) → map (λ (r : ItemRow). r.number) (tree_list parent depth t) ≡ numbers t
numbers_listed parent depth none = refl
numbers_listed parent depth (item i below behind) =
    ap (λ ns. i ∷ ns)
    (map-append (λ (r : ItemRow). r.number) (tree_list (Some i) (depth + 1) below) (tree_list parent depth behind)
    ∙ ap₂ (λ ms ns. ms ++ ns) (numbers_listed (Some i) (depth + 1) below) (numbers_listed parent depth behind))

there_once : (xs : List ℕ) (k n : ℕ) → slice_get xs k ≡ Some n → 0 < count n xs
there_once [] k n at = absurd (let bad : None ≡ Some n = at in cc)
there_once (x ∷ xs) zero n at =
    let same : x ≡ n = same_Some x n at in
    let c = count_more n x xs in
    let o : one_if (x == n) ≡ 1 = ap one_if (eq-eqb x n same) in
    omega (arith, c, o)
there_once (x ∷ xs) (suc k) n at = (let e = there_once xs k n at in let c = count_more n x xs in omega (arith, e, c))

one_place : (xs : List ℕ) → ((y : ℕ) → count y xs ≤ 1) → (i k n : ℕ) → slice_get xs i ≡ Some n → slice_get xs k ≡ Some n → i ≡ k
one_place [] once i k n at at' = absurd (let bad : None ≡ Some n = at in cc)
one_place (x ∷ xs) once zero zero n at at' = refl
one_place (x ∷ xs) once zero (suc k) n at at' =
    let c = count_more n x xs in
    let o : one_if (x == n) ≡ 1 = ap one_if (eq-eqb x n (same_Some x n at)) in
    let e = there_once xs k n at' in
    let l = once n in
    absurd (omega (arith, c, o, e, l))
one_place (x ∷ xs) once (suc i) zero n at at' =
    let c = count_more n x xs in
    let o : one_if (x == n) ≡ 1 = ap one_if (eq-eqb x n (same_Some x n at')) in
    let e = there_once xs i n at in
    let l = once n in
    absurd (omega (arith, c, o, e, l))
one_place (x ∷ xs) once (suc i) (suc k) n at at' =
    ap suc (one_place xs (λ y. (let l = once y in let c = count_more y x xs in omega (arith, l, c))) i k n at at')

pub one_row : (labels : List Label) (groups : Groups) (items i k : ℕ) (a b : ItemRow) (t : Tree) → IsTree labels groups t → StandOnce items groups → slice_get (tree_list None 1 t) i ≡ Some a
    → slice_get (tree_list None 1 t) k ≡ Some b → a.number ≡ b.number → i ≡ k
one_row labels groups items i k a b t is s at at' same =
    one_place (numbers t) (λ y. (let o = at_most_once items groups s y in let f = no_more labels groups t is (at_most_once items groups s) y in omega (arith, o, f)))
    i k a.number (number_at i a at) (number_at k b at' ∙ ap (λ n. Some n) (sym same))
  where
    number_at : (j : ℕ) (r : ItemRow) → slice_get (tree_list None 1 t) j ≡ Some r → slice_get (numbers t) j ≡ Some r.number
    number_at j r here =
        ap (λ ns. slice_get ns j) (sym (numbers_listed None 1 t)) ∙ slice_get-map (λ (q : ItemRow). q.number) (tree_list None 1 t) j
        ∙ ap (option_map (λ (q : ItemRow). q.number)) here
