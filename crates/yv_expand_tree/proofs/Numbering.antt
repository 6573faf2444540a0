-- The numbers of a tree's items, and lists in which no number stands twice.
use Rattle.std.proofs.Common.{inl, inr, ◌≡◌, ℕ, zero, suc, ◌+◌, ◌⊎◌, List, [], ◌∷◌, ◌++◌, map, length, Option, Some, None, refl, sym, ap, ap₂, subst, ◌∙◌, arith}
use Rattle.std.specs.List.{slice_get}
use Rattle.std.proofs.lemmas.List.{map-append}
use Rattle.std.proofs.lemmas.Option.{same_Some}
use Rattle.yv_expand.specs.Tree as expansion
use Rattle.yv_expand.specs.Tree.{Node, count}
use Rattle.yv_expand_rounds.specs.Tree.{Tree, none, item, tree_list}
use Rattle.yv_expand_rounds.specs.declared.row.ItemRow.{ItemRow}
use Rattle.yv_expand_tree.specs.Remains.{nodes_of}
use Rattle.yv_expand_tree.proofs.NodePositions.{in_first, in_lists, in_second}

abbrev pub IsIn : ℕ → List ℕ → Type 0
IsIn n xs = (k : ℕ) × (slice_get xs k ≡ Some n)

-- no number stands twice
abbrev pub AreOnce : List ℕ → Type 0
AreOnce [] = Unit {0}
AreOnce (x ∷ xs) = (IsIn x xs → ⊥) × AreOnce xs

pub either : (n : ℕ) (xs ys : List ℕ) → IsIn n (xs ++ ys) → IsIn n xs ⊎ IsIn n ys
either n xs ys (k, at) = elim (in_lists xs ys k n at) [ inl h ↦ inl (k, h) | inr h ↦ inr (h.0, h.2) ]

pub among_first : (n : ℕ) (xs ys : List ℕ) → IsIn n xs → IsIn n (xs ++ ys)
among_first n xs ys (k, at) = (k, in_first xs ys k n at)

pub among_second : (n : ℕ) (xs ys : List ℕ) → IsIn n ys → IsIn n (xs ++ ys)
among_second n xs ys (k, at) = (length xs + k, in_second xs ys (length xs + k) k n refl at)

pub both_once : (xs ys : List ℕ) → AreOnce xs → AreOnce ys → ((n : ℕ) → IsIn n xs → IsIn n ys → ⊥) → AreOnce (xs ++ ys)
both_once [] ys p q apart = q
both_once (x ∷ xs) ys p q apart = (
  (λ there. elim (either x xs ys there) [ inl h ↦ p.0 h | inr h ↦ apart x (0, refl) h ]),
  both_once xs ys p.1 q (λ n a b. apart n (suc a.0, a.1) b),
)

pub first_once : (xs ys : List ℕ) → AreOnce (xs ++ ys) → AreOnce xs
first_once [] ys p = tt
first_once (x ∷ xs) ys p = ((λ h. p.0 (among_first x xs ys h)), first_once xs ys p.1)

pub second_once : (xs ys : List ℕ) → AreOnce (xs ++ ys) → AreOnce ys
second_once [] ys p = p
second_once (x ∷ xs) ys p = second_once xs ys p.1

pub apart_once : (xs ys : List ℕ) → AreOnce (xs ++ ys) → (n : ℕ) → IsIn n xs → IsIn n ys → ⊥
apart_once [] ys p n (k, at) b = absurd (let bad : None ≡ Some n = at in cc)
apart_once (x ∷ xs) ys p n (zero, at) b = p.0 (among_second x xs ys (subst (λ m. IsIn m ys) (sym (same_Some x n at)) b))
apart_once (x ∷ xs) ys p n (suc k, at) b = apart_once xs ys p.1 n (k, at) b

pub one_place : (xs : List ℕ) → AreOnce xs → (i k n : ℕ) → slice_get xs i ≡ Some n → slice_get xs k ≡ Some n → i ≡ k
one_place [] p i k n at at' = absurd (let bad : None ≡ Some n = at in cc)
one_place (x ∷ xs) p zero zero n at at' = refl
one_place (x ∷ xs) p zero (suc k) n at at' = absurd (p.0 (k, at' ∙ ap (λ m. Some m) (sym (same_Some x n at))))
one_place (x ∷ xs) p (suc i) zero n at at' = absurd (p.0 (i, at ∙ ap (λ m. Some m) (sym (same_Some x n at'))))
one_place (x ∷ xs) p (suc i) (suc k) n at at' = ap suc (one_place xs p.1 i k n at at')

pub by_place : (xs : List ℕ) → ((i k n : ℕ) → slice_get xs i ≡ Some n → slice_get xs k ≡ Some n → i ≡ k) → AreOnce xs
by_place [] one = tt
by_place (x ∷ xs) one = (
  (λ there. let bad : 0 ≡ suc there.0 = one 0 (suc there.0) x refl there.1 in absurd (omega (arith, bad))),
  by_place xs (λ i k n at at'. let same : suc i ≡ suc k = one (suc i) (suc k) n at at' in omega (arith, same)),
)

-- the numbers of a tree's items, in order
abbrev pub numbers : Tree → List ℕ
numbers none = []
numbers (item i below behind) = i ∷ (numbers below ++ numbers behind)

pub rows_numbers : (parent : Option ℕ) (depth : ℕ) (t : Tree) → map (λ (r : ItemRow). r.number) (tree_list parent depth t) ≡ numbers t
rows_numbers parent depth none = refl
rows_numbers parent depth (item i below behind) =
    ap (λ ns. i ∷ ns)
    (map-append (λ (r : ItemRow). r.number) (tree_list (Some i) (depth + 1) below) (tree_list parent depth behind)
    ∙ ap₂ (λ ms ns. ms ++ ns) (rows_numbers (Some i) (depth + 1) below) (rows_numbers parent depth behind))

pub nodes_numbers : (up : Option ℕ) (first : ℕ) (t : Tree) → map (λ (x : Node). x.origin) (expansion.item_list up first (nodes_of t)) ≡ numbers t
nodes_numbers up first none = refl
nodes_numbers up first (item i below behind) =
    ap (λ ns. i ∷ ns)
    (map-append (λ (x : Node). x.origin) (expansion.item_list (Some first) (first + 1) (nodes_of below)) (expansion.item_list up (first + 1 + count (nodes_of below)) (nodes_of behind))
    ∙ ap₂ (λ ms ns. ms ++ ns) (nodes_numbers (Some first) (first + 1) below) (nodes_numbers up (first + 1 + count (nodes_of below)) behind))
