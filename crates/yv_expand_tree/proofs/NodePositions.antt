-- Where nodes stand in the list of what is left, by where their items stand in the final tree.
use Rattle.std.proofs.Common.{inl, inr, ◌⊎◌, ◌≡◌, ℕ, zero, suc, ◌+◌, ◌<◌, Bool, true, false, if◌then◌else◌, List, [], ◌∷◌, ◌++◌, length, length-append, Option, Some, None, refl, sym, ap, subst, ◌∙◌, arith}
use Rattle.std.specs.List.{slice_get}
use Rattle.std.proofs.lemmas.Option.{same_Some}
use Rattle.yv_expand_rounds.specs.Tree.{Tree, none, item, tree_list}
use Rattle.yv_expand_rounds.specs.declared.row.ItemRow.{ItemRow}
use Rattle.yv_expand_augments.specs.Remains.{remains}
use Rattle.yv_expand.specs.ItemLimit.{ParentsComeFirst}
use Rattle.yv_expand.specs.Tree as expansion
use Rattle.yv_expand.specs.Tree.{Forest, Node, count}
use Rattle.yv_expand.specs.declared.item.PlacedItem.{PlacedItem}
use Rattle.yv_expand_tree.specs.Remains.{nodes_of}

-- an element of two lists is one of the first, or one of the second behind all of the first
pub in_lists : {X : Type 0} (xs ys : List X) (i : ℕ) (x : X) → slice_get (xs ++ ys) i ≡ Some x
    → (slice_get xs i ≡ Some x) ⊎ ((k : ℕ) × (i ≡ length xs + k) × (slice_get ys k ≡ Some x))
in_lists [] ys i x at = inr (i, omega arith, at)
in_lists (y ∷ xs) ys zero x at = inl at
in_lists (y ∷ xs) ys (suc i) x at = elim (in_lists xs ys i x at) [ inl h ↦ inl h | inr h ↦ inr (h.0, omega (arith, h.1), h.2) ]

pub in_first : {X : Type 0} (xs ys : List X) (i : ℕ) (x : X) → slice_get xs i ≡ Some x → slice_get (xs ++ ys) i ≡ Some x
in_first [] ys i x at = absurd (let bad : None ≡ Some x = at in cc)
in_first (y ∷ xs) ys zero x at = at
in_first (y ∷ xs) ys (suc i) x at = in_first xs ys i x at

pub in_second : {X : Type 0} (xs ys : List X) (i k : ℕ) (x : X) → i ≡ length xs + k → slice_get ys k ≡ Some x → slice_get (xs ++ ys) i ≡ Some x
in_second [] ys i k x is at = ap (slice_get ys) (let e : i ≡ k = omega (arith, is) in e) ∙ at
in_second (y ∷ xs) ys zero k x is at = absurd (omega (arith, is))
in_second (y ∷ xs) ys (suc i) k x is at = in_second xs ys i k x (omega (arith, is)) at

pub listed_long : {A : Type 0} (parent : Option ℕ) (first : ℕ) (t : Forest A) → length (expansion.item_list parent first t) ≡ count t
listed_long parent first expansion.none = refl
listed_long {A} parent first (expansion.item origin below behind) =
    let inside : List (PlacedItem A) = expansion.item_list (Some first) (first + 1) below in
    let beside : List (PlacedItem A) = expansion.item_list parent (first + 1 + count below) behind in
    let a = listed_long (Some first) (first + 1) below in
    let b = listed_long parent (first + 1 + count below) behind in
    omega (arith, length-append inside beside, a, b)

-- the parent of an item is that of the whole list, or one before it
parent_before : {A : Type 0} (parent : Option ℕ) (first : ℕ) (t : Forest A) (i p : ℕ) (x : PlacedItem A) → slice_get (expansion.item_list parent first t) i ≡ Some x
    → x.parent ≡ Some p → (parent ≡ Some p) ⊎ (p < first + i)
parent_before parent first expansion.none i p x at up = absurd (let bad : None ≡ Some x = at in cc)
parent_before {A} parent first (expansion.item origin below behind) zero p x at up =
    inl (ap (λ (y : PlacedItem A). y.parent) (same_Some (record { origin = origin; parent = parent }) x at) ∙ up)
parent_before {A} parent first (expansion.item origin below behind) (suc i) p x at up =
    let inside : List (PlacedItem A) = expansion.item_list (Some first) (first + 1) below in
    let beside : List (PlacedItem A) = expansion.item_list parent (first + 1 + count below) behind in
    let long = listed_long (Some first) (first + 1) below in
    elim (in_lists inside beside i x at) [
      | inl h ↦ elim (parent_before (Some first) (first + 1) below i p x h up) [
        | inl same ↦ inr (let e : first ≡ p = same_Some first p same in omega (arith, e))
        | inr lt ↦ inr (omega (arith, lt))
      ]
      | inr h ↦ elim (parent_before parent (first + 1 + count below) behind h.0 p x h.2 up) [
        | inl same ↦ inl same
        | inr lt ↦ inr (let e = h.1 in omega (arith, lt, long, e))
      ]
    ]

pub parents_first : (t : expansion.Tree) (items : List expansion.Item) → items ≡ expansion.item_list None 0 t → ParentsComeFirst items
parents_first t items is i p x at up =
    elim (parent_before None 0 t i p x (ap (λ (xs : List expansion.Item). slice_get xs i) (sym is) ∙ at) up) [
      | inl bad ↦ absurd (let no : None ≡ Some p = bad in cc)
      | inr lt ↦ omega (arith, lt)
    ]

-- of each item of a tree with the number of the one above it this holds
module _ (P : Option ℕ → ℕ → Type 0) where
  abbrev pub Every : Option ℕ → Tree → Type 0
  Every parent none = Unit {0}
  Every parent (item i below behind) = P parent i × (Every (Some i) below × Every parent behind)

  pub every_row : (parent : Option ℕ) (depth : ℕ) (t : Tree) → ((k : ℕ) (row : ItemRow) → slice_get (tree_list parent depth t) k ≡ Some row → P row.parent row.number)
      → Every parent t
  every_row parent depth none all = tt
  every_row parent depth (item i below behind) all =
      let inside : List ItemRow = tree_list (Some i) (depth + 1) below in
      let beside : List ItemRow = tree_list parent depth behind in (
        all 0 (record { number = i; parent = parent; depth = depth }) refl,
        (
          every_row (Some i) (depth + 1) below (λ k row at. all (suc k) row (in_first inside beside k row at)),
          every_row parent depth behind (λ k row at. all (suc (length inside + k)) row (in_second inside beside (length inside + k) k row refl at)),
        ),
      )

  pub every_left : (is_kept : ℕ → Bool) (parent : Option ℕ) (t : Tree) → Every parent t → Every parent (remains is_kept t)
  every_left is_kept parent none all = tt
  every_left is_kept parent (item i below behind) all =
      by (is_kept i) (every_left is_kept (Some i) below all.1.0) (every_left is_kept parent behind all.1.1)
    where
      by : (b : Bool) → Every (Some i) (remains is_kept below) → Every parent (remains is_kept behind)
          → Every parent (if b then item i (remains is_kept below) (remains is_kept behind) else remains is_kept behind)
      by true inner outer = (all.0, (inner, outer))
      by false inner outer = outer

  -- a node stands at the top of a list, or below one of its nodes
  abbrev pub StandsBelow : (first : ℕ) → List Node → Node → Type 0
  StandsBelow first nodes x = (j : ℕ) × (above : Node) × (x.parent ≡ Some (first + j)) × (slice_get nodes j ≡ Some above) × P (Some above.origin) x.origin

  abbrev pub Stands : (parent up : Option ℕ) → (first : ℕ) → List Node → Node → Type 0
  Stands parent up first nodes x = ((x.parent ≡ up) × P parent x.origin) ⊎ StandsBelow first nodes x

  pub every_node : (parent up : Option ℕ) (first : ℕ) (t : Tree) → Every parent t → (k : ℕ) (x : Node)
      → slice_get (expansion.item_list up first (nodes_of t)) k ≡ Some x → Stands parent up first (expansion.item_list up first (nodes_of t)) x
  every_node parent up first none all k x at = absurd (let bad : None ≡ Some x = at in cc)
  every_node parent up first (item i below behind) all zero x at =
      let same : record { origin = i; parent = up } ≡ x = same_Some (record { origin = i; parent = up }) x at in
      inl (sym (ap (λ (y : Node). y.parent) same), subst (λ (y : Node). P parent y.origin) same all.0)
  every_node parent up first (item i below behind) all (suc k) x at =
      let inside : List Node = expansion.item_list (Some first) (first + 1) (nodes_of below) in
      let next : ℕ = first + 1 + count (nodes_of below) in
      let beside : List Node = expansion.item_list up next (nodes_of behind) in
      let here : Node = record { origin = i; parent = up } in
      let long = listed_long (Some first) (first + 1) (nodes_of below) in
      elim (in_lists inside beside k x at) [
        | inl h ↦ elim (every_node (Some i) (Some first) (first + 1) below all.1.0 k x h) [
          | inl top ↦ inr (0, here, top.0 ∙ ap (λ (n : ℕ). Some n) (omega arith), refl, top.1)
          | inr s ↦ inr (suc s.0, s.1, s.2 ∙ ap (λ (n : ℕ). Some n) (omega arith), in_first inside beside s.0 s.1 s.3, s.4)
        ]
        | inr h ↦ elim (every_node parent up next behind all.1.1 h.0 x h.2) [
          | inl top ↦ inl top
          | inr s ↦ inr (
            suc (length inside + s.0),
            s.1,
            s.2 ∙ ap (λ (n : ℕ). Some n) (omega (arith, long)),
            in_second inside beside (length inside + s.0) s.0 s.1 refl s.3,
            s.4,
          )
        ]
      ]
