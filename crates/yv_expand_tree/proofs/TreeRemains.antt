-- What is left of a tree: each item once, and no uses.
use Rattle.std.proofs.Common.{inl, inr, ◌≡◌, ℕ, zero, suc, ◌+◌, ◌&&◌, ◌⊎◌, not, Bool, true, false, if◌then◌else◌, List, [], ◌∷◌, ◌++◌, map, length, Some, None, refl, sym, ap, subst, ◌∙◌, arith}
use Rattle.std.specs.List.{slice_get}
use Rattle.std.specs.Option.{option_map}
use Rattle.std.proofs.lemmas.Bool.{false≢true}
use Rattle.std.proofs.lemmas.List.{length-append}
use Rattle.std.proofs.lemmas.Option.{same_Some, slice_get-map}
use Rattle.yv_expand.specs.Tree as expansion
use Rattle.yv_expand.specs.Tree.{Item, Node, Nodes, count}
use Rattle.yv_expand_rounds.specs.Tree.{Tree, none, item, tree_list}
use Rattle.yv_expand_rounds.specs.declared.row.ItemRow.{ItemRow}
use Rattle.yv_expand_statements.specs.Kinds.{is_uses}
use Rattle.yv_expand_uses.specs.Kinds.{kind_of}
use Rattle.yv_expand_augments.specs.Remains.{is_left, is_some_uses, remains}
use Rattle.yv_base_graph.specs.Marks.{is_marked}
use Rattle.yv_expand_uses.specs.Spots.{LayoutView, Whole, layout_of, laid_from, one_more, spot_of}
use Rattle.yv_expand_uses.specs.declared.spot.Spot.{Spot}
use Rattle.yv_expand_tree.specs.Remains.{nodes_of}
use Rattle.yv_expand_tree.proofs.Numbering.{among_first, among_second, apart_once, AreOnce, both_once, by_place, either, first_once, IsIn, nodes_numbers, numbers, one_place, rows_numbers, second_once}
use Rattle.yv_expand_tree.proofs.NodePositions.{in_lists}

-- what is left are items of the tree, each is kept, and each stands there once
left_in : (keep : ℕ → Bool) (t : Tree) (n : ℕ) → IsIn n (numbers (remains keep t)) → IsIn n (numbers t) × (keep n ≡ true)
left_in keep none n (k, at) = absurd (let bad : None ≡ Some n = at in cc)
left_in keep (item i below behind) n there =
    by (keep i) refl (left_in keep below n) (left_in keep behind n) there
  where
    All : Type 0
    All = IsIn n (i ∷ (numbers below ++ numbers behind)) × (keep n ≡ true)

    wider : IsIn n (numbers below ++ numbers behind) → IsIn n (i ∷ (numbers below ++ numbers behind))
    wider h = (suc h.0, h.1)

    by : (b : Bool) → keep i ≡ b → (IsIn n (numbers (remains keep below)) → IsIn n (numbers below) × (keep n ≡ true))
        → (IsIn n (numbers (remains keep behind)) → IsIn n (numbers behind) × (keep n ≡ true))
        → IsIn n (numbers (if b then item i (remains keep below) (remains keep behind) else remains keep behind))
        → IsIn n (i ∷ (numbers below ++ numbers behind)) × (keep n ≡ true)
    by false e inner outer there = let h = outer there in (wider (among_second n (numbers below) (numbers behind) h.0), h.1)
    by true e inner outer (zero, at) = let same : i ≡ n = same_Some i n at in ((0, at), subst (λ m. keep m ≡ true) same e)
    by true e inner outer (suc k, at) = elim (either n (numbers (remains keep below)) (numbers (remains keep behind)) (k, at)) [
      | inl h ↦ (let g = inner h in (wider (among_first n (numbers below) (numbers behind) g.0), g.1))
      | inr h ↦ (let g = outer h in (wider (among_second n (numbers below) (numbers behind) g.0), g.1))
    ]

left_once : (keep : ℕ → Bool) (t : Tree) → AreOnce (numbers t) → AreOnce (numbers (remains keep t))
left_once keep none p = tt
left_once keep (item i below behind) p =
    by (keep i) (left_once keep below (first_once (numbers below) (numbers behind) p.1)) (left_once keep behind (second_once (numbers below) (numbers behind) p.1))
  where
    by : (b : Bool) → AreOnce (numbers (remains keep below)) → AreOnce (numbers (remains keep behind))
        → AreOnce (numbers (if b then item i (remains keep below) (remains keep behind) else remains keep behind))
    by false inner outer = outer
    by true inner outer = (
      (λ there. elim (either i (numbers (remains keep below)) (numbers (remains keep behind)) there) [
        | inl h ↦ p.0 (among_first i (numbers below) (numbers behind) (left_in keep below i h).0)
        | inr h ↦ p.0 (among_second i (numbers below) (numbers behind) (left_in keep behind i h).0)
      ]),
      both_once (numbers (remains keep below)) (numbers (remains keep behind)) inner outer
          (λ n a b. apart_once (numbers below) (numbers behind) p.1 n (left_in keep below n a).0 (left_in keep behind n b).0),
    )

abbrev RowsOnce : Tree → Type 0
RowsOnce t = (i k : ℕ) (a b : ItemRow) → slice_get (tree_list None 1 t) i ≡ Some a → slice_get (tree_list None 1 t) k ≡ Some b → a.number ≡ b.number → i ≡ k

number_at : {A : Type 0} (f : A → ℕ) (xs : List A) (ns : List ℕ) (k : ℕ) (x : A) → map f xs ≡ ns → slice_get xs k ≡ Some x → slice_get ns k ≡ Some (f x)
number_at f xs ns k x is at = ap (λ l. slice_get l k) (sym is) ∙ slice_get-map f xs k ∙ ap (option_map f) at

at_number : {A : Type 0} (f : A → ℕ) (xs : List A) (k n : ℕ) → slice_get (map f xs) k ≡ Some n → (x : A) × (slice_get xs k ≡ Some x) × (f x ≡ n)
at_number f [] k n at = absurd (let bad : None ≡ Some n = at in cc)
at_number f (x ∷ xs) zero n at = (x, refl, same_Some (f x) n at)
at_number f (x ∷ xs) (suc k) n at = at_number f xs k n at

tree_once : (t : Tree) → RowsOnce t → AreOnce (numbers t)
tree_once t one = by_place (numbers t) (λ i k n at at'.
    let a = at_number (λ (r : ItemRow). r.number) (tree_list None 1 t) i n (ap (λ l. slice_get l i) (rows_numbers None 1 t) ∙ at) in
    let b = at_number (λ (r : ItemRow). r.number) (tree_list None 1 t) k n (ap (λ l. slice_get l k) (rows_numbers None 1 t) ∙ at') in
    one i k a.0 b.0 a.1 b.1 (a.2 ∙ sym b.2))

pub no_node_twice : (keep : ℕ → Bool) (t : Tree) → RowsOnce t → (i k : ℕ) (x y : Node) → slice_get (expansion.item_list None 0 (nodes_of (remains keep t))) i ≡ Some x
    → slice_get (expansion.item_list None 0 (nodes_of (remains keep t))) k ≡ Some y → x.origin ≡ y.origin → i ≡ k
no_node_twice keep t one i k x y at at' same =
    let u : Tree = remains keep t in
    let all : List Node = expansion.item_list None 0 (nodes_of u) in
    let is = nodes_numbers None 0 u in
    one_place (numbers u) (left_once keep t (tree_once t one)) i k x.origin (number_at (λ (z : Node). z.origin) all _ i x is at)
    (number_at (λ (z : Node). z.origin) all _ k y is at' ∙ ap (λ n. Some n) (sym same))

pub node_kept : (keep : ℕ → Bool) (t : Tree) (k : ℕ) (x : Node) → slice_get (expansion.item_list None 0 (nodes_of (remains keep t))) k ≡ Some x → keep x.origin ≡ true
node_kept keep t k x at =
    let u : Tree = remains keep t in
    (left_in keep t x.origin (k, number_at (λ (z : Node). z.origin) (expansion.item_list None 0 (nodes_of u)) _ k x (nodes_numbers None 0 u) at)).1

-- what is known of a spot is known of its item
module _ (w : Whole) where
  from_items : (items : List Item) (l : LayoutView) (i : ℕ) (s : Spot) → slice_get (laid_from w items l).spots i ≡ Some s
      → (slice_get l.spots i ≡ Some s) ⊎ ((j : ℕ) × (x : Item) × (i ≡ length l.spots + j) × (slice_get items j ≡ Some x) × (s.label.kind ≡ kind_of w.rows x.origin))
  from_items [] l i s at = inl at
  from_items (x ∷ xs) l i s at =
      let new : Spot = spot_of w l.spots l.copies x in
      let long = length-append l.spots (new ∷ []) in
      elim (from_items xs (one_more w x l) i s at) [
        | inl h ↦ elim (in_lists l.spots (new ∷ []) i s h) [
          | inl old ↦ inl old
          | inr g ↦ inr (0, x, last g.0 g.1 g.2, refl, kind g.0 g.2)
        ]
        | inr h ↦ inr (suc h.0, h.1, (let e = h.2 in omega (arith, e, long)), h.3, h.4)
      ]
    where
      last : (k : ℕ) → i ≡ length l.spots + k → slice_get (spot_of w l.spots l.copies x ∷ []) k ≡ Some s → i ≡ length l.spots + 0
      last zero e h = e
      last (suc k) e h = absurd (let bad : None ≡ Some s = h in cc)

      kind : (k : ℕ) → slice_get (spot_of w l.spots l.copies x ∷ []) k ≡ Some s → s.label.kind ≡ kind_of w.rows x.origin
      kind zero h = sym (ap (λ (q : Spot). q.label.kind) (same_Some (spot_of w l.spots l.copies x) s h))
      kind (suc k) h = absurd (let bad : None ≡ Some s = h in cc)

  pub spot_item : (items : List Item) (i : ℕ) (s : Spot) → slice_get (layout_of w items).spots i ≡ Some s
      → (x : Item) × (slice_get items i ≡ Some x) × (s.label.kind ≡ kind_of w.rows x.origin)
  unfolding layout_of
  spot_item items i s at = elim (from_items items (record { spots = []; copies = length w.augments }) i s at) [
    | inl h ↦ absurd (let bad : None ≡ Some s = h in cc)
    | inr h ↦ (h.1, subst (λ k. slice_get items k ≡ Some h.1) (let e = h.2 in omega (arith, e)) h.3, h.4)
  ]

-- what is left is no uses
pub left_kind : (spots : List Spot) (marks : List Bool) (i : ℕ) (s : Spot) → is_left spots marks i ≡ true → slice_get spots i ≡ Some s → is_uses s.label.kind ≡ false
left_kind spots marks i s kept at = by (is_marked marks i) (is_uses s.label.kind) (ap (λ o. is_marked marks i && not (is_some_uses o)) (sym at) ∙ kept)
  where
    by : (a b : Bool) → (a && not b) ≡ true → b ≡ false
    by true false h = refl
    by true true h = absurd (false≢true h)
    by false b h = absurd (false≢true h)
