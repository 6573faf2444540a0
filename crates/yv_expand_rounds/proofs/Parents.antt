-- In a list of a tree each item stands behind its parent.
use Rattle.std.proofs.Common.{◌⊎◌, inl, inr, ◌≡◌, ℕ, zero, suc, ◌+◌, List, [], ◌∷◌, ◌++◌, length, refl, sym, ◌∙◌, ap, subst, arith, Option, Some, None}
use Rattle.std.specs.List.{slice_get}
use Rattle.std.proofs.lemmas.Option.{same_Some}
use Rattle.yv_expand_rounds.specs.declared.label.Label.{Label}
use Rattle.yv_expand_rounds.specs.declared.row.ItemRow.{ItemRow}
use Rattle.yv_expand_rounds.specs.Groups.{Groups}
use Rattle.yv_expand_rounds.specs.Tree.{Tree, none, item, tree_list, AreRows, StandsBelow, StandsInTree}

-- where an element of two lists stands
pub data Side {A : Type 0} (xs ys : List A) (x : A) : ℕ → Type 0 where
  front : {k : ℕ} → slice_get xs k ≡ Some x → Side xs ys x k
  back : {k : ℕ} (j : ℕ) → k ≡ length xs + j → slice_get ys j ≡ Some x → Side xs ys x k

pub side : {A : Type 0} (xs ys : List A) (x : A) (k : ℕ) → slice_get (xs ++ ys) k ≡ Some x → Side xs ys x k
side [] ys x k at = back k (omega arith) at
side (z ∷ xs) ys x zero at = front at
side (z ∷ xs) ys x (suc k) at = elim (side xs ys x k at) [ front h ↦ front h | back j e h ↦ back j (omega (arith, e)) h ]

pub get_front : {A : Type 0} (xs ys : List A) (x : A) (k : ℕ) → slice_get xs k ≡ Some x → slice_get (xs ++ ys) k ≡ Some x
get_front [] ys x k at = absurd (let bad : None ≡ Some x = at in cc)
get_front (z ∷ xs) ys x zero at = at
get_front (z ∷ xs) ys x (suc k) at = get_front xs ys x k at

get_back : {A : Type 0} (xs ys : List A) (x : A) (k j : ℕ) → k ≡ length xs + j → slice_get ys j ≡ Some x → slice_get (xs ++ ys) k ≡ Some x
get_back [] ys x k j e at = ap (slice_get ys) (let z : k ≡ j = omega (arith, e) in z) ∙ at
get_back (z ∷ xs) ys x zero j e at = absurd (omega (arith, e))
get_back (z ∷ xs) ys x (suc k) j e at = get_back xs ys x k j (omega (arith, e)) at

-- a row stands among those of one parent, or behind its own
abbrev Stands : Option ℕ → (depth : ℕ) → List ItemRow → (k : ℕ) → ItemRow → Type 0
Stands parent depth rows k w = ((w.parent ≡ parent) × (w.depth ≡ depth)) ⊎ StandsBelow rows k w

moved_front : (r : ItemRow) (xs ys : List ItemRow) (k : ℕ) (w : ItemRow) → StandsBelow xs k w → StandsBelow (r ∷ (xs ++ ys)) (suc k) w
moved_front r xs ys k w s = record {
  above = s.above;
  place = suc s.place;
  before = (let l = s.before in omega (arith, l));
  at = get_front xs ys s.above s.place s.at;
  parent = s.parent;
  depth = s.depth;
}

moved_back : (r : ItemRow) (xs ys : List ItemRow) (k j : ℕ) (w : ItemRow) → k ≡ length xs + j → StandsBelow ys j w → StandsBelow (r ∷ (xs ++ ys)) (suc k) w
moved_back r xs ys k j w e s = record {
  above = s.above;
  place = suc (length xs + s.place);
  before = (let l = s.before in omega (arith, l, e));
  at = get_back xs ys s.above (length xs + s.place) s.place refl s.at;
  parent = s.parent;
  depth = s.depth;
}

stands : (parent : Option ℕ) (depth : ℕ) (t : Tree) (k : ℕ) (w : ItemRow) → slice_get (tree_list parent depth t) k ≡ Some w → Stands parent depth (tree_list parent depth t) k w
stands parent depth none k w at = absurd (let bad : None ≡ Some w = at in cc)
stands parent depth (item i below behind) zero w at =
    let r : ItemRow = record { number = i; parent = parent; depth = depth } in
    let e : r ≡ w = same_Some r w at in
    inl (ap (λ (x : ItemRow). x.parent) (sym e), ap (λ (x : ItemRow). x.depth) (sym e))
stands parent depth (item i below behind) (suc k) w at =
    let r : ItemRow = record { number = i; parent = parent; depth = depth } in
    let xs : List ItemRow = tree_list (Some i) (depth + 1) below in
    let ys : List ItemRow = tree_list parent depth behind in
    elim (side xs ys w k at) [
      | front h ↦ elim (stands (Some i) (depth + 1) below k w h) [
        | inl (p, d) ↦ inr (record { above = r; place = 0; before = omega arith; at = refl; parent = p; depth = d })
        | inr s ↦ inr (moved_front r xs ys k w s)
      ]
      | back j e h ↦ elim (stands parent depth behind j w h) [
        | inl same ↦ inl same
        | inr s ↦ inr (moved_back r xs ys k j w e s)
      ]
    ]

pub parents_first : (labels : List Label) (groups : Groups) (rows : List ItemRow) (k : ℕ) (w : ItemRow) → AreRows labels groups rows → slice_get rows k ≡ Some w → StandsInTree rows k w
parents_first labels groups rows k w are at =
    let all : Stands None 1 (tree_list None 1 are.tree) k w = stands None 1 are.tree k w (ap (λ l. slice_get l k) (sym are.rows_are) ∙ at) in
    subst (λ l. StandsInTree l k w) (sym are.rows_are) all
