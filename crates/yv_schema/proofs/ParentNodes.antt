-- The nodes above those that are left.
use Rattle.std.proofs.Common.{◌≡◌, ℕ, zero, suc, ◌+◌, ◌<◌, ◌⊎◌, inl, inr, List, [], ◌∷◌, ◌++◌, length, get_or, map, refl, sym, ap, ◌∙◌, subst, arith, length-append, Option, Some, None}
use Rattle.std.specs.List.{slice_get}
use Rattle.std.specs.Option.{option_map}
use Rattle.std.proofs.lemmas.List.{length-map, map-append}
use Rattle.std.proofs.lemmas.Option.{get_or_from_slice_get, slice_get-map}
use Rattle.yv_expand.specs.Tree as items
use Rattle.yv_expand.specs.Tree.{Node}
use Rattle.yv_nodes.specs.declared.node.NodeId.{NodeId}
use Rattle.yv_nodes.specs.Numbers.{rows_below, rows_from}
use Rattle.yv_nodes.specs.Rows.{Row}
use Rattle.yv_nodes.specs.Tree.{count, Label}
use Rattle.yv_schema.specs.InnerRows.{IsWithin, number_at, parent_of}
use Rattle.yv_schema.specs.InnerBasis.{NumberedBasis, label_at, with_labels, stated_of, nodes_in}
use Rattle.yv_schema.proofs.SchemaTreeRows.{count_labelled, within_more}

-- what stands in one list behind another stands in one of them
pub in_one : {X : Type 0} (xs ys : List X) (k : ℕ) (x : X) → slice_get (xs ++ ys) k ≡ Some x → (slice_get xs k ≡ Some x) ⊎ ((j : ℕ) × (k ≡ length xs + j) × (slice_get ys j ≡ Some x))
in_one [] ys k x at = inr (k, omega arith, at)
in_one (y ∷ xs) ys zero x at = inl at
in_one (y ∷ xs) ys (suc k) x at = elim (in_one xs ys k x at) [
  | inl here ↦ inl here
  | inr there ↦ inr (there.0, omega (arith, there.1), there.2)
]

-- what stands at a place of a list that was made of another
pub made_at : {X Y : Type 0} (f : X → Y) (xs : List X) (k : ℕ) (y : Y) → slice_get (map f xs) k ≡ Some y → (x : X) × (slice_get xs k ≡ Some x) × (f x ≡ y)
made_at f [] k y at = cc
made_at f (x ∷ xs) zero y at = let same : f x ≡ y = cc in (x, refl, same)
made_at f (x ∷ xs) (suc k) y at = made_at f xs k y at

pub length_listed : (parent : Option ℕ) (first : ℕ) (t : items.Nodes) → length (items.item_list parent first t) ≡ items.count t
length_listed parent first items.none = refl
length_listed parent first (items.item number below behind) =
    omega (
      arith,
      length-append (items.item_list (Some first) (first + 1) below) (items.item_list parent (first + 1 + items.count below) behind),
      length_listed (Some first) (first + 1) below,
      length_listed parent (first + 1 + items.count below) behind,
    )

-- the node above each stands before it
pub before_each : (parent : Option ℕ) (first : ℕ) (t : items.Nodes) → IsWithin parent first → (k : ℕ) (x : Node) → slice_get (items.item_list parent first t) k ≡ Some x → IsWithin x.parent (first + k)
before_each parent first items.none within k x at = cc
before_each parent first (items.item number below behind) within zero x at =
    let same : parent ≡ x.parent = cc in subst (λ (p : Option ℕ). IsWithin p (first + 0)) same (within_more parent first (first + 0) (omega arith) within)
before_each parent first (items.item number below behind) within (suc k) x at =
    let inside : List Node = items.item_list (Some first) (first + 1) below in
    elim (in_one inside (items.item_list parent (first + 1 + items.count below) behind) k x at) [
      | inl here ↦ within_more x.parent (first + 1 + k) (first + suc k) (omega arith) (before_each (Some first) (first + 1) below (omega arith) k x here)
      | inr there ↦
          within_more x.parent (first + 1 + items.count below + there.0) (first + suc k) (omega (arith, there.1, length_listed (Some first) (first + 1) below))
          (before_each parent (first + 1 + items.count below) behind (within_more parent first (first + 1 + items.count below) (omega arith) within) there.0 x there.2)
    ]

module _ (b : NumberedBasis) where
  pub parent_first : (k : ℕ) (x : Node) (p : ℕ) → slice_get (nodes_in b) k ≡ Some x → x.parent ≡ Some p → p < k
  parent_first k x p at is =
      let within : IsWithin (Some p) (0 + k) = subst (λ (o : Option ℕ). IsWithin o (0 + k)) is (before_each None 0 b.nodes tt k x at) in
      omega (arith, within)

  -- the parents of the rows of a schema tree are those of its nodes
  row_parents : (parent : Option ℕ) (first : ℕ) (above : List Label) (t : items.Nodes)
      → map (λ (r : Row). r.parent) (rows_below (parent_of parent) first (with_labels b above t)) ≡ map (λ (x : Node). parent_of x.parent) (items.item_list parent first t)
  row_parents parent first above items.none = refl
  row_parents parent first above (items.item number below behind) =
      let line : List Label = label_at b above number ∷ above in
      let inner : List Row = rows_below (number_at first) (first + 1) (with_labels b line below) in
      let second : ℕ = first + 1 + items.count below in
      let place : first + 1 + count (with_labels b line below) ≡ second = omega (arith, count_labelled b line below) in
      ap (λ (ps : List NodeId). parent_of parent ∷ ps)
      (map-append (λ (r : Row). r.parent) inner (rows_below (parent_of parent) (first + 1 + count (with_labels b line below)) (with_labels b above behind))
      ∙ ap (λ (n : ℕ). map (λ (r : Row). r.parent) inner ++ map (λ (r : Row). r.parent) (rows_below (parent_of parent) n (with_labels b above behind))) place
      ∙ ap (λ (ps : List NodeId). ps ++ map (λ (r : Row). r.parent) (rows_below (parent_of parent) second (with_labels b above behind))) (row_parents (Some first) (first + 1) line below)
      ∙ ap (λ (ps : List NodeId). map (λ (x : Node). parent_of x.parent) (items.item_list (Some first) (first + 1) below) ++ ps) (row_parents parent second above behind)
      ∙ sym (map-append (λ (x : Node). parent_of x.parent) (items.item_list (Some first) (first + 1) below) (items.item_list parent second behind)))

  pub count_rows : (rows : List Row) → rows ≡ rows_from 0 (stated_of b) → length rows ≡ length (nodes_in b)
  count_rows rows are =
      sym (length-map rows (λ (r : Row). r.parent))
      ∙ ap (λ (rs : List Row). length (map (λ (r : Row). r.parent) rs)) are
      ∙ ap length (row_parents None 0 [] b.nodes)
      ∙ length-map (nodes_in b) (λ (x : Node). parent_of x.parent)

  pub row_parent : (rows : List Row) (k : ℕ) (x : Node) (d : Row) → rows ≡ rows_from 0 (stated_of b) → slice_get (nodes_in b) k ≡ Some x → (get_or rows k d).parent ≡ parent_of x.parent
  row_parent rows k x d are at =
      let there : slice_get (map (λ (r : Row). r.parent) rows) k ≡ Some (parent_of x.parent) =
      ap (λ (rs : List Row). slice_get (map (λ (r : Row). r.parent) rs) k) are ∙ ap (λ (ps : List NodeId). slice_get ps k) (row_parents None 0 [] b.nodes)
      ∙ slice_get-map (λ (x : Node). parent_of x.parent) (nodes_in b) k ∙ ap (option_map (λ (x : Node). parent_of x.parent)) at in
      let found = made_at (λ (r : Row). r.parent) rows k (parent_of x.parent) there in
      ap (λ (r : Row). r.parent) (get_or_from_slice_get rows k found.0 d found.1) ∙ found.2
