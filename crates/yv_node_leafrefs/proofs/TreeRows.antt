-- Where the nodes of a schema tree stand among its rows.
use Rattle.std.proofs.Common.{◌≡◌, ℕ, zero, suc, ◌+◌, List, [], ◌∷◌, ◌++◌, length, length-append, refl, ◌∙◌, ap, arith, Some}
use Rattle.std.proofs.lemmas.Option.{get_or_from_slice_get, none-some}
use Rattle.std.specs.List.{slice_get, slice_index_or}
use Rattle.yv_nodes.specs.declared.node.NodeId.{NodeId}
use Rattle.yv_nodes.specs.Numbers.{numbers_from, rows_below, rows_from}
use Rattle.yv_nodes.specs.Rows.{root, Row}
use Rattle.yv_nodes.specs.Tree.{count, Forest, Label, no_trees, node, tree}

-- what is below each of the nodes of these trees, in the order of their numbers
abbrev pub kids_in : Forest → List Forest
kids_in no_trees = []
kids_in (tree (node l kids) ts) = kids ∷ kids_in kids ++ kids_in ts

-- what is below the node of a number
abbrev pub kids_of : Forest → ℕ → Forest
kids_of ts n = slice_index_or (kids_in ts) n no_trees

-- a node's row
abbrev pub row_of : NodeId → ℕ → Label → Forest → Row
row_of parent n l kids = record { label = l; parent = parent; children = numbers_from (n + 1) kids }

-- each node of these trees, the first of which has the number `first`, has its row among these, and
-- the trees below it
abbrev pub Stand : List Row → (ℕ → Forest) → (parent : NodeId) → (first : ℕ) → Forest → Type 0
Stand rows below parent first no_trees = Unit {0}
Stand rows below parent first (tree (node l kids) ts) =
    (slice_get rows first ≡ Some (row_of parent first l kids)) × (below first ≡ kids)
    × Stand rows below (record { 0 = first }) (first + 1) kids
    × Stand rows below parent (first + 1 + count kids) ts

in_front : {A : Type 0} (xs ys : List A) (k : ℕ) (x : A) → slice_get xs k ≡ Some x → slice_get (xs ++ ys) k ≡ Some x
in_front [] ys k x h = absurd (none-some x h)
in_front (y ∷ xs) ys zero x h = h
in_front (y ∷ xs) ys (suc k) x h = in_front xs ys k x h

behind : {A : Type 0} (xs ys : List A) (j k : ℕ) (x : A) → k ≡ length xs + j → slice_get ys j ≡ Some x → slice_get (xs ++ ys) k ≡ Some x
behind [] ys j k x e h = ap (slice_get ys) (let same : k ≡ j = omega (arith, e) in same) ∙ h
behind (y ∷ xs) ys j zero x e h = absurd (omega (arith, e))
behind (y ∷ xs) ys j (suc k) x e h = behind xs ys j k x (omega (arith, e)) h

pub rows_long : (parent : NodeId) (first : ℕ) (ts : Forest) → length (rows_below parent first ts) ≡ count ts
rows_long parent first no_trees = refl
rows_long parent first (tree (node l kids) ts) =
    let a = rows_long (record { 0 = first }) (first + 1) kids in
    let b = rows_long parent (first + 1 + count kids) ts in
    let both = length-append (rows_below (record { 0 = first }) (first + 1) kids) (rows_below parent (first + 1 + count kids) ts) in
    omega (arith, a, b, both)

kids_long : (ts : Forest) → length (kids_in ts) ≡ count ts
kids_long no_trees = refl
kids_long (tree (node l kids) ts) =
    let a = kids_long kids in
    let b = kids_long ts in
    let both = length-append (kids_in kids) (kids_in ts) in
    omega (arith, a, b, both)

module _ (rows : List Row) (below : ℕ → Forest) where
  -- their rows and what is below them stand here, from the number `first` on
  record Sit (parent : NodeId) (first : ℕ) (ts : Forest) : Type 0 where
    row : (k n : ℕ) (r : Row) → n ≡ first + k → slice_get (rows_below parent first ts) k ≡ Some r → slice_get rows n ≡ Some r
    kids : (k n : ℕ) (f : Forest) → n ≡ first + k → slice_get (kids_in ts) k ≡ Some f → below n ≡ f

  stand : (parent : NodeId) (first : ℕ) (ts : Forest) → Sit parent first ts → Stand rows below parent first ts
  stand parent first no_trees sit = tt
  stand parent first (tree (node l kids) ts) sit =
      let me : NodeId = record { 0 = first } in
      let inside : List Row = rows_below me (first + 1) kids in
      let beside : List Row = rows_below parent (first + 1 + count kids) ts in (
        sit.row 0 first (row_of parent first l kids) (omega arith) refl,
        sit.kids 0 first kids (omega arith) refl,
        stand me (first + 1) kids (
            record {
              row = λ k n r e h. sit.row (suc k) n r (omega (arith, e)) (in_front inside beside k r h);
              kids = λ k n f e h. sit.kids (suc k) n f (omega (arith, e)) (in_front (kids_in kids) (kids_in ts) k f h);
            }
            ),
        stand parent (first + 1 + count kids) ts (
            record {
              row = λ k n r e h. sit.row (suc (count kids + k)) n r (omega (arith, e))
                  (behind inside beside k (count kids + k) r (let long = rows_long me (first + 1) kids in omega (arith, long)) h);
              kids = λ k n f e h. sit.kids (suc (count kids + k)) n f (omega (arith, e))
                  (behind (kids_in kids) (kids_in ts) k (count kids + k) f (let long = kids_long kids in omega (arith, long)) h);
            }
            ),
      )

-- the nodes of a schema tree
pub stand_all : (ts : Forest) → Stand (rows_from 0 ts) (kids_of ts) root 0 ts
stand_all ts = stand (rows_from 0 ts) (kids_of ts) root 0 ts (
    record {
      row = λ k n r e h. ap (slice_get (rows_from 0 ts)) (let same : n ≡ k = omega (arith, e) in same) ∙ h;
      kids = λ k n f e h. ap (kids_of ts) (let same : n ≡ k = omega (arith, e) in same) ∙ get_or_from_slice_get (kids_in ts) k f no_trees h;
    }
    )
