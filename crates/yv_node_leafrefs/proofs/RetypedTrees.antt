-- Trees with other types, and their rows.
use Rattle.std.proofs.Common.{◌≡◌, ℕ, ◌+◌, ◌<◌, ◌≤◌, List, [], ◌∷◌, ◌++◌, length, length-append, Some, slice_get, slice_index_or, refl, sym, ap, ap₂, ◌∙◌, arith}
use Rattle.std.proofs.lemmas.Option.{slice_get-get_or, slice_get_within}
use Rattle.yv_values.specs.Types.{Plain}
use Rattle.yv_nodes.specs.declared.node.NodeId.{NodeId}
use Rattle.yv_nodes.specs.Numbers.{numbers_from, rows_below, rows_from}
use Rattle.yv_nodes.specs.Rows.{root, Row}
use Rattle.yv_nodes.specs.Tree.{count, Forest, no_trees, node, tree}
use Rattle.yv_node_leafrefs.specs.Schema.{AreAlike, Schema}
use Rattle.yv_node_leafrefs.specs.Targets.{HasTypesOf, own, along}
use Rattle.yv_nodes.specs.NodeTypes.{label_with_types, typed_from, typed_rows, types_at, types_from}
use Rattle.yv_node_leafrefs.specs.Resolution.{IsResolved, IsTyped, with_targets, with_refusal}
use Rattle.yv_node_leafrefs.proofs.Alike.{bad_alike, turned, types_alike}

rows_long : (parent : NodeId) (first : ℕ) (ts : Forest) → length (rows_below parent first ts) ≡ count ts
rows_long parent first no_trees = refl
rows_long parent first (tree (node l kids) ts) =
    let a = rows_long (record { 0 = first }) (first + 1) kids in
    let b = rows_long parent (first + 1 + count kids) ts in
    let both = length-append (rows_below (record { 0 = first }) (first + 1) kids) (rows_below parent (first + 1 + count kids) ts) in
    omega (arith, a, b, both)

same_types : (f g : ℕ → List Plain) (first : ℕ) (ts : Forest) → ((n : ℕ) → first ≤ n → n < first + count ts → f n ≡ g n) → typed_from f first ts ≡ typed_from g first ts
same_types f g first no_trees agree = refl
same_types f g first (tree (node l kids) ts) agree =
    ap (λ (types : List Plain). tree (node (label_with_types types l) (typed_from f (first + 1) kids)) (typed_from f (first + 1 + count kids) ts)) (agree first (omega arith) (omega arith))
    ∙ ap₂ (λ (a b : Forest). tree (node (label_with_types (g first) l) a) b)
    (same_types f g (first + 1) kids (λ n low high. agree n (omega (arith, low)) (omega (arith, high))))
    (same_types f g (first + 1 + count kids) ts (λ n low high. agree n (omega (arith, low)) (omega (arith, high))))

pub resolved_once : ((s : Schema) (n e f : ℕ) → HasTypesOf s n e → HasTypesOf s n f → e ≡ f) → (s t : Schema) (stated a b : Forest)
    → ((n : ℕ) → s.says n ≡ t.says n) → IsResolved s stated a → IsResolved t stated b → a ≡ b
resolved_once one s t stated a b says p q =
    let rows : t.rows ≡ s.rows = q.rows ∙ sym p.rows in
    let long : length s.rows ≡ count stated = ap length p.rows ∙ rows_long root 0 stated in
    p.is
    ∙ same_types (λ n. types_at s.rows (p.origin n)) (λ n. types_at t.rows (q.origin n)) 0 stated
    (λ n low high.
    let within : n < length s.rows = omega (arith, high, long) in
    let of_same : HasTypesOf s n (q.origin n) = types_alike t s n (q.origin n) (record { rows = rows; says = λ k. sym (says k) }) (q.each n (omega (arith, within, ap length rows))) in
    ap (types_at s.rows) (one s n (p.origin n) (q.origin n) (p.each n within) of_same) ∙ ap (λ (rs : List Row). types_at rs (q.origin n)) (sym rows))
    ∙ sym q.is

pub typed_once : ((s : Schema) (n e f : ℕ) → HasTypesOf s n e → HasTypesOf s n f → e ≡ f) → (s t : Schema) (stated a b : Forest)
    → AreAlike s t → IsTyped s stated a → IsTyped t stated b → a ≡ b
typed_once one s t stated a b alike (with_targets p q) (with_targets p' q') = resolved_once one s t stated a b alike.says q q'
typed_once one s t stated a b alike (with_targets p q) (with_refusal {f = f} bad) = absurd (p f (bad_alike t s f (turned s t alike) bad))
typed_once one s t stated a b alike (with_refusal {f = f} bad) (with_targets p q) = absurd (p f (bad_alike s t f alike bad))
typed_once one s t stated a b alike (with_refusal bad) (with_refusal other) = refl

module _ (types : ℕ → List Plain) where
  count_typed : (first : ℕ) (ts : Forest) → count (typed_from types first ts) ≡ count ts
  count_typed first no_trees = refl
  count_typed first (tree (node l kids) ts) =
      let a = count_typed (first + 1) kids in
      let b = count_typed (first + 1 + count kids) ts in
      omega (arith, a, b)

  numbers_typed : (first : ℕ) (ts : Forest) → numbers_from first (typed_from types first ts) ≡ numbers_from first ts
  numbers_typed first no_trees = refl
  numbers_typed first (tree (node l kids) ts) =
      ap (λ n. record { 0 = first } ∷ numbers_from (first + 1 + n) (typed_from types (first + 1 + count kids) ts)) (count_typed (first + 1) kids)
      ∙ ap (λ (ns : List NodeId). record { 0 = first } ∷ ns) (numbers_typed (first + 1 + count kids) ts)

  rows_joined : (first n : ℕ) (xs ys : List Row) → n ≡ length xs → typed_rows types first (xs ++ ys) ≡ typed_rows types first xs ++ typed_rows types (first + n) ys
  rows_joined first n [] ys long = ap (λ m. typed_rows types m ys) (omega (arith, long))
  rows_joined first n (x ∷ xs) ys long =
      ap (λ (rs : List Row). record { label = label_with_types (types first) x.label; parent = x.parent; children = x.children } ∷ rs)
      (rows_joined (first + 1) (length xs) xs ys refl ∙ ap (λ m. typed_rows types (first + 1) xs ++ typed_rows types m ys) (omega (arith, long)))

  typed_below : (parent : NodeId) (first : ℕ) (ts : Forest) → rows_below parent first (typed_from types first ts) ≡ typed_rows types first (rows_below parent first ts)
  typed_below parent first no_trees = refl
  typed_below parent first (tree (node l kids) ts) =
      let me : NodeId = record { 0 = first } in
      let inside : List Row = rows_below me (first + 1) kids in
      let beside : List Row = rows_below parent (first + 1 + count kids) ts in
      let others : Forest = typed_from types (first + 1 + count kids) ts in
      ap (λ (ns : List NodeId). record { label = label_with_types (types first) l; parent = parent; children = ns }
      ∷ rows_below me (first + 1) (typed_from types (first + 1) kids) ++ rows_below parent (first + 1 + count (typed_from types (first + 1) kids)) others)
      (numbers_typed (first + 1) kids)
      ∙ ap (λ (rs : List Row). record { label = label_with_types (types first) l; parent = parent; children = numbers_from (first + 1) kids } ∷ rs)
      (ap (λ n. rows_below me (first + 1) (typed_from types (first + 1) kids) ++ rows_below parent (first + 1 + n) others) (count_typed (first + 1) kids)
      ∙ ap₂ (λ (xs ys : List Row). xs ++ ys) (typed_below me (first + 1) kids) (typed_below parent (first + 1 + count kids) ts)
      ∙ sym (rows_joined (first + 1) (count kids) inside beside (sym (rows_long me (first + 1) kids))))

  pub rows_typed : (ts : Forest) → rows_from 0 (typed_from types 0 ts) ≡ typed_rows types 0 (rows_from 0 ts)
  rows_typed ts = typed_below root 0 ts

-- by the nodes whose types the others have
pub resolved_by : (s : Schema) (stated : Forest) (origins : List NodeId) → length origins ≡ length s.rows
    → ((n : ℕ) (e : NodeId) → slice_get origins n ≡ Some e → HasTypesOf s n e.0) → s.rows ≡ rows_from 0 stated
    → IsResolved s stated (typed_from (types_from s.rows origins) 0 stated)
resolved_by s stated origins long has rows = record {
  rows = rows;
  origin = λ n. (slice_index_or origins n root).0;
  each = λ n within. has n (slice_index_or origins n root) (slice_get-get_or origins n root (omega (arith, within, long)));
  is = refl;
}

-- its rows
pub rows_by : (rows : List Row) (stated : Forest) (origins : List NodeId) → rows ≡ rows_from 0 stated
    → typed_rows (types_from rows origins) 0 rows ≡ rows_from 0 (typed_from (types_from rows origins) 0 stated)
rows_by rows stated origins are =
    ap (typed_rows (types_from rows origins) 0) are ∙ sym (rows_typed (types_from rows origins) stated)

-- the node whose types a node has is one of them
pub origin_within : (s : Schema) (n e : ℕ) → HasTypesOf s n e → n < length s.rows → e < length s.rows
origin_within s n e (own none) within = within
origin_within s n e (along {target = x} refers rest) within = origin_within s x e rest (slice_get_within s.rows x refers.found refers.at)

pub tops_typed : (types : ℕ → List Plain) (ts : Forest) → numbers_from 0 (typed_from types 0 ts) ≡ numbers_from 0 ts
tops_typed types ts = numbers_typed types 0 ts
