-- The rows of a schema have the labels of its trees.
use Rattle.std.proofs.Common.{◌≡◌, ℕ, zero, suc, ◌+◌, List, [], ◌∷◌, ◌++◌, length, slice_index_or, refl, sym, ap, ◌∙◌, append_assoc, arith}
use Rattle.yv_nodes.specs.declared.node.NodeId.{NodeId}
use Rattle.yv_nodes.specs.Numbers.{numbers_from, rows_below, rows_from}
use Rattle.yv_nodes.specs.Rows.{blank_row, Row, root, row_at, Rows, whole}
use Rattle.yv_nodes.specs.Tree.{count, node, Forest, no_trees, tree}

abbrev pub AreRows : Rows → ℕ → Forest → Type 0
AreRows s first no_trees = Unit {0}
AreRows s first (tree (node l kids) ts) = ((row_at s (record { 0 = first })).label ≡ l) × AreRows s (first + 1) kids × AreRows s (first + 1 + count kids) ts

row_behind : (xs ys : List Row) (y : Row) (a : ℕ) → length xs ≡ a → slice_index_or (xs ++ y ∷ ys) a blank_row ≡ y
row_behind [] ys y zero e = refl
row_behind [] ys y (suc a) e = absurd (omega (arith, e))
row_behind (x ∷ xs) ys y zero e = absurd (omega (arith, e))
row_behind (x ∷ xs) ys y (suc a) e = row_behind xs ys y a (omega (arith, e))

both_length : (xs ys : List Row) (a b : ℕ) → length xs ≡ a → length ys ≡ b → length (xs ++ ys) ≡ a + b
both_length [] ys a b e f = omega (arith, e, f)
both_length (x ∷ xs) ys a b e f = omega (arith, e, both_length xs ys (length xs) b refl f)

rows_length : (parent : NodeId) (first : ℕ) (ts : Forest) → length (rows_below parent first ts) ≡ count ts
rows_length parent first no_trees = refl
rows_length parent first (tree (node l kids) ts) =
    omega (
      arith,
      both_length (rows_below (record { 0 = first }) (first + 1) kids) (rows_below parent (first + 1 + count kids) ts) (count kids) (count ts)
          (rows_length (record { 0 = first }) (first + 1) kids) (rows_length parent (first + 1 + count kids) ts),
    )

rows_at : (s : Rows) (parent : NodeId) (first : ℕ) (ts : Forest) (before after : List Row) → s.nodes ≡ before ++ (rows_below parent first ts ++ after) → length before ≡ first → AreRows s first ts
rows_at s parent first no_trees before after e f = tt
rows_at s parent first (tree (node l kids) ts) before after e f =
    let own : Row = record { label = l; parent = parent; children = numbers_from (first + 1) kids } in
    let below : List Row = rows_below (record { 0 = first }) (first + 1) kids in
    let behind : List Row = rows_below parent (first + 1 + count kids) ts in
    let inner : s.nodes ≡ (before ++ own ∷ []) ++ (below ++ (behind ++ after)) =
    e ∙ ap (λ xs. before ++ own ∷ xs) (append_assoc below behind after) ∙ sym (append_assoc before (own ∷ []) (below ++ (behind ++ after))) in
    let longer : length (before ++ own ∷ []) ≡ first + 1 = both_length before (own ∷ []) first 1 f refl in (
      ap (λ xs. (slice_index_or xs first blank_row).label) e ∙ ap (λ (r : Row). r.label) (row_behind before ((below ++ behind) ++ after) own first f),
      rows_at s (record { 0 = first }) (first + 1) kids (before ++ own ∷ []) (behind ++ after) inner longer,
      rows_at s parent (first + 1 + count kids) ts ((before ++ own ∷ []) ++ below) after (inner ∙ sym (append_assoc (before ++ own ∷ []) below (behind ++ after)))
          (both_length (before ++ own ∷ []) below (first + 1) (count kids) longer (rows_length (record { 0 = first }) (first + 1) kids)),
    )

nothing_behind : (xs : List Row) → xs ≡ xs ++ []
nothing_behind [] = refl
nothing_behind (x ∷ xs) = ap (λ ys. x ∷ ys) (nothing_behind xs)

pub all_rows : (s : Rows) → s.nodes ≡ rows_from 0 (whole s) → AreRows s 0 (whole s)
all_rows s e = rows_at s root 0 (whole s) [] [] (e ∙ nothing_behind (rows_from 0 (whole s))) refl
