-- Trees whose rows stand among others are those that their numbers pick.
use Rattle.std.proofs.Common.{◌≡◌, ℕ, suc, ◌+◌, ◌-◌, ◌<◌, ◌≤◌, List, [], ◌∷◌, ◌++◌, length, get_or, drop, drop-cons, add-one, refl, sym, ap, ◌∙◌, subst, arith, append_assoc, append-nil, length-append, Bool, true, false, not, cond}
use Rattle.std.proofs.lemmas.Bool.{false≢true}
use Rattle.std.specs.List.{slice_index_or}
use Rattle.std.proofs.Math.Seq.{get_or-append_seam}
use Rattle.yv_node_content.specs.declared.kind.NodeKind.{NodeKind}
use Rattle.yv_node_content.specs.declared.kind.NodeKind.TheVariants as kind
use Rattle.yv_node_content.specs.Kinds.{is_case, is_data, is_passed}
use Rattle.yv_nodes.specs.declared.node.NodeId.{NodeId}
use Rattle.yv_nodes.specs.Tree.{count, Forest, Label, Tree, no_trees, node, tree}
use Rattle.yv_nodes.specs.Numbers.{numbers_from, rows_below, rows_from}
use Rattle.yv_nodes.specs.Rows.{Row, blank_row, pick, root, trees_from}
use Rattle.yv_schema_tables.specs.DataChildren.{opened_from}
use Rattle.yv_schema_tables.specs.InnerSits.{HaveTrees, Sits, inner_of, inside_of, pick_trees, start_of, told_from, told_of}
use Rattle.yv_schema_tables.proofs.Numbers.{all_trees, length_rows, pick_all, trees_rows}

-- there is room for all of them
pub room_of : (rows : List Row) (at : ℕ) (ts : Forest) → Sits rows at ts → at + count ts ≤ length rows
room_of rows at ts h =
    omega (arith, ap length h.split, h.before, length-append (h.front ++ rows_below h.parent at ts) h.back, length-append h.front (rows_below h.parent at ts), length_rows h.parent at ts)

module _ (rows : List Row) (at : ℕ) (l : Label) (kids ts : Forest) (h : Sits rows at (tree (node l kids) ts)) where
  abbrev own : Row
  own = record { label = l; parent = h.parent; children = numbers_from (at + 1) kids }

  abbrev inner : List Row
  inner = rows_below (record { 0 = at }) (at + 1) kids

  abbrev others : List Row
  others = rows_below h.parent (at + 1 + count kids) ts

  -- the row of the first tree
  pub row_first : get_or rows at blank_row ≡ record { label = l; parent = h.parent; children = numbers_from (at + 1) kids }
  row_first =
      let flat : rows ≡ h.front ++ own ∷ (inner ++ others ++ h.back) = h.split ∙ simp append_assoc in
      ap (λ (rs : List Row). get_or rs at blank_row) flat
      ∙ ap (λ (n : ℕ). get_or (h.front ++ own ∷ (inner ++ others ++ h.back)) n blank_row) (sym h.before)
      ∙ get_or-append_seam h.front own (inner ++ others ++ h.back) blank_row

  -- the rows below it
  pub kids_sit : Sits rows (at + 1) kids
  kids_sit = record {
    parent = record { 0 = at };
    front = h.front ++ own ∷ [];
    back = others ++ h.back;
    split = h.split ∙ simp append_assoc;
    before = omega (arith, h.before, length-append h.front (own ∷ []));
  }

  -- the rows of the other trees
  pub others_sit : Sits rows (at + 1 + count kids) ts
  others_sit = record {
    parent = h.parent;
    front = h.front ++ own ∷ inner;
    back = h.back;
    split = h.split ∙ simp append_assoc;
    before = omega (arith, h.before, length-append h.front (own ∷ inner), length_rows (record { 0 = at }) (at + 1) kids);
  }

  -- their parents
  pub kids_parent : kids_sit.parent ≡ record { 0 = at }
  unfolding kids_sit
  kids_parent = refl

  pub others_parent : others_sit.parent ≡ h.parent
  unfolding others_sit
  others_parent = refl

-- all rows of the trees
pub all_sit : (ts : Forest) → Sits (rows_from 0 ts) 0 ts
all_sit ts = record { parent = root; front = []; back = []; split = sym (append-nil (rows_from 0 ts)); before = refl }

-- the trees of rows, the first ones and those of the others
record AreBehind (first : ℕ) (front rest : List Row) : Type 0 where
  trees : List Tree
  many : length trees ≡ length front
  are : trees_from first (front ++ rest) ≡ trees ++ trees_from (first + length front) rest

behind : (first : ℕ) (front rest : List Row) → AreBehind first front rest
behind first [] rest = record { trees = []; many = refl; are = ap (λ (n : ℕ). trees_from n rest) (omega arith) }
behind first (r ∷ front) rest =
    let h : AreBehind (first + 1) front rest = behind (first + 1) front rest in
    let T : Tree = node r.label (pick (first + 1) (trees_from (first + 1) (front ++ rest)) r.children) in
    let end : first + 1 + length front ≡ first + length (r ∷ front) = omega arith in
    record {
      trees = T ∷ h.trees;
      many = ap suc h.many;
      are = ap (λ (ts : List Tree). T ∷ ts) h.are ∙ ap (λ (n : ℕ). T ∷ h.trees ++ trees_from n rest) end;
    }

-- the trees that sit there are picked by their numbers
pub picked_sit : (rows : List Row) (at : ℕ) (ts : Forest) → Sits rows at ts → pick_trees rows (numbers_from at ts) ≡ ts
picked_sit rows at ts h =
    let more : List Row = rows_below h.parent at ts ++ h.back in
    let b : AreBehind 0 h.front more = behind 0 h.front more in
    let flat : rows ≡ h.front ++ more = h.split ∙ append_assoc h.front (rows_below h.parent at ts) h.back in
    let place : 0 + length h.front ≡ at = omega (arith, h.before) in
    let trees : trees_from 0 rows ≡ b.trees ++ all_trees ts ++ trees_from (at + count ts) h.back =
    ap (trees_from 0) flat ∙ b.are ∙ ap (λ (n : ℕ). b.trees ++ trees_from n more) place
    ∙ ap (λ (xs : List Tree). b.trees ++ xs) (trees_rows h.parent at ts h.back) ∙ simp append_assoc in
    ap (λ (xs : List Tree). pick 0 xs (numbers_from at ts)) trees
    ∙ pick_all 0 at b.trees (trees_from (at + count ts) h.back) ts (omega (arith, b.many, h.before))

-- the trees of numbers
pub picked_have : (rows : List Row) (cs : List NodeId) (h : HaveTrees rows cs) → pick_trees rows cs ≡ h.trees
picked_have rows cs h = ap (pick_trees rows) h.are ∙ picked_sit rows h.at h.trees h.sit

opened_start : (at : ℕ) (ts : Forest) → opened_from (start_of (numbers_from at ts)) ts ≡ opened_from at ts
opened_start at no_trees = refl
opened_start at (tree (node l kids) ts) = refl

told_start : (at : ℕ) (ts : Forest) → told_from (start_of (numbers_from at ts)) ts ≡ told_from at ts
told_start at no_trees = refl
told_start at (tree (node l kids) ts) = refl

pub inside_have : (rows : List Row) (cs : List NodeId) (h : HaveTrees rows cs) → inside_of rows cs ≡ opened_from h.at h.trees
inside_have rows cs h =
    ap (opened_from (start_of cs)) (picked_have rows cs h) ∙ ap (λ (ns : List NodeId). opened_from (start_of ns) h.trees) h.are ∙ opened_start h.at h.trees

pub told_have : (rows : List Row) (cs : List NodeId) (h : HaveTrees rows cs) → told_of rows cs ≡ told_from h.at h.trees
told_have rows cs h =
    ap (told_from (start_of cs)) (picked_have rows cs h) ∙ ap (λ (ns : List NodeId). told_from (start_of ns) h.trees) h.are ∙ told_start h.at h.trees

-- no numbers have no trees
pub have_none : (rows : List Row) → HaveTrees rows []
have_none rows = record { at = 0; trees = no_trees; are = refl; sit = record { parent = root; front = []; back = rows; split = refl; before = refl } }

-- no choice or case is a data node
pub passed_no_data : (k : NodeKind) → is_passed k ≡ true → is_data k ≡ false
passed_no_data kind.Choice h = refl
passed_no_data kind.Case h = refl
passed_no_data _ h = absurd (false≢true h)

-- how many rows stand behind the first of these numbers
abbrev pub left_of : List Row → List NodeId → ℕ
left_of rows [] = 0
left_of rows (c ∷ cs) = length rows - c.0

-- one of the numbers, and those behind it
pub record IsStep (rows : List Row) (cs : List NodeId) (i : ℕ) (at : ℕ) (trees : Forest) (n : NodeId) (row : Row) : Type 0 where
  pub rest : HaveTrees rows (drop (i + 1) cs)
  pub inner : HaveTrees rows (inner_of row)
  pub number : n.0 ≡ at
  pub behind : at ≤ rest.at
  pub within : at < length rows
  pub later : left_of rows (inner_of row) < length rows - at
  pub opened : opened_from at trees ≡ cond (not (is_data row.label.defined.kind)) [] (n ∷ []) ++ inside_of rows (inner_of row) ++ opened_from rest.at rest.trees
  pub told : told_from at trees ≡ cond (is_case row.label.defined.kind) [] (n ∷ []) ++ told_of rows (inner_of row) ++ told_from rest.at rest.trees

module _ (rows : List Row) (at : ℕ) (l : Label) (kids ts : Forest) (h : Sits rows at (tree (node l kids) ts)) where
  abbrev kids_numbers : Bool → List NodeId
  kids_numbers b = cond b (numbers_from (at + 1) kids) []

  inner_have : (b : Bool) → HaveTrees rows (kids_numbers b)
  inner_have true = record { at = at + 1; trees = kids; are = refl; sit = kids_sit rows at l kids ts h }
  inner_have false = have_none rows

  room : at < length rows
  room = omega (arith, room_of rows at (tree (node l kids) ts) h)

  kids_later : (us : Forest) → left_of rows (numbers_from (at + 1) us) < length rows - at
  kids_later no_trees = omega (arith, room)
  kids_later (tree (node m below) us) = omega (arith, room)

  inner_later : (b : Bool) → left_of rows (kids_numbers b) < length rows - at
  inner_later true = kids_later kids
  inner_later false = omega (arith, room)

  inner_opened : (passed of_data : Bool) (n : NodeId) (more : List NodeId) → (passed ≡ true → of_data ≡ false)
      → cond passed (opened_from (at + 1) kids) (cond of_data (n ∷ []) []) ++ more ≡ cond (not of_data) [] (n ∷ []) ++ inside_of rows (kids_numbers passed) ++ more
  unfolding inner_have
  inner_opened true true n more apart = absurd (false≢true (sym (apart refl)))
  inner_opened true false n more apart = ap (λ (ns : List NodeId). ns ++ more) (sym (inside_have rows (kids_numbers true) (inner_have true)))
  inner_opened false true n more apart = refl
  inner_opened false false n more apart = refl

  inner_told : (b : Bool) → cond b (told_from (at + 1) kids) [] ≡ told_of rows (kids_numbers b)
  unfolding inner_have
  inner_told true = sym (told_have rows (kids_numbers true) (inner_have true))
  inner_told false = refl

  step_tree : (cs : List NodeId) (i : ℕ) → drop (i + 1) cs ≡ numbers_from (at + 1 + count kids) ts → IsStep rows cs i at (tree (node l kids) ts) (record { 0 = at }) (record { label = l; parent = h.parent; children = numbers_from (at + 1) kids })
  step_tree cs i are = record {
    rest = record { at = at + 1 + count kids; trees = ts; are = are; sit = others_sit rows at l kids ts h };
    inner = inner_have (is_passed l.defined.kind);
    number = refl;
    behind = omega arith;
    within = room;
    later = inner_later (is_passed l.defined.kind);
    opened = inner_opened (is_passed l.defined.kind) (is_data l.defined.kind) (record { 0 = at }) (opened_from (at + 1 + count kids) ts) (passed_no_data l.defined.kind);
    told = ap (λ (ns : List NodeId). cond (is_case l.defined.kind) [] (record { 0 = at } ∷ []) ++ ns ++ told_from (at + 1 + count kids) ts) (inner_told (is_passed l.defined.kind));
  }

step_at : (rows : List Row) (cs : List NodeId) (i at : ℕ) (n : NodeId) (ts : Forest) → n ∷ drop (i + 1) cs ≡ numbers_from at ts → Sits rows at ts → IsStep rows cs i at ts n (slice_index_or rows n.0 blank_row)
step_at rows cs i at n no_trees are sit = cc
step_at rows cs i at n (tree (node l kids) ts) are sit =
    let first : record { 0 = at } ≡ n = cc in
    let others : drop (i + 1) cs ≡ numbers_from (at + 1 + count kids) ts = cc in
    let T : Forest = tree (node l kids) ts in
    subst (λ (m : NodeId). IsStep rows cs i at T m (slice_index_or rows m.0 blank_row)) first
    (subst (λ (r : Row). IsStep rows cs i at T (record { 0 = at }) r) (sym (row_first rows at l kids ts sit)) (step_tree rows at l kids ts sit cs i others))

-- the next number
pub step : (rows : List Row) (cs : List NodeId) (i : ℕ) (d : NodeId) (h : HaveTrees rows (drop i cs)) → i < length cs
    → IsStep rows cs i h.at h.trees (get_or cs i d) (slice_index_or rows (get_or cs i d).0 blank_row)
step rows cs i d h lt =
    let next : drop i cs ≡ get_or cs i d ∷ drop (i + 1) cs = rw (add-one) (drop-cons cs i d lt) in
    step_at rows cs i h.at (get_or cs i d) h.trees (sym next ∙ h.are) h.sit

-- the numbers so far are opened
pub record IsOpening (rows : List Row) (cs : List NodeId) (i : ℕ) (before_inside before_told inside told : List NodeId) : Type 0 where
  pub rest : HaveTrees rows (drop i cs)
  pub behind : start_of cs ≤ rest.at
  pub inside_is : inside ++ opened_from rest.at rest.trees ≡ before_inside ++ inside_of rows cs
  pub told_is : told ++ told_from rest.at rest.trees ≡ before_told ++ told_of rows cs

start_within : (at : ℕ) (ts : Forest) → start_of (numbers_from at ts) ≤ at
start_within at no_trees = omega arith
start_within at (tree (node l kids) ts) = omega arith

pub opening_first : (rows : List Row) (cs inside told : List NodeId) → HaveTrees rows cs → IsOpening rows cs 0 inside told inside told
opening_first rows cs inside told h = record {
  rest = h;
  behind = subst (λ (ns : List NodeId). start_of ns ≤ h.at) (sym h.are) (start_within h.at h.trees);
  inside_is = ap (λ (ns : List NodeId). inside ++ ns) (sym (inside_have rows cs h));
  told_is = ap (λ (ns : List NodeId). told ++ ns) (sym (told_have rows cs h));
}

four : (ws xs ys zs : List NodeId) → ws ++ xs ++ ys ++ zs ≡ ws ++ (xs ++ ys ++ zs)
four ws xs ys zs = simp append_assoc

-- one more is
pub opening_more : (rows : List Row) (cs : List NodeId) (i : ℕ) (d : NodeId) (I T inside told noted_inside noted_told new_inside new_told : List NodeId) (row : Row)
    → IsOpening rows cs i I T inside told → i < length cs → row ≡ slice_index_or rows (get_or cs i d).0 blank_row
    → noted_inside ≡ inside ++ cond (not (is_data row.label.defined.kind)) [] (get_or cs i d ∷ [])
    → noted_told ≡ told ++ cond (is_case row.label.defined.kind) [] (get_or cs i d ∷ [])
    → new_inside ≡ noted_inside ++ inside_of rows (inner_of row) → new_told ≡ noted_told ++ told_of rows (inner_of row)
    → IsOpening rows cs (i + 1) I T new_inside new_told
opening_more rows cs i d I T inside told noted_inside noted_told new_inside new_told row h lt is ni nt wi wt =
    let own : IsStep rows cs i h.rest.at h.rest.trees (get_or cs i d) row =
    subst (λ (r : Row). IsStep rows cs i h.rest.at h.rest.trees (get_or cs i d) r) (sym is) (step rows cs i d h.rest lt) in
    record {
      rest = own.rest;
      behind = omega (arith, h.behind, own.behind);
      inside_is = ap (λ (ns : List NodeId). ns ++ opened_from own.rest.at own.rest.trees) (wi ∙ ap (λ (ns : List NodeId). ns ++ inside_of rows (inner_of row)) ni)
          ∙ four inside (cond (not (is_data row.label.defined.kind)) [] (get_or cs i d ∷ [])) (inside_of rows (inner_of row)) (opened_from own.rest.at own.rest.trees)
          ∙ ap (λ (ns : List NodeId). inside ++ ns) (sym own.opened) ∙ h.inside_is;
      told_is = ap (λ (ns : List NodeId). ns ++ told_from own.rest.at own.rest.trees) (wt ∙ ap (λ (ns : List NodeId). ns ++ told_of rows (inner_of row)) nt)
          ∙ four told (cond (is_case row.label.defined.kind) [] (get_or cs i d ∷ [])) (told_of rows (inner_of row)) (told_from own.rest.at own.rest.trees)
          ∙ ap (λ (ns : List NodeId). told ++ ns) (sym own.told) ∙ h.told_is;
    }

-- all are
pub opening_all : (rows : List Row) (cs : List NodeId) (I T inside told : List NodeId) (i : ℕ) → drop i cs ≡ [] → IsOpening rows cs i I T inside told → (inside ≡ I ++ inside_of rows cs) × (told ≡ T ++ told_of rows cs)
opening_all rows cs I T inside told i none h =
    let trees : h.rest.trees ≡ no_trees = nothing h.rest.at h.rest.trees (sym h.rest.are ∙ none) in (
      sym (append-nil inside) ∙ ap (λ (ts : Forest). inside ++ opened_from h.rest.at ts) (sym trees) ∙ h.inside_is,
      sym (append-nil told) ∙ ap (λ (ts : Forest). told ++ told_from h.rest.at ts) (sym trees) ∙ h.told_is,
    )
  where
    nothing : (at : ℕ) (ts : Forest) → numbers_from at ts ≡ [] → ts ≡ no_trees
    nothing at no_trees e = refl
    nothing at (tree (node l kids) ts) e = cc

-- no more rows stand behind one of the numbers than behind the first
pub left_start : (rows : List Row) (cs : List NodeId) (i at : ℕ) → i < length cs → start_of cs ≤ at → length rows - at ≤ left_of rows cs
left_start rows [] i at lt le = absurd (omega arith)
left_start rows (c ∷ cs) i at lt le = omega arith
