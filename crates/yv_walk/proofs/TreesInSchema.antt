-- Trees whose rows stand in a schema: what the rows are, and which nodes are children of which.
use Rattle.std.proofs.Common.{◌≡◌, ℕ, ◌+◌, ◌<◌, ◌≤◌, ◌==◌, List, [], ◌∷◌, ◌++◌, length, get_or, refl, sym, ap, ◌∙◌, subst, arith, append_assoc, append-nil, length-append, Bool, true, false, cond, ◌⊎◌, inl, inr, eqb-true, nat_lt}
use Rattle.std.proofs.lemmas.Bool.{cases_Bool}
use Rattle.std.proofs.lemmas.Bool.Decides.{nat_tests}
use Rattle.std.proofs.Math.Seq.{get_or-append_seam}
use Rattle.yv_node_content.specs.Kinds.{is_passed}
use Rattle.yv_nodes.specs.declared.node.NodeId.{NodeId}
use Rattle.yv_nodes.specs.Tree.{count, Forest, Label, Tree, no_trees, node, tree}
use Rattle.yv_nodes.specs.Numbers.{numbers_from, rows_below, rows_from}
use Rattle.yv_nodes.specs.Rows.{Row, Rows, below, blank_row, children_of, forest, is_root, pick, rank, root, row_at, trees_from, whole}
use Rattle.yv_schema_tables.specs.Sound.{IsSound}
use Rattle.yv_walk.specs.Existence.{passes}
use Rattle.yv_walk.proofs.Joins.{one_number}
use Rattle.yv_walk.proofs.TreeRows.{AreBehind, all_trees, behind, length_rows, pick_all, trees_rows}

abbrev pub numbered : ℕ → NodeId
numbered n = record { 0 = n }

-- the rows of these trees below the node p stand in the schema, the first at this number
pub record Sits (s : Rows) (p : NodeId) (at : ℕ) (ts : Forest) : Type 0 where
  pub small : length s.nodes ≤ 4294967295
  pub front : List Row
  pub back : List Row
  pub split : s.nodes ≡ front ++ rows_below p at ts ++ back
  pub before : length front ≡ at

-- there is room for all of them
pub room_of : (s : Rows) (p : NodeId) (at : ℕ) (ts : Forest) → Sits s p at ts → at + count ts ≤ length s.nodes
room_of s p at ts h =
    omega (arith, ap length h.split, h.before, length-append (h.front ++ rows_below p at ts) h.back, length-append h.front (rows_below p at ts), length_rows p at ts)

-- the trees that sit there are picked by their numbers
pub picked_sit : (s : Rows) (p : NodeId) (at : ℕ) (ts : Forest) → Sits s p at ts → forest s (numbers_from at ts) ≡ ts
picked_sit s p at ts h =
    let more : List Row = rows_below p at ts ++ h.back in
    let b : AreBehind 0 h.front more = behind 0 h.front more in
    let flat : s.nodes ≡ h.front ++ more = h.split ∙ append_assoc h.front (rows_below p at ts) h.back in
    let place : 0 + length h.front ≡ at = omega (arith, h.before) in
    let trees : trees_from 0 s.nodes ≡ b.trees ++ all_trees ts ++ trees_from (at + count ts) h.back =
    ap (trees_from 0) flat ∙ b.are ∙ ap (λ (n : ℕ). b.trees ++ trees_from n more) place
    ∙ ap (λ (xs : List Tree). b.trees ++ xs) (trees_rows p at ts h.back) ∙ simp append_assoc in
    ap (λ (xs : List Tree). pick 0 xs (numbers_from at ts)) trees
    ∙ pick_all 0 at b.trees (trees_from (at + count ts) h.back) ts (omega (arith, b.many, h.before))

module _ (s : Rows) (p : NodeId) (at : ℕ) (l : Label) (kids ts : Forest) (h : Sits s p at (tree (node l kids) ts)) where
  abbrev own : Row
  own = record { label = l; parent = p; children = numbers_from (at + 1) kids }

  abbrev inner : List Row
  inner = rows_below (numbered at) (at + 1) kids

  abbrev others : List Row
  others = rows_below p (at + 1 + count kids) ts

  -- the first tree has a number of the schema
  pub room : at < length s.nodes
  room = omega (arith, room_of s p at (tree (node l kids) ts) h)

  pub not_root : is_root (numbered at) ≡ false
  not_root =
      let lt : at < length s.nodes = room in
      grind (arith, nat_tests, h.small)

  -- its row
  pub row_first : row_at s (numbered at) ≡ record { label = l; parent = p; children = numbers_from (at + 1) kids }
  row_first =
      let flat : s.nodes ≡ h.front ++ own ∷ (inner ++ others ++ h.back) = h.split ∙ simp append_assoc in
      ap (λ (rs : List Row). get_or rs at blank_row) flat
      ∙ ap (λ (n : ℕ). get_or (h.front ++ own ∷ (inner ++ others ++ h.back)) n blank_row) (sym h.before)
      ∙ get_or-append_seam h.front own (inner ++ others ++ h.back) blank_row

  -- the same of a node that has this number
  pub row_same : (x : NodeId) → at ≡ x.0 → row_at s x ≡ record { label = l; parent = p; children = numbers_from (at + 1) kids }
  row_same x e = ap (row_at s) (sym (one_number (numbered at) x e)) ∙ row_first

  -- the rows below it
  pub kids_sit : Sits s (numbered at) (at + 1) kids
  kids_sit = record {
    small = h.small;
    front = h.front ++ own ∷ [];
    back = others ++ h.back;
    split = h.split ∙ simp append_assoc;
    before = omega (arith, h.before, length-append h.front (own ∷ []));
  }

  -- the rows of the other trees
  pub others_sit : Sits s p (at + 1 + count kids) ts
  others_sit = record {
    small = h.small;
    front = h.front ++ own ∷ inner;
    back = h.back;
    split = h.split ∙ simp append_assoc;
    before = omega (arith, h.before, length-append h.front (own ∷ inner), length_rows (numbered at) (at + 1) kids);
  }

  -- the numbers of its children
  pub kids_numbers : children_of s (numbered at) ≡ numbers_from (at + 1) kids
  kids_numbers = ap (λ (b : Bool). cond b s.top (row_at s (numbered at)).children) not_root ∙ ap (λ (r : Row). r.children) row_first

  -- the trees below it
  pub kids_below : (x : NodeId) → at ≡ x.0 → below s x ≡ kids
  kids_below x e =
      ap (below s) (sym (one_number (numbered at) x e)) ∙ ap (forest s) kids_numbers ∙ picked_sit s (numbered at) (at + 1) kids kids_sit

  pub rank_first : (x : NodeId) → at ≡ x.0 → rank x ≡ at + 1
  rank_first x e = ap rank (sym (one_number (numbered at) x e)) ∙ ap (λ (b : Bool). cond b 0 (at + 1)) not_root

  -- whether it is a choice or a case
  pub passes_first : (x : NodeId) → at ≡ x.0 → passes s x ≡ is_passed l.defined.kind
  passes_first x e =
      ap (passes s) (sym (one_number (numbered at) x e))
      ∙ ap (λ (b : Bool). cond b false (is_passed (row_at s (numbered at)).label.defined.kind)) not_root
      ∙ ap (λ (r : Row). is_passed r.label.defined.kind) row_first

-- ---- members of lists of numbers

abbrev pub IsIn : NodeId → List NodeId → Type 0
IsIn c [] = ⊥
IsIn c (d ∷ ds) = (c ≡ d) ⊎ IsIn c ds

pub in_left : (c : NodeId) (xs ys : List NodeId) → IsIn c xs → IsIn c (xs ++ ys)
in_left c [] ys h = absurd h
in_left c (x ∷ xs) ys (inl e) = inl e
in_left c (x ∷ xs) ys (inr h) = inr (in_left c xs ys h)

pub in_right : (c : NodeId) (xs ys : List NodeId) → IsIn c ys → IsIn c (xs ++ ys)
in_right c [] ys h = h
in_right c (x ∷ xs) ys h = inr (in_right c xs ys h)

-- ---- each row's place

rank_by : (b : Bool) (n : ℕ) → cond b 0 (n + 1) ≤ n + 1
rank_by true n = omega arith
rank_by false n = omega arith

-- the node of this number with what is below it
pub record IsPlaced (s : Rows) (n : ℕ) : Type 0 where
  pub parent : NodeId
  pub label : Label
  pub kids : Forest
  pub others : Forest
  pub sit : Sits s parent n (tree (node label kids) others)
  pub low : rank parent ≤ n

pub placed : (s : Rows) (p : NodeId) (at : ℕ) (ts : Forest) → Sits s p at ts → rank p ≤ at → (n : ℕ) → at ≤ n → n < at + count ts → IsPlaced s n
placed s p at no_trees h low n from to = absurd (omega (arith, from, to))
placed s p at (tree (node l kids) ts) h low n from to =
    elim (cases_Bool (at == n)) [
      | inl e ↦ subst (λ (m : ℕ). IsPlaced s m) (eqb-true at n e) (record { parent = p; label = l; kids = kids; others = ts; sit = h; low = low })
      | inr e ↦ elim (cases_Bool (nat_lt n (at + 1 + count kids))) [
        | inl f ↦ placed s (numbered at) (at + 1) kids (kids_sit s p at l kids ts h) (rank_by (is_root (numbered at)) at) n
            (let other : at + 1 ≤ n = grind (arith, nat_tests) in other) (let below : n < at + 1 + count kids = grind (arith, nat_tests) in below)
        | inr f ↦ placed s p (at + 1 + count kids) ts (others_sit s p at l kids ts h) (omega (arith, low)) n
            (let behind_kids : at + 1 + count kids ≤ n = grind (arith, nat_tests) in behind_kids) (omega (arith, to))
      ]
    ]

-- each row is among the children of its parent
among : (s : Rows) (p : NodeId) (at : ℕ) (ts : Forest) → Sits s p at ts → ((c : NodeId) → IsIn c (numbers_from at ts) → IsIn c (children_of s p))
    → (x : NodeId) → at ≤ x.0 → x.0 < at + count ts → IsIn x (children_of s (row_at s x).parent)
among s p at no_trees h all x from to = absurd (omega (arith, from, to))
among s p at (tree (node l kids) ts) h all x from to =
    elim (cases_Bool (at == x.0)) [
      | inl e ↦
          let same : at ≡ x.0 = eqb-true at x.0 e in
          let up : (row_at s x).parent ≡ p = ap (λ (r : Row). r.parent) (row_same s p at l kids ts h x same) in
          subst (λ (q : NodeId). IsIn x (children_of s q)) (sym up) (all x (inl (sym (one_number (numbered at) x same))))
      | inr e ↦ elim (cases_Bool (nat_lt x.0 (at + 1 + count kids))) [
        | inl f ↦ among s (numbered at) (at + 1) kids (kids_sit s p at l kids ts h)
            (λ c i. subst (λ (cs : List NodeId). IsIn c cs) (sym (kids_numbers s p at l kids ts h)) i) x
            (let other : at + 1 ≤ x.0 = grind (arith, nat_tests) in other) (let below : x.0 < at + 1 + count kids = grind (arith, nat_tests) in below)
        | inr f ↦ among s p (at + 1 + count kids) ts (others_sit s p at l kids ts h) (λ c i. all c (inr i)) x
            (let behind_kids : at + 1 + count kids ≤ x.0 = grind (arith, nat_tests) in behind_kids) (omega (arith, to))
      ]
    ]

-- all trees of a schema
pub all_sit : (s : Rows) → IsSound s → Sits s root 0 (whole s)
all_sit s sound = record { small = sound.small; front = []; back = []; split = sound.rows ∙ sym (append-nil (rows_from 0 (whole s))); before = refl }

pub count_whole : (s : Rows) → IsSound s → length s.nodes ≡ count (whole s)
count_whole s sound = ap length sound.rows ∙ length_rows root 0 (whole s)

pub every : (s : Rows) → IsSound s → (x : NodeId) → x.0 < length s.nodes → IsIn x (children_of s (row_at s x).parent)
every s sound x lt =
    among s root 0 (whole s) (all_sit s sound) (λ c i. subst (λ (cs : List NodeId). IsIn c cs) (sym sound.top) i) x (omega arith) (omega (arith, lt, count_whole s sound))

pub place_of : (s : Rows) → IsSound s → (n : ℕ) → n < length s.nodes → IsPlaced s n
place_of s sound n lt = placed s root 0 (whole s) (all_sit s sound) (omega arith) n (omega arith) (omega (arith, lt, count_whole s sound))

-- what stands below a node, or below the root
pub record IsAbove (s : Rows) (p : NodeId) : Type 0 where
  pub sit : Sits s p (rank p) (below s p)
  pub are : children_of s p ≡ numbers_from (rank p) (below s p)

inner_by : (b : Bool) (n len : ℕ) → b ≡ false → cond b 0 (n + 1) ≤ len → n < len
inner_by true n len e le = absurd (let f : true ≡ false = e in cc)
inner_by false n len e le = omega (arith, le)

pub above_of : (s : Rows) (p : NodeId) → IsSound s → rank p ≤ length s.nodes → IsAbove s p
above_of s p sound le =
    elim (cases_Bool (is_root p)) [
      | inl e ↦ subst (λ (q : NodeId). IsAbove s q) (one_number root p (sym (eqb-true p.0 4294967295 e))) (record { sit = all_sit s sound; are = sound.top })
      | inr e ↦
          let h : IsPlaced s p.0 = place_of s sound p.0 (inner_by (is_root p) p.0 (length s.nodes) e le) in
          let kids_are : below s p ≡ h.kids = kids_below s h.parent p.0 h.label h.kids h.others h.sit p refl in
          let rank_is : rank p ≡ p.0 + 1 = rank_first s h.parent p.0 h.label h.kids h.others h.sit p refl in
          let at : Sits s p (p.0 + 1) h.kids = kids_sit s h.parent p.0 h.label h.kids h.others h.sit in
          let numbers : children_of s p ≡ numbers_from (p.0 + 1) h.kids = kids_numbers s h.parent p.0 h.label h.kids h.others h.sit in
          record {
            sit = subst (λ (n : ℕ). Sits s p n (below s p)) (sym rank_is) (subst (λ (ts : Forest). Sits s p (p.0 + 1) ts) (sym kids_are) at);
            are = numbers ∙ ap (λ (ts : Forest). numbers_from (p.0 + 1) ts) (sym kids_are) ∙ ap (λ (n : ℕ). numbers_from n (below s p)) (sym rank_is);
          }
    ]
