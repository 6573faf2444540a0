-- Opened trees, their numbers and their nodes.
use Rattle.std.proofs.Common.{◌≡◌, ℕ, ◌+◌, ◌<◌, ◌≤◌, List, [], ◌∷◌, ◌++◌, length, refl, sym, ap, ◌∙◌, arith, All, Bool, true, false, cond}
use Rattle.std.specs.List.{AllByRecursion, slice_index_or}
use Rattle.std.proofs.lemmas.List.{map-append}
use Rattle.std.proofs.lemmas.List.Elements.{All-from_recursion}
use Rattle.yv_node_content.specs.Kinds.{is_case, is_choice, is_data, is_passed}
use Rattle.yv_node_content.specs.declared.kind.NodeKind.{NodeKind}
use Rattle.yv_nodes.specs.declared.node.NodeId.{NodeId}
use Rattle.yv_nodes.specs.Tree.{count, Forest, Label, labels, no_trees, node, tree}
use Rattle.yv_nodes.specs.Numbers.{numbers_from}
use Rattle.yv_nodes.specs.Rows.{Row, blank_row}
use Rattle.yv_schema_tables.specs.Groups.{join}
use Rattle.yv_schema_tables.specs.DataChildren.{opened_from, opened_trees}
use Rattle.yv_schema_tables.specs.DuplicateNodes.{family, names_that_differ}
use Rattle.yv_schema_tables.specs.InnerSits.{HaveTrees, Sits, inside_of, pick_trees, told_from, told_of}
use Rattle.yv_schema_tables.specs.InnerTables.{labels_at}
use Rattle.yv_schema_tables.proofs.PickedTrees.{inside_have, kids_sit, others_sit, picked_have, room_of, row_first, told_have}

-- numbers from the first of these on, and below the second
abbrev pub AreWithin : ℕ → ℕ → List NodeId → Type 0
AreWithin low high cs = AllByRecursion (λ (c : NodeId). (low ≤ c.0) × (c.0 < high)) cs

wider : (low high least most : ℕ) (cs : List NodeId) → least ≤ low → high ≤ most → AreWithin low high cs → AreWithin least most cs
wider low high least most [] p q h = tt
wider low high least most (c ∷ cs) p q h = ((omega (arith, p, h.0), omega (arith, q, h.0)), wider low high least most cs p q h.1)

pub append_all : {X : Type 0} (P : X → Type 0) (xs ys : List X) → AllByRecursion P xs → AllByRecursion P ys → AllByRecursion P (xs ++ ys)
append_all P [] ys p q = q
append_all P (x ∷ xs) ys p q = (p.0, append_all P xs ys p.1 q)

pub numbers_in : (at : ℕ) (ts : Forest) → AreWithin at (at + count ts) (numbers_from at ts)
numbers_in at no_trees = tt
numbers_in at (tree (node l kids) ts) =
    ((omega arith, omega arith), wider (at + 1 + count kids) (at + 1 + count kids + count ts) at (at + count (tree (node l kids) ts)) (numbers_from (at + 1 + count kids) ts) (omega arith) (omega arith) (numbers_in (at + 1 + count kids) ts))

pub opened_in : (at : ℕ) (ts : Forest) → AreWithin at (at + count ts) (opened_from at ts)
opened_in at no_trees = tt
opened_in at (tree (node l kids) ts) =
    let n : ℕ = at + count (tree (node l kids) ts) in
    append_all (λ (c : NodeId). (at ≤ c.0) × (c.0 < n)) (cond (is_passed l.defined.kind) (opened_from (at + 1) kids) (cond (is_data l.defined.kind) (record { 0 = at } ∷ []) [])) (opened_from (at + 1 + count kids) ts)
    (first (is_passed l.defined.kind) (is_data l.defined.kind) (opened_in (at + 1) kids))
    (wider (at + 1 + count kids) (at + 1 + count kids + count ts) at n (opened_from (at + 1 + count kids) ts) (omega arith) (omega arith) (opened_in (at + 1 + count kids) ts))
  where
    first : (passed of_data : Bool) → AreWithin (at + 1) (at + 1 + count kids) (opened_from (at + 1) kids)
        → AreWithin at (at + count (tree (node l kids) ts)) (cond passed (opened_from (at + 1) kids) (cond of_data (record { 0 = at } ∷ []) []))
    first true of_data h = wider (at + 1) (at + 1 + count kids) at (at + count (tree (node l kids) ts)) (opened_from (at + 1) kids) (omega arith) (omega arith) h
    first false true h = ((omega arith, omega arith), tt)
    first false false h = tt

told_in : (at : ℕ) (ts : Forest) → AreWithin at (at + count ts) (told_from at ts)
told_in at no_trees = tt
told_in at (tree (node l kids) ts) =
    let n : ℕ = at + count (tree (node l kids) ts) in
    let P : NodeId → Type 0 = λ c. (at ≤ c.0) × (c.0 < n) in
    let here : List NodeId = cond (is_case l.defined.kind) [] (record { 0 = at } ∷ []) in
    let inner : List NodeId = cond (is_passed l.defined.kind) (told_from (at + 1) kids) [] in
    append_all P (here ++ inner) (told_from (at + 1 + count kids) ts) (append_all P here inner (own (is_case l.defined.kind)) (below (is_passed l.defined.kind) (told_in (at + 1) kids)))
    (wider (at + 1 + count kids) (at + 1 + count kids + count ts) at n (told_from (at + 1 + count kids) ts) (omega arith) (omega arith) (told_in (at + 1 + count kids) ts))
  where
    own : (b : Bool) → AreWithin at (at + count (tree (node l kids) ts)) (cond b [] (record { 0 = at } ∷ []))
    own true = tt
    own false = ((omega arith, omega arith), tt)

    below : (b : Bool) → AreWithin (at + 1) (at + 1 + count kids) (told_from (at + 1) kids) → AreWithin at (at + count (tree (node l kids) ts)) (cond b (told_from (at + 1) kids) [])
    below true h = wider (at + 1) (at + 1 + count kids) at (at + count (tree (node l kids) ts)) (told_from (at + 1) kids) (omega arith) (omega arith) h
    below false h = tt

less : (low high n : ℕ) (cs : List NodeId) → high ≤ n → AreWithin low high cs → AllByRecursion (λ (c : NodeId). c.0 < n) cs
less low high n [] le h = tt
less low high n (c ∷ cs) le h = (omega (arith, le, h.0), less low high n cs le h.1)

module _ (rows : List Row) (cs : List NodeId) (h : HaveTrees rows cs) where
  within : (ds : List NodeId) → AreWithin h.at (h.at + count h.trees) ds → All (λ (c : NodeId). c.0 < length rows) ds
  within ds w = All-from_recursion (λ (c : NodeId). c.0 < length rows) ds (less h.at (h.at + count h.trees) (length rows) ds (room_of rows h.at h.trees h.sit) w)

  pub numbers_within : All (λ (c : NodeId). c.0 < length rows) cs
  numbers_within = rw h.are (within (numbers_from h.at h.trees) (numbers_in h.at h.trees))

  pub inside_within : All (λ (c : NodeId). c.0 < length rows) (inside_of rows cs)
  inside_within = rw (inside_have rows cs h) (within (opened_from h.at h.trees) (opened_in h.at h.trees))

  pub told_within : All (λ (c : NodeId). c.0 < length rows) (told_of rows cs)
  told_within = rw (told_have rows cs h) (within (told_from h.at h.trees) (told_in h.at h.trees))

-- trees of which one list stands behind the other
pub labels_joined : (ts us : Forest) → labels (join ts us) ≡ labels ts ++ labels us
labels_joined no_trees us = refl
labels_joined (tree (node l kids) ts) us = ap (λ (ls : List Label). l ∷ ls) (labels_joined ts us)

abbrev pub label_in : List Row → NodeId → Label
label_in rows c = (slice_index_or rows c.0 blank_row).label

-- the nodes of the numbers are those of the trees that sit there
pub labels_sit : (rows : List Row) (at : ℕ) (ts : Forest) → Sits rows at ts → labels_at rows (numbers_from at ts) ≡ labels ts
labels_sit rows at no_trees h = refl
labels_sit rows at (tree (node l kids) ts) h =
    ap (λ (r : Row). r.label ∷ labels_at rows (numbers_from (at + 1 + count kids) ts)) (row_first rows at l kids ts h)
    ∙ ap (λ (ls : List Label). l ∷ ls) (labels_sit rows (at + 1 + count kids) ts (others_sit rows at l kids ts h))

pub labels_opened : (rows : List Row) (at : ℕ) (ts : Forest) → Sits rows at ts → labels_at rows (opened_from at ts) ≡ labels (opened_trees ts)
labels_opened rows at no_trees h = refl
labels_opened rows at (tree (node l kids) ts) h =
    let here : List NodeId = cond (is_passed l.defined.kind) (opened_from (at + 1) kids) (cond (is_data l.defined.kind) (record { 0 = at } ∷ []) []) in
    let own : Forest = cond (is_passed l.defined.kind) (opened_trees kids) (cond (is_data l.defined.kind) (tree (node l kids) no_trees) no_trees) in
    map-append (label_in rows) here (opened_from (at + 1 + count kids) ts)
    ∙ ap (λ (ls : List Label). labels_at rows here ++ ls) (labels_opened rows (at + 1 + count kids) ts (others_sit rows at l kids ts h))
    ∙ ap (λ (ls : List Label). ls ++ labels (opened_trees ts)) (by (is_passed l.defined.kind) (is_data l.defined.kind) (labels_opened rows (at + 1) kids (kids_sit rows at l kids ts h)))
    ∙ sym (labels_joined own (opened_trees ts))
  where
    by : (passed of_data : Bool) → labels_at rows (opened_from (at + 1) kids) ≡ labels (opened_trees kids)
        → labels_at rows (cond passed (opened_from (at + 1) kids) (cond of_data (record { 0 = at } ∷ []) [])) ≡ labels (cond passed (opened_trees kids) (cond of_data (tree (node l kids) no_trees) no_trees))
    by true of_data e = e
    by false true e = ap (λ (r : Row). r.label ∷ []) (row_first rows at l kids ts h)
    by false false e = refl

pub labels_told : (rows : List Row) (at : ℕ) (ts : Forest) → Sits rows at ts → labels_at rows (told_from at ts) ≡ names_that_differ ts
labels_told rows at no_trees h = refl
labels_told rows at (tree (node l kids) ts) h =
    let here : List NodeId = cond (is_case l.defined.kind) [] (record { 0 = at } ∷ []) in
    let inner : List NodeId = cond (is_passed l.defined.kind) (told_from (at + 1) kids) [] in
    map-append (label_in rows) (here ++ inner) (told_from (at + 1 + count kids) ts)
    ∙ ap (λ (ls : List Label). labels_at rows (here ++ inner) ++ ls) (labels_told rows (at + 1 + count kids) ts (others_sit rows at l kids ts h))
    ∙ ap (λ (ls : List Label). ls ++ names_that_differ ts) (map-append (label_in rows) here inner
    ∙ ap (λ (ls : List Label). labels_at rows here ++ ls) (below (is_passed l.defined.kind) (labels_told rows (at + 1) kids (kids_sit rows at l kids ts h)))
    ∙ ap (λ (ls : List Label). ls ++ cond (is_passed l.defined.kind) (names_that_differ kids) []) (own (is_case l.defined.kind)))
  where
    own : (b : Bool) → labels_at rows (cond b [] (record { 0 = at } ∷ [])) ≡ cond b [] (l ∷ [])
    own true = refl
    own false = ap (λ (r : Row). r.label ∷ []) (row_first rows at l kids ts h)

    below : (b : Bool) → labels_at rows (told_from (at + 1) kids) ≡ names_that_differ kids → labels_at rows (cond b (told_from (at + 1) kids) []) ≡ cond b (names_that_differ kids) []
    below true e = e
    below false e = refl

module _ (rows : List Row) (cs : List NodeId) (h : HaveTrees rows cs) where
  pub numbers_have : labels_at rows cs ≡ labels (pick_trees rows cs)
  numbers_have = ap (labels_at rows) h.are ∙ labels_sit rows h.at h.trees h.sit ∙ ap labels (sym (picked_have rows cs h))

  pub told_labels : labels_at rows (told_of rows cs) ≡ names_that_differ (pick_trees rows cs)
  told_labels = ap (labels_at rows) (told_have rows cs h) ∙ labels_told rows h.at h.trees h.sit ∙ ap names_that_differ (sym (picked_have rows cs h))

-- the families of the kinds
pub family_choice : (kind : NodeKind) (kids : Forest) → is_choice kind ≡ true → family kind kids ≡ labels kids
family_choice kind kids h = rw h refl

pub family_other : (kind : NodeKind) (kids : Forest) → is_choice kind ≡ false → is_case kind ≡ false → family kind kids ≡ names_that_differ kids
family_other kind kids h k = rw (h, k) refl
