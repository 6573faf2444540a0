-- The rows of a schema tree are sound where the members in each object differ.
use Rattle.std.proofs.Common.{Option, ◌≡◌, ◌≢◌, ℕ, zero, suc, ◌+◌, ◌-◌, ◌<◌, ◌≤◌, ◌⊎◌, List, [], ◌∷◌, ◌++◌, length, get_or, refl, sym, ap, ◌∙◌, subst, arith, append-nil, length-append, Bool, true, false, not, ◌||◌, cond, Some, All, inl, inr}
use Rattle.std.specs.List.{AllByRecursion, slice_get}
use Rattle.std.specs.Str.{bytes_eq}
use Rattle.std.proofs.lemmas.List.Elements.{All-from_recursion, recursion_from_All}
use Rattle.std.proofs.lemmas.Bool.{cases_Bool, cases_lt, false_from_ne_true, false≢true}
use Rattle.std.proofs.lemmas.Bool.Decides.{nat_tests}
use Rattle.std.proofs.lemmas.Slice.Eq.{bytes_eq-Decides}
use Rattle.yv_node_content.specs.Kinds.{is_data, is_passed}
use Rattle.yv_nodes.specs.declared.node.NodeId.{NodeId}
use Rattle.yv_nodes.specs.Tree.{count, Label, node, Forest, labels, no_trees, tree}
use Rattle.yv_nodes.specs.Places.{Place, places, places_below}
use Rattle.yv_nodes.specs.Rows.{below, blank_row, children_of, is_root, Module, Note, rank, root, Row, row_at, Rows, whole}
use Rattle.yv_nodes.specs.Link.{AreLinked, Link, reference_in}
use Rattle.yv_nodes.specs.Numbers.{numbers_from, rows_below, rows_from, rows_of}
use Rattle.yv_schema_tables.specs.DataChildren.{opened_from, opened_trees}
use Rattle.yv_node_keys.specs.LeafNames.{HaveLeafs}
use Rattle.yv_schema_tables.specs.Sound.{IsChild, IsFound, IsFoundBelow, IsNote, IsSound, MembersDiffer, inside, is_object, member_named}
use Rattle.yv_schema_tables.specs.InnerSits.{Sits, inside_of, pick_trees}
use Rattle.yv_schema_tables.specs.InnerTables.{labels_at}
use Rattle.yv_schema_tables.proofs.SiblingNamesakes.{AreDistinct, append_left, append_right}
use Rattle.yv_schema_tables.proofs.Members.{labels_opened, numbers_in}
use Rattle.yv_schema_tables.proofs.Numbers.{length_rows, whole_rows}
use Rattle.yv_schema_tables.proofs.PickedTrees.{all_sit, inside_have, kids_parent, kids_sit, others_parent, others_sit, passed_no_data, picked_sit, room_of, row_first}

-- what is known of a row: its place, and where the trees below it stand
pub record IsRow (rows : List Row) (ps : List Place) (i at : ℕ) : Type 0 where
  pub place : Place
  pub found : slice_get ps i ≡ Some place
  pub parent : NodeId
  pub is : get_or rows at blank_row ≡ record { label = place.label; parent = parent; children = numbers_from (at + 1) place.kids }
  pub sit : Sits rows (at + 1) place.kids
  pub above : sit.parent ≡ record { 0 = at }

length_places : (above : List Label) (ts : Forest) → length (places_below above ts) ≡ count ts
length_places above no_trees = refl
length_places above (tree (node l kids) ts) =
    omega (arith, length-append (places_below (l ∷ above) kids) (places_below above ts), length_places (l ∷ above) kids, length_places above ts)

-- each row among those of the trees is one
pub row_in : (rows : List Row) (names : List Label) (at i n : ℕ) (ts : Forest) → i < count ts → n ≡ at + i → Sits rows at ts → IsRow rows (places_below names ts) i n
row_in rows names at i n no_trees lt e h = absurd (omega arith)
row_in rows names at zero n (tree (node l kids) ts) lt e h =
    let here : n ≡ at = omega (arith, e) in
    subst (λ (m : ℕ). IsRow rows (places_below names (tree (node l kids) ts)) 0 m) (sym here) (record {
      place = record { label = l; above = names; kids = kids };
      found = refl;
      parent = h.parent;
      is = row_first rows at l kids ts h;
      sit = kids_sit rows at l kids ts h;
      above = kids_parent rows at l kids ts h;
    })
row_in rows names at (suc i) n (tree (node l kids) ts) lt e h =
    elim (cases_lt i (count kids)) [
      | inl less ↦
          let r : IsRow rows (places_below (l ∷ names) kids) i n = row_in rows (l ∷ names) (at + 1) i n kids less (omega (arith, e)) (kids_sit rows at l kids ts h) in
          record { place = r.place; found = append_left (places_below (l ∷ names) kids) (places_below names ts) i r.place r.found; parent = r.parent; is = r.is; sit = r.sit; above = r.above }
      | inr more ↦
          let r : IsRow rows (places_below names ts) (i - count kids) n = row_in rows names (at + 1 + count kids) (i - count kids) n ts (omega (arith, lt)) (omega (arith, e)) (others_sit rows at l kids ts h) in
          record {
            place = r.place;
            found = append_right (places_below (l ∷ names) kids) (places_below names ts) (i - count kids) i r.place (omega (arith, length_places (l ∷ names) kids, more)) r.found;
            parent = r.parent;
            is = r.is;
            sit = r.sit;
            above = r.above;
          }
    ]

abbrev pub member_at : Rows → NodeId → List ℕ
member_at s c = (row_at s c).label.member

-- one more node before those that are found
found_more : (s : Rows) (n : NodeId) (cs ds : List NodeId) → AllByRecursion (λ (c : NodeId). bytes_eq (member_at s n) (member_at s c) ≡ false) ds → AllByRecursion (λ (c : NodeId). member_named s cs (member_at s c) ≡ Some c) ds
    → AllByRecursion (λ (c : NodeId). member_named s (n ∷ cs) (member_at s c) ≡ Some c) ds
found_more s n cs [] differs found = tt
found_more s n cs (d ∷ ds) differs found = (rw differs.0 found.0, found_more s n cs ds differs.1 found.1)

differs_each : (s : Rows) (member : List ℕ) (ds : List NodeId) → ((k : ℕ) (b : Label) → slice_get (labels_at s.nodes ds) k ≡ Some b → member ≢ b.member) → AllByRecursion (λ (c : NodeId). bytes_eq member (member_at s c) ≡ false) ds
differs_each s member [] h = tt
differs_each s member (d ∷ ds) h =
    (false_from_ne_true _ (λ e. h 0 (row_at s d).label refl ((bytes_eq-Decides member (member_at s d)).0 e)), differs_each s member ds (λ k b at. h (suc k) b at))

-- where the members differ, each is found by its own
pub found_each : (s : Rows) (cs : List NodeId) → AreDistinct (labels_at s.nodes cs) → AllByRecursion (λ (c : NodeId). member_named s cs (member_at s c) ≡ Some c) cs
found_each s [] h = tt
found_each s (c ∷ cs) h =
    let same : bytes_eq (member_at s c) (member_at s c) ≡ true = (bytes_eq-Decides (member_at s c) (member_at s c)).1 refl in
    let differs : AllByRecursion (λ (d : NodeId). bytes_eq (member_at s c) (member_at s d) ≡ false) cs =
    differs_each s (member_at s c) cs (λ k b at. h 0 (suc k) (row_at s c).label b (omega arith) refl at) in
    (rw same refl, found_more s c cs cs differs (found_each s cs (λ i k a b lt at_i at_k. h (suc i) (suc k) a b (omega (arith, lt)) at_i at_k)))

-- each has its parent's number
above_each : (s : Rows) (at : ℕ) (ts : Forest) (h : Sits s.nodes at ts) → AllByRecursion (λ (c : NodeId). (row_at s c).parent ≡ h.parent) (numbers_from at ts)
above_each s at no_trees h = tt
above_each s at (tree (node l kids) ts) h = (
  ap (λ (r : Row). r.parent) (row_first s.nodes at l kids ts h),
  subst (λ (q : NodeId). AllByRecursion (λ (c : NodeId). (row_at s c).parent ≡ q) (numbers_from (at + 1 + count kids) ts)) (others_parent s.nodes at l kids ts h)
      (above_each s (at + 1 + count kids) ts (others_sit s.nodes at l kids ts h)),
)

-- the trees are those below a place that this row has
all_behind : (P : NodeId → Type 0) (xs ys : List NodeId) → AllByRecursion P (xs ++ ys) → AllByRecursion P ys
all_behind P [] ys h = h
all_behind P (x ∷ xs) ys h = all_behind P xs ys h.1

-- where all nodes of an object are found, the data nodes that stand in no choice or case are
found_directly : (s : Rows) (p : NodeId) (at : ℕ) (us : Forest) → Sits s.nodes at us → AllByRecursion (IsFound s p) (opened_from at us) → AllByRecursion (IsFoundBelow s p) (numbers_from at us)
found_directly s p at no_trees sit h = tt
found_directly s p at (tree (node l kids) us) sit h =
    let c : NodeId = record { 0 = at } in
    let label : (row_at s c).label ≡ l = ap (λ (r : Row). r.label) (row_first s.nodes at l kids us sit) in
    let kind : is_data (row_at s c).label.defined.kind ≡ is_data l.defined.kind = ap (λ (l : Label). is_data l.defined.kind) label in
    let others : Sits s.nodes (at + 1 + count kids) us = others_sit s.nodes at l kids us sit in
    by (is_passed l.defined.kind) (is_data l.defined.kind) kind (passed_no_data l.defined.kind) (λ k. found_directly s p (at + 1 + count kids) us others k) h
  where
    by : (passed of_data : Bool) → is_data (row_at s (record { 0 = at })).label.defined.kind ≡ of_data → (passed ≡ true → of_data ≡ false)
        → (AllByRecursion (IsFound s p) (opened_from (at + 1 + count kids) us) → AllByRecursion (IsFoundBelow s p) (numbers_from (at + 1 + count kids) us))
        → AllByRecursion (IsFound s p) (cond passed (opened_from (at + 1) kids) (cond of_data (record { 0 = at } ∷ []) []) ++ opened_from (at + 1 + count kids) us)
        → AllByRecursion (IsFoundBelow s p) (record { 0 = at } ∷ numbers_from (at + 1 + count kids) us)
    by true of_data kind apart later h =
        (λ met. absurd (false≢true (sym (kind ∙ apart refl) ∙ met)), later (all_behind (IsFound s p) (opened_from (at + 1) kids) (opened_from (at + 1 + count kids) us) h))
    by false true kind apart later h = (λ met. h.0, later h.1)
    by false false kind apart later h = (λ met. absurd (false≢true (sym kind ∙ met)), later h)

-- the members of a node that has an object
pub inside_object : (s : Rows) (p : NodeId) → is_object s p ≡ true → inside s p ≡ opened_from (rank p) (below s p)
inside_object s p object = rw object refl

-- a choice or case has none
pub inside_nothing : (s : Rows) (p : NodeId) → is_object s p ≡ false → inside s p ≡ []
inside_nothing s p none = rw none refl

pub record IsPlaced (s : Rows) (ts : Forest) (p : NodeId) (kids : Forest) : Type 0 where
  pub index : ℕ
  pub place : Place
  pub found : slice_get (places ts) index ≡ Some place
  pub is_below : place.kids ≡ kids
  pub inner : is_root p ≡ false
  pub label : (row_at s p).label ≡ place.label

-- what is known of a parent: where its children sit
pub record IsParent (s : Rows) (ts : Forest) (p : NodeId) : Type 0 where
  pub kids : Forest
  pub are : children_of s p ≡ numbers_from (rank p) kids
  pub sit : Sits s.nodes (rank p) kids
  pub above : sit.parent ≡ p
  pub which : ((is_root p ≡ true) × (kids ≡ ts)) ⊎ IsPlaced s ts p kids

module _ (limit : ℕ) (modules : List Module) (notes : List Note) (links : List (Option Link)) (ts : Forest) where
  parent_at_root : (p : NodeId) → is_root p ≡ true → IsParent (rows_of limit modules notes links ts) ts p
  parent_at_root p at_root =
      let first : rank p ≡ 0 = rw at_root refl in
      let at_top : children_of (rows_of limit modules notes links ts) p ≡ numbers_from 0 ts = rw at_root refl in
      let number : 4294967295 ≡ p.0 = grind (arith, nat_tests) in
      let same : root ≡ p = ap (λ (n : ℕ). let q : NodeId = record { 0 = n } in q) number in
      record {
        kids = ts;
        are = at_top ∙ ap (λ (n : ℕ). numbers_from n ts) (sym first);
        sit = record {
          parent = p;
          front = [];
          back = [];
          split = sym (append-nil (rows_from 0 ts)) ∙ ap (λ (q : NodeId). rows_below q 0 ts ++ []) same ∙ ap (λ (n : ℕ). rows_below p n ts ++ []) (sym first);
          before = sym first;
        };
        above = refl;
        which = inl (at_root, refl);
      }

  parent_below : (p : NodeId) → rank p ≤ count ts → is_root p ≡ false → IsParent (rows_of limit modules notes links ts) ts p
  parent_below p within other =
      let next : rank p ≡ p.0 + 1 = rw other refl in
      let own_children : children_of (rows_of limit modules notes links ts) p ≡ (get_or (rows_from 0 ts) p.0 blank_row).children = rw other refl in
      let row : IsRow (rows_from 0 ts) (places ts) p.0 p.0 = row_in (rows_from 0 ts) [] 0 p.0 p.0 ts (omega (arith, next)) (omega arith) (all_sit ts) in
      record {
        kids = row.place.kids;
        are = own_children ∙ ap (λ (r : Row). r.children) row.is ∙ ap (λ (n : ℕ). numbers_from n row.place.kids) (sym next);
        sit = record {
          parent = row.sit.parent;
          front = row.sit.front;
          back = row.sit.back;
          split = row.sit.split ∙ ap (λ (n : ℕ). row.sit.front ++ rows_below row.sit.parent n row.place.kids ++ row.sit.back) (sym next);
          before = row.sit.before ∙ sym next;
        };
        above = row.above;
        which = inr (record { index = p.0; place = row.place; found = row.found; is_below = refl; inner = other; label = ap (λ (r : Row). r.label) row.is });
      }

  pub parent_in : (p : NodeId) → rank p ≤ length (rows_from 0 ts) → IsParent (rows_of limit modules notes links ts) ts p
  parent_in p within =
      elim (cases_Bool (is_root p)) [ inl at_root ↦ parent_at_root p at_root | inr other ↦ parent_below p (omega (arith, length_rows root 0 ts)) other ]

  -- what stands below a parent
  pub below_in : (p : NodeId) (parent : IsParent (rows_of limit modules notes links ts) ts p) → below (rows_of limit modules notes links ts) p ≡ parent.kids
  below_in p parent = ap (pick_trees (rows_from 0 ts)) parent.are ∙ picked_sit (rows_from 0 ts) (rank p) parent.kids parent.sit

  pub inside_parent : (p : NodeId) → rank p ≤ length (rows_from 0 ts) → is_object (rows_of limit modules notes links ts) p ≡ true
      → inside_of (rows_from 0 ts) (children_of (rows_of limit modules notes links ts) p) ≡ inside (rows_of limit modules notes links ts) p
  inside_parent p within object =
      let parent : IsParent (rows_of limit modules notes links ts) ts p = parent_in p within in
      inside_have (rows_from 0 ts) (children_of (rows_of limit modules notes links ts) p) (record { at = rank p; trees = parent.kids; are = parent.are; sit = parent.sit }) ∙ ap (opened_from (rank p)) (sym (below_in p parent))
      ∙ sym (inside_object (rows_of limit modules notes links ts) p object)

  child_each : (p : NodeId) (at n : ℕ) (cs : List NodeId) → rank p ≤ at → n ≤ length (rows_from 0 ts) → AllByRecursion (λ (c : NodeId). (at ≤ c.0) × (c.0 < n)) cs
      → AllByRecursion (λ (c : NodeId). (row_at (rows_of limit modules notes links ts) c).parent ≡ p) cs → AllByRecursion (IsChild (rows_of limit modules notes links ts) p) cs
  child_each p at n [] le room h k = tt
  child_each p at n (c ∷ cs) le room h k = (record { behind = omega (arith, h.0); within = omega (arith, h.0); above = k.0 }, child_each p at n cs le room h.1 k.1)

  -- a fact of each number where the children sit is one of each child
  of_children : (p : NodeId) (parent : IsParent (rows_of limit modules notes links ts) ts p) (P : NodeId → Type 0) → AllByRecursion P (numbers_from (rank p) parent.kids) → All P (children_of (rows_of limit modules notes links ts) p)
  of_children p parent P h = subst (λ (cs : List NodeId). All P cs) (sym parent.are) (All-from_recursion P (numbers_from (rank p) parent.kids) h)

  module _ (top : AreDistinct (labels (opened_trees ts))) (inner : (k : ℕ) (q : Place) → slice_get (places ts) k ≡ Some q → is_passed q.label.defined.kind ≡ false → AreDistinct (labels (opened_trees q.kids))) where
    object_met : (r : Bool) (b : Bool) → r ≡ false → (r || not b) ≡ true → b ≡ false
    object_met true b e h = absurd (false≢true (sym e))
    object_met false true e h = absurd (false≢true h)
    object_met false false e h = refl

    distinct_in : (p : NodeId) (kids : Forest) → ((is_root p ≡ true) × (kids ≡ ts)) ⊎ IsPlaced (rows_of limit modules notes links ts) ts p kids → is_object (rows_of limit modules notes links ts) p ≡ true → AreDistinct (labels (opened_trees kids))
    distinct_in p kids (inl same) object = subst (λ (us : Forest). AreDistinct (labels (opened_trees us))) (sym same.1) top
    distinct_in p kids (inr h) object =
        let met : is_passed (row_at (rows_of limit modules notes links ts) p).label.defined.kind ≡ false = object_met (is_root p) (is_passed (row_at (rows_of limit modules notes links ts) p).label.defined.kind) h.inner object in
        let kept : is_passed h.place.label.defined.kind ≡ false = ap (λ (l : Label). is_passed l.defined.kind) (sym h.label) ∙ met in
        subst (λ (us : Forest). AreDistinct (labels (opened_trees us))) h.is_below (inner h.index h.place h.found kept)

    object_found : (p : NodeId) → rank p ≤ length (rows_from 0 ts) → is_object (rows_of limit modules notes links ts) p ≡ true → All (IsFound (rows_of limit modules notes links ts) p) (inside (rows_of limit modules notes links ts) p)
    object_found p within object =
        let s : Rows = rows_of limit modules notes links ts in
        let parent : IsParent s ts p = parent_in p within in
        let numbers : inside s p ≡ opened_from (rank p) parent.kids = inside_object s p object ∙ ap (opened_from (rank p)) (below_in p parent) in
        let apart : AreDistinct (labels_at s.nodes (inside s p)) =
        rw numbers (rw (labels_opened (rows_from 0 ts) (rank p) parent.kids parent.sit) (distinct_in p parent.kids parent.which object)) in
        All-from_recursion (IsFound s p) (inside s p) (found_each s (inside s p) apart)

    found_in : (p : NodeId) → rank p ≤ length (rows_from 0 ts) → All (IsFound (rows_of limit modules notes links ts) p) (inside (rows_of limit modules notes links ts) p)
    found_in p within =
        let s : Rows = rows_of limit modules notes links ts in
        elim (cases_Bool (is_object s p)) [
          | inl object ↦ object_found p within object
          | inr none ↦ subst (λ (cs : List NodeId). All (IsFound s p) cs) (sym (inside_nothing s p none)) (All-from_recursion (IsFound s p) [] tt)
        ]

    pub sound_rows : count ts ≤ 4294967295 → count ts ≤ limit → HaveLeafs (rows_from 0 ts)
        → All (IsNote (rows_of limit modules notes links ts)) notes → AreLinked (reference_in links) ts → IsSound (rows_of limit modules notes links ts)
    sound_rows small limited leafs given linked = record {
      leafs = leafs;
      members = subst MembersDiffer (sym (whole_rows limit modules notes links ts)) (record { top = top; below = inner });
      notes = given;
      linked = subst (AreLinked (reference_in links)) (sym (whole_rows limit modules notes links ts)) linked;
      small = omega (arith, length_rows root 0 ts);
      limited = omega (arith, length_rows root 0 ts);
      rows = ap (rows_from 0) (sym (whole_rows limit modules notes links ts));
      top = ap (numbers_from 0) (sym (whole_rows limit modules notes links ts));
      children = λ p within.
          let parent : IsParent (rows_of limit modules notes links ts) ts p = parent_in p within in
          of_children p parent (IsChild (rows_of limit modules notes links ts) p)
          (child_each p (rank p) (rank p + count parent.kids) (numbers_from (rank p) parent.kids) (omega arith) (room_of (rows_from 0 ts) (rank p) parent.kids parent.sit) (numbers_in (rank p) parent.kids)
          (subst (λ (q : NodeId). AllByRecursion (λ (c : NodeId). (row_at (rows_of limit modules notes links ts) c).parent ≡ q) (numbers_from (rank p) parent.kids)) parent.above (above_each (rows_of limit modules notes links ts) (rank p) parent.kids parent.sit)));
      found = found_in;
      found_below = λ p within object.
          let s : Rows = rows_of limit modules notes links ts in
          let parent : IsParent s ts p = parent_in p within in
          let numbers : inside s p ≡ opened_from (rank p) parent.kids = inside_object s p object ∙ ap (opened_from (rank p)) (below_in p parent) in
          of_children p parent (IsFoundBelow s p)
          (found_directly s p (rank p) parent.kids parent.sit (recursion_from_All (IsFound s p) (opened_from (rank p) parent.kids) (subst (λ (cs : List NodeId). All (IsFound s p) cs) numbers (object_found p within object))));
    }

-- in a sound schema the trees below a node stand behind it
pub sits_below : (s : Rows) (p : NodeId) → IsSound s → rank p ≤ length s.nodes → Sits s.nodes (rank p) (below s p)
sits_below s p sound within =
    let W : Forest = whole s in
    let rows : Rows = rows_of s.limit s.modules s.augments s.links W in
    let same : rows ≡ s =
    ap (λ (ns : List Row). let r : Rows = record { nodes = ns; top = numbers_from 0 W; limit = s.limit; modules = s.modules; augments = s.augments; links = s.links } in r) (sym sound.rows)
    ∙ ap (λ (cs : List NodeId). let r : Rows = record { nodes = s.nodes; top = cs; limit = s.limit; modules = s.modules; augments = s.augments; links = s.links } in r) (sym sound.top) in
    let parent : IsParent rows W p = parent_in s.limit s.modules s.augments s.links W p (omega (arith, within, ap length sound.rows)) in
    let here : Sits rows.nodes (rank p) (below rows p) = rw (below_in s.limit s.modules s.augments s.links W p parent) parent.sit in
    subst (λ (t : Rows). Sits t.nodes (rank p) (below t p)) same here
