-- What is kept of the nodes below a node, by their numbers.
use Rattle.std.proofs.Common.{◌≡◌, ◌≢◌, get_or, slice_set, get_or-set_same, get_or-set_other, ℕ, ◌+◌, ◌<◌, ◌≤◌, List, length, Bool, true, false, ◌||◌, cond, refl, sym, ap, ◌∙◌, subst, arith, Option, Some, None, is_some, inl, inr}
use Rattle.std.specs.List.{slice_get, list_any, find}
use Rattle.std.specs.Option.{unwrap_or}
use Rattle.yv_nodes.specs.declared.node.NodeId.{NodeId}
use Rattle.yv_nodes.specs.Tree.{Label, Tree, node, Forest, no_trees, tree, count}
use Rattle.yv_nodes.specs.Places.{Place, places}
use Rattle.yv_nodes.specs.Rows.{Row}
use Rattle.yv_nodes.specs.Numbers.{numbers_from}
use Rattle.yv_text_statement.specs.TextInFile.{TextInFile}
use Rattle.yv_node_content.specs.Kinds.{is_case}
use Rattle.yv_nodes.specs.InnerSpots.{AreRows, node_id, Sits, Spot, spots, row_of}
use Rattle.std.proofs.lemmas.Bool.{cases_eq}
use Rattle.std.proofs.lemmas.List.{length-set}
use Rattle.std.proofs.lemmas.Option.{get_or_from_slice_get, slice_get-get_or, slice_get_within}
use Rattle.yv_node_checks.proofs.Spots.{IsNumbered, is_numbered, length_rows, others_sit, own, spot_first}
use Rattle.yv_node_checks.specs.Mandatory.{has_mandatory, is_needed, is_needed_in}
use Rattle.yv_nodes.specs.Children.{is_called, child_named, child_of_text}
use Rattle.yv_node_checks.specs.InnerBelow.{AreBelow, case_among, is_named_at, is_needed_at, is_undone_at, kept_at}
use Rattle.yv_node_checks.proofs.AncestryTable.{place_at, row_at}

module _ (rows : List Row) (all : Forest) (below : List Bool) (n : ℕ) (are : AreRows rows all) (known : AreBelow all below n) where
  -- the first tree that sits somewhere, by its number
  pub record IsFirst (at : ℕ) (l : Label) (kids : Forest) : Type 0 where
    pub row : Row
    pub is : slice_get rows at ≡ Some row
    pub label : row.label ≡ l
    pub kept : kept_at below (node_id at) ≡ has_mandatory kids

  first : (at : ℕ) (l : Label) (kids ts : Forest) → n ≤ at → Sits (spots all) at (tree (node l kids) ts) → IsFirst at l kids
  first at l kids ts le h =
      let s : Spot = own (spots all) at l kids ts h in
      let found : slice_get (spots all) at ≡ Some s = spot_first (spots all) at l kids ts h in
      record {
        row = row_of s;
        is = row_at rows all at s are found;
        label = refl;
        kept = ap (λ (o : Option Bool). unwrap_or o false) (known at s.place le (place_at all at s found));
      }

  -- one of these nodes is mandatory
  pub any_needed : (at : ℕ) (ts : Forest) → n ≤ at → Sits (spots all) at ts → list_any (is_needed_at rows below) (numbers_from at ts) ≡ has_mandatory ts
  any_needed at no_trees le h = refl
  any_needed at (tree (node l kids) ts) le h =
      let f : IsFirst at l kids = first at l kids ts le h in
      let here : is_needed_at rows below (node_id at) ≡ is_needed l (has_mandatory kids) = rw (f.is, f.kept) (ap (λ (m : Label). is_needed m (has_mandatory kids)) f.label) in
      ap (λ (b : Bool). b || list_any (is_needed_at rows below) (numbers_from (at + 1 + count kids) ts)) here
      ∙ ap (λ (b : Bool). is_needed l (has_mandatory kids) || b) (any_needed (at + 1 + count kids) ts (omega arith) (others_sit (spots all) at l kids ts h))

  -- the first of these nodes that has a module and a name
  pub record IsFound (c : Option NodeId) (t : Option Tree) : Type 0 where
    pub present : is_some c ≡ is_some t
    pub undone : is_undone_at rows below c ≡ is_needed_in t

  by_test : (b : Bool) (at : ℕ) (l : Label) (kids : Forest) (c : Option NodeId) (t : Option Tree) → IsFirst at l kids → IsFound c t → IsFound (cond b (Some (node_id at)) c) (cond b (Some (node l kids)) t)
  by_test false at l kids c t f found = found
  by_test true at l kids c t f found = record {
    present = refl;
    undone = rw (f.is, f.kept) (ap (λ (m : Label). cond (is_case m.defined.kind) (has_mandatory kids) (is_needed m (has_mandatory kids))) f.label);
  }

  pub found : (module_file : ℕ) (name : List ℕ) (at : ℕ) (ts : Forest) → n ≤ at → Sits (spots all) at ts → IsFound (find (is_named_at rows module_file name) (numbers_from at ts)) (child_named module_file name ts)
  found module_file name at no_trees le h = record { present = refl; undone = refl }
  found module_file name at (tree (node l kids) ts) le h =
      let f : IsFirst at l kids = first at l kids ts le h in
      let c : Option NodeId = find (is_named_at rows module_file name) (numbers_from (at + 1 + count kids) ts) in
      let here : is_named_at rows module_file name (node_id at) ≡ is_called module_file name l = rw f.is (ap (is_called module_file name) f.label) in
      subst (λ (b : Bool). IsFound (cond b (Some (node_id at)) c) (cond (is_called module_file name l) (Some (node l kids)) (child_named module_file name ts))) (sym here)
      (by_test (is_called module_file name l) at l kids c (child_named module_file name ts) f (found module_file name (at + 1 + count kids) ts (omega arith) (others_sit (spots all) at l kids ts h)))

  pub found_by : (module_file : ℕ) (name : Option TextInFile) (at : ℕ) (ts : Forest) → n ≤ at → Sits (spots all) at ts → IsFound (case_among rows module_file name (numbers_from at ts)) (child_of_text module_file name ts)
  found_by module_file None at ts le h = record { present = refl; undone = refl }
  found_by module_file (Some written) at ts le h = found module_file written.text at ts le h

set_same : (xs : List Bool) (i j : ℕ) (v : Bool) → j ≡ i → i < length xs → slice_get (slice_set xs i v) j ≡ Some v
set_same xs i j v e lt =
    slice_get-get_or (slice_set xs i v) j false (omega (arith, e, lt, length-set xs i v))
    ∙ ap (λ (n : ℕ). Some (get_or (slice_set xs i v) n false)) e ∙ ap (λ (b : Bool). Some b) (get_or-set_same xs i v false lt)

set_other : (xs : List Bool) (i j : ℕ) (v w : Bool) → j ≢ i → slice_get xs j ≡ Some w → slice_get (slice_set xs i v) j ≡ Some w
set_other xs i j v w ne at =
    let within : j < length xs = slice_get_within xs j w at in
    slice_get-get_or (slice_set xs i v) j false (omega (arith, within, length-set xs i v))
    ∙ ap (λ (b : Bool). Some b) (get_or-set_other xs i j v false ne ∙ get_or_from_slice_get xs j w false at)

-- one more node, from the last on
pub below_more : (rows : List Row) (all : Forest) (below : List Bool) (i n : ℕ) (r : Row) (inner : Bool) → AreRows rows all → AreBelow all below n → n ≡ i + 1 → length below ≡ length rows → slice_get rows i ≡ Some r
    → inner ≡ list_any (is_needed_at rows below) r.children → AreBelow all (slice_set below i inner) i
below_more rows all below i n r inner are known next many at is = λ k p le here.
    let row : IsNumbered all i r = is_numbered all i r (ap (λ (rs : List Row). slice_get rs i) (sym are) ∙ at) in
    let within : i < length rows = slice_get_within rows i r at in
    let kids : inner ≡ has_mandatory row.spot.place.kids =
    is ∙ ap (λ (q : Row). list_any (is_needed_at rows below) q.children) row.is ∙ ap (list_any (is_needed_at rows below)) row.known.children
    ∙ any_needed rows all below n are known (i + 1) row.spot.place.kids (omega arith) row.known.sit in
    elim (cases_eq k i) [
      | inl e ↦
          let same : row.spot.place ≡ p = let g : slice_get (places all) k ≡ Some row.spot.place = ap (slice_get (places all)) e ∙ row.at_place in cc (g, here) in
          set_same below i k inner e (omega (arith, within, many)) ∙ ap (λ (b : Bool). Some b) (kids ∙ ap (λ (q : Place). has_mandatory q.kids) same)
      | inr ne ↦ set_other below i k inner (has_mandatory p.kids) ne (known k p (omega (arith, le, ne, next)) here)
    ]

pub below_none : (rows : List Row) (all : Forest) (below : List Bool) (n : ℕ) → AreRows rows all → n ≡ length rows → AreBelow all below n
below_none rows all below n are e = λ k p le here. absurd (omega (arith, le, e, slice_get_within (places all) k p here, length_rows all, ap length are))
