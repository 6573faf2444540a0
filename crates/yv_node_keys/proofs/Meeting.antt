-- The nodes of a tree and those of its numbers, step by step.
use Rattle.std.proofs.Common.{◌≡◌, ℕ, ◌+◌, ◌<◌, Bool, true, false, ◌&&◌, not, cond, List, [], ◌∷◌, length, refl, sym, ap, ◌∙◌, subst, arith, Option, Some, None, is_some}
use Rattle.std.specs.Prelude.{◌||◌}
use Rattle.std.specs.List.{find, list_any, slice_get}
use Rattle.std.specs.Option.{option_and_then, option_map}
use Rattle.std.proofs.lemmas.List.{length-map}
use Rattle.std.proofs.lemmas.Option.{same_Some}
use Rattle.yv_node_content.specs.declared.kind.NodeKind.{NodeKind}
use Rattle.yv_node_content.specs.Kinds.{is_case, is_choice, is_leaf, is_list}
use Rattle.yv_nodes.specs.declared.node.NodeId.{NodeId}
use Rattle.yv_nodes.specs.Tree.{Label, Tree, node, Forest, no_trees, tree, count}
use Rattle.yv_nodes.specs.Places.{Place, places}
use Rattle.yv_nodes.specs.Rows.{Row, root}
use Rattle.yv_nodes.specs.Numbers.{numbers_from, rows_from}
use Rattle.yv_node_content.specs.Steps.{Step}
use Rattle.yv_node_content.specs.Definition.{own_default}
use Rattle.yv_text_statement.specs.TextInFile.{TextInFile}
use Rattle.yv_node_keys.specs.Targets.{Waypoint, at_node, at_shorthand_case, arrive, default_case, module_file_of, key_leaf, leaf_among, leaf_at_end, leaf_in, leaf_at, follow_step, step_to, unique_leaf}
use Rattle.yv_nodes.specs.Children.{is_called, child_named, child_of_text}
use Rattle.yv_node_keys.specs.Numbers.{arrived_at, case_of, child_at, children_of, default_of, default_case_at, is_called_at, is_some_called, is_kind_at, is_some_kind, key_leaf_at, leaf_at_end_of, leaf_below, leaf_of, led_at, led_by_at, module_file_at, module_file_of_row, stepped_at, tree_at, tree_in, unique_leaf_at}
use Rattle.yv_node_keys.specs.Refusals.{is_bad_key, is_bad_statement, is_config_leaf, is_state_leaf}
use Rattle.yv_node_keys.specs.InnerMixedConfig.{is_bad_statement_at, is_some_config, is_config_of}
use Rattle.yv_nodes.specs.InnerSpots.{Sits, Spot, node_id, place_of, row_of, spots}
use Rattle.yv_node_keys.specs.declared.place.Way.{Way}
use Rattle.yv_node_keys.specs.declared.place.Way.TheVariants.{AtNode, AtShorthandCase}
use Rattle.yv_node_keys.proofs.Listing.{any_same}
use Rattle.yv_node_keys.proofs.Spots.{IsSpot, all_sit, length_spots, map_get, others_sit, own, places_spots, rows_spots, slice_within, spot_first, spot_in}

-- where both lead on alike, they lead on alike from what is alike
onward : {A B C D : Type 0} (a : A → Option B) (c : C → Option D) (f : A → Option C) (g : B → Option D)
    → ((x : A) (y : B) → a x ≡ Some y → option_map c (f x) ≡ option_map (λ (d : D). Some d) (g y))
    → (o : Option A) (p : Option B) → option_map a o ≡ option_map (λ (b : B). Some b) p
    → option_map c (option_and_then f o) ≡ option_map (λ (d : D). Some d) (option_and_then g p)
onward a c f g on None None e = refl
onward {B = B} a c f g on None (Some y) e = absurd (let bad : None ≡ Some (Some y) = e in cc)
onward a c f g on (Some x) None e = absurd (let bad : Some (a x) ≡ None = e in cc)
onward a c f g on (Some x) (Some y) e = on x y (same_Some (a x) (Some y) e)

-- what is alike is there or isn't
pub both_there : {A B : Type 0} (a : A → Option B) (o : Option A) (p : Option B) → option_map a o ≡ option_map (λ (b : B). Some b) p → is_some o ≡ is_some p
both_there a None None e = refl
both_there a None (Some y) e = absurd (let bad : None ≡ Some (Some y) = e in cc)
both_there a (Some x) None e = absurd (let bad : Some (a x) ≡ None = e in cc)
both_there a (Some x) (Some y) e = refl

-- what is known of a numbered node
record IsAt (all : Forest) (n : NodeId) (l : Label) (kids : Forest) : Type 0 where
  row : Row
  at_row : slice_get (rows_from 0 all) n.0 ≡ Some row
  label : row.label ≡ l
  children : row.children ≡ numbers_from (n.0 + 1) kids
  sit : Sits (spots all) (n.0 + 1) kids

module _ (all : Forest) where
  spot_row : (k : ℕ) (s : Spot) → slice_get (spots all) k ≡ Some s → slice_get (rows_from 0 all) k ≡ Some (row_of s)
  spot_row k s at = ap (λ (rs : List Row). slice_get rs k) (rows_spots root [] 0 all) ∙ map_get row_of (spots all) k s at

  spot_place : (k : ℕ) (s : Spot) → slice_get (spots all) k ≡ Some s → slice_get (places all) k ≡ Some s.place
  spot_place k s at = ap (λ (ps : List Place). slice_get ps k) (places_spots root [] 0 all) ∙ map_get place_of (spots all) k s at

  place_within : (k : ℕ) (p : Place) → slice_get (places all) k ≡ Some p → k < count all
  place_within k p at =
      omega (arith, slice_within (places all) k p at, ap length (places_spots root [] 0 all) ∙ length-map (spots all) place_of, length_spots root [] 0 all)

  known_by : (n : NodeId) (l : Label) (kids : Forest) (o : Option Place) → slice_get (places all) n.0 ≡ o → option_map tree_in o ≡ Some (node l kids) → IsAt all n l kids
  known_by n l kids None at e = absurd (let bad : None ≡ Some (node l kids) = e in cc)
  known_by n l kids (Some p) at e =
      let found = spot_in (spots all) 0 n.0 n.0 all (place_within n.0 p at) (omega arith) (all_sit all) in
      let s : Spot = found.0 in
      let known : IsSpot (spots all) n.0 s = found.2 in
      let same : s.place ≡ p = same_Some s.place p (sym (spot_place n.0 s found.1) ∙ at) in
      let trees : node p.label p.kids ≡ node l kids = same_Some (node p.label p.kids) (node l kids) e in
      let label_is : p.label ≡ l = cc in
      let kids_are : p.kids ≡ kids = cc in
      let below : s.place.kids ≡ kids = ap (λ (q : Place). q.kids) same ∙ kids_are in
      record {
        row = row_of s;
        at_row = spot_row n.0 s found.1;
        label = ap (λ (q : Place). q.label) same ∙ label_is;
        children = known.children ∙ ap (numbers_from (n.0 + 1)) below;
        sit = subst (Sits (spots all) (n.0 + 1)) below known.sit;
      }

  known : (n : NodeId) (l : Label) (kids : Forest) → tree_at all n ≡ Some (node l kids) → IsAt all n l kids
  known n l kids e = known_by n l kids (slice_get (places all) n.0) refl e

  abbrev rows : List Row
  rows = rows_from 0 all

  module _ (module_file : ℕ) (name : List ℕ) where
    called_is : (b : Bool) (c : NodeId) (t : Tree) (rest : Option NodeId) (others : Option Tree) → tree_at all c ≡ Some t → option_map (tree_at all) rest ≡ option_map (λ (u : Tree). Some u) others
        → option_map (tree_at all) (cond b (Some c) rest) ≡ option_map (λ (u : Tree). Some u) (cond b (Some t) others)
    called_is true c t rest others e on = ap Some e
    called_is false c t rest others e on = on

    -- of nodes that stand side by side the same is the first
    first_is : (at : ℕ) (ts : Forest) → Sits (spots all) at ts → option_map (tree_at all) (find (is_called_at rows module_file name) (numbers_from at ts)) ≡ option_map (λ (u : Tree). Some u) (child_named module_file name ts)
    first_is at no_trees h = refl
    first_is at (tree (node l kids) ts) h =
        let s : Spot = own (spots all) at l kids ts h in
        let first = spot_first (spots all) at l kids ts h in
        let here : tree_at all (node_id at) ≡ Some (node l kids) = ap (option_map tree_in) (spot_place at s first) in
        let rest : Option NodeId = find (is_called_at rows module_file name) (numbers_from (at + 1 + count kids) ts) in
        ap (λ (o : Option Row). option_map (tree_at all) (cond (is_some_called module_file name o) (Some (node_id at)) rest)) (spot_row at s first)
        ∙ called_is (is_called module_file name l) (node_id at) (node l kids) rest (child_named module_file name ts) here (first_is (at + 1 + count kids) ts (others_sit (spots all) at l kids ts h))

    child_is : (n : NodeId) (l : Label) (kids : Forest) → IsAt all n l kids → option_map (tree_at all) (child_at rows module_file name n) ≡ option_map (λ (u : Tree). Some u) (child_named module_file name kids)
    child_is n l kids is =
        ap (λ (o : Option Row). option_map (tree_at all) (find (is_called_at rows module_file name) (children_of o))) is.at_row
        ∙ ap (λ (cs : List NodeId). option_map (tree_at all) (find (is_called_at rows module_file name) cs)) is.children
        ∙ first_is (n.0 + 1) kids is.sit

  kind_is : (test : NodeKind → Bool) (n : NodeId) (l : Label) (kids : Forest) → IsAt all n l kids → is_kind_at rows test n ≡ test l.defined.kind
  kind_is test n l kids is = ap (is_some_kind test) is.at_row ∙ ap (λ (m : Label). test m.defined.kind) is.label

  module_file_is : (n : NodeId) (l : Label) (kids : Forest) → IsAt all n l kids → module_file_at rows n ≡ l.module_file
  module_file_is n l kids is = ap module_file_of_row is.at_row ∙ ap (λ (m : Label). m.module_file) is.label

  kept : (b : Bool) (n : NodeId) (t : Tree) → tree_at all n ≡ Some t → option_map (tree_at all) (cond b (Some n) None) ≡ option_map (λ (u : Tree). Some u) (cond b (Some t) None)
  kept true n t e = ap Some e
  kept false n t e = refl

  leaf_is : (n : NodeId) (t : Tree) → tree_at all n ≡ Some t → option_map (tree_at all) (leaf_of rows n) ≡ option_map (λ (u : Tree). Some u) (leaf_in t)
  leaf_is n (node l kids) e =
      ap (λ (b : Bool). option_map (tree_at all) (cond b (Some n) None)) (kind_is is_leaf n l kids (known n l kids e))
      ∙ kept (is_leaf l.defined.kind) n (node l kids) e

  below_is : (module_file : ℕ) (n : NodeId) (l : Label) (kids : Forest) (s : Option Step) → IsAt all n l kids
      → option_map (tree_at all) (leaf_below rows module_file n s) ≡ option_map (λ (u : Tree). Some u) (leaf_among module_file s kids)
  below_is module_file n l kids None is = refl
  below_is module_file n l kids (Some s) is =
      onward (tree_at all) (tree_at all) (leaf_of rows) leaf_in leaf_is (child_at rows (module_file_of module_file s) s.name n) (child_named (module_file_of module_file s) s.name kids) (child_is (module_file_of module_file s) s.name n l kids is)

  pub key_is : (list : NodeId) (t : Tree) (s : Option Step) → tree_at all list ≡ Some t → option_map (tree_at all) (key_leaf_at rows list s) ≡ option_map (λ (u : Tree). Some u) (key_leaf t s)
  key_is list (node l kids) s e =
      let is : IsAt all list l kids = known list l kids e in
      ap (λ (module_file : ℕ). option_map (tree_at all) (leaf_below rows module_file list s)) (module_file_is list l kids is) ∙ below_is l.module_file list l kids s is

  named_case : (written : Option TextInFile) (n : NodeId) (l : Label) (kids : Forest) → IsAt all n l kids
      → option_map (tree_at all) (case_of rows n written) ≡ option_map (λ (u : Tree). Some u) (child_of_text l.module_file written kids)
  named_case None n l kids is = refl
  named_case (Some written) n l kids is =
      ap (λ (module_file : ℕ). option_map (tree_at all) (child_at rows module_file written.text n)) (module_file_is n l kids is) ∙ child_is l.module_file written.text n l kids is

  chosen_case : (b : Bool) (written : Option TextInFile) (n : NodeId) (l : Label) (kids : Forest) → IsAt all n l kids
      → option_map (tree_at all) (case_of rows n (cond b written None)) ≡ option_map (λ (u : Tree). Some u) (cond b (child_of_text l.module_file written kids) None)
  chosen_case true written n l kids is = named_case written n l kids is
  chosen_case false written n l kids is = refl

  pub case_is : (choice : NodeId) (t : Tree) → tree_at all choice ≡ Some t → option_map (tree_at all) (default_case_at rows choice) ≡ option_map (λ (u : Tree). Some u) (default_case t)
  case_is choice (node l kids) e =
      let is : IsAt all choice l kids = known choice l kids e in
      ap (λ (o : Option Row). option_map (tree_at all) (case_of rows choice (default_of o))) is.at_row
      ∙ ap (λ (m : Label). option_map (tree_at all) (case_of rows choice (cond (is_choice m.defined.kind) (own_default m.defined) None))) is.label
      ∙ chosen_case (is_choice l.defined.kind) (own_default l.defined) choice l kids is

  way_at : Way → Option Waypoint
  way_at (AtNode n) = option_map at_node (tree_at all n)
  way_at (AtShorthandCase n) = option_map at_shorthand_case (tree_at all n)

  way_by : (left_out : Bool) (n : NodeId) (t : Tree) → tree_at all n ≡ Some t → way_at (cond left_out (AtShorthandCase n) (AtNode n)) ≡ Some (cond left_out (at_shorthand_case t) (at_node t))
  unfolding way_at
  way_by true n t e = ap (option_map at_shorthand_case) e
  way_by false n t e = ap (option_map at_node) e

  arrived_by : (list left_out : Bool) (n : NodeId) (t : Tree) → tree_at all n ≡ Some t
      → option_map way_at (cond list None (Some (cond left_out (AtShorthandCase n) (AtNode n)))) ≡ option_map (λ (v : Waypoint). Some v) (cond list None (Some (cond left_out (at_shorthand_case t) (at_node t))))
  arrived_by true left_out n t e = refl
  arrived_by false left_out n t e = ap Some (way_by left_out n t e)

  arrived_is : (above : NodeId) (l : Label) (kids : Forest) → IsAt all above l kids → (n : NodeId) (t : Tree) → tree_at all n ≡ Some t
      → option_map way_at (arrived_at rows above n) ≡ option_map (λ (v : Waypoint). Some v) (arrive l t)
  arrived_is above l kids is n (node m inner) e =
      let here : IsAt all n m inner = known n m inner e in
      let list_is = kind_is is_list n m inner here in
      let choice_is = kind_is is_choice above l kids is in
      let case_is = kind_is is_case n m inner here in
      ap (λ (b : Bool). option_map way_at (cond b None (Some (cond (is_kind_at rows is_choice above && not (is_kind_at rows is_case n)) (AtShorthandCase n) (AtNode n))))) list_is
      ∙ ap (λ (b : Bool). option_map way_at (cond (is_list m.defined.kind) None (Some (cond (b && not (is_kind_at rows is_case n)) (AtShorthandCase n) (AtNode n))))) choice_is
      ∙ ap (λ (b : Bool). option_map way_at (cond (is_list m.defined.kind) None (Some (cond (is_choice l.defined.kind && not b) (AtShorthandCase n) (AtNode n))))) case_is
      ∙ arrived_by (is_list m.defined.kind) (is_choice l.defined.kind && not (is_case m.defined.kind)) n (node m inner) e

  called_at : (module_file : ℕ) (name : List ℕ) (n : NodeId) (l : Label) (kids : Forest) → IsAt all n l kids → is_called_at rows module_file name n ≡ is_called module_file name l
  called_at module_file name n l kids is = ap (is_some_called module_file name) is.at_row ∙ ap (is_called module_file name) is.label

  entered : (b : Bool) (n : NodeId) (t : Tree) → tree_at all n ≡ Some t → option_map way_at (cond b (Some (AtNode n)) None) ≡ option_map (λ (v : Waypoint). Some v) (cond b (Some (at_node t)) None)
  unfolding way_at
  entered true n t e = ap (λ (o : Option Tree). Some (option_map at_node o)) e
  entered false n t e = refl

  module _ (module_file : ℕ) (name : List ℕ) where
    abbrev Alike : Way → Waypoint → Type 0
    Alike w v = option_map way_at (stepped_at rows module_file name w) ≡ option_map (λ (u : Waypoint). Some u) (step_to module_file name v)

    from_node : (n : NodeId) (t : Tree) → tree_at all n ≡ Some t → Alike (AtNode n) (at_node t)
    from_node n (node l kids) e =
        let is : IsAt all n l kids = known n l kids e in
        onward (tree_at all) way_at (arrived_at rows n) (arrive l) (arrived_is n l kids is) (child_at rows module_file name n) (child_named module_file name kids) (child_is module_file name n l kids is)

    from_case : (n : NodeId) (t : Tree) → tree_at all n ≡ Some t → Alike (AtShorthandCase n) (at_shorthand_case t)
    from_case n (node l kids) e =
        ap (λ (b : Bool). option_map way_at (cond b (Some (AtNode n)) None)) (called_at module_file name n l kids (known n l kids e))
        ∙ entered (is_called module_file name l) n (node l kids) e

    none_some : {X : Type 0} (x : X) → None ≡ Some x → ⊥
    none_some x e = cc

    by_node : (n : NodeId) (v : Waypoint) (o : Option Tree) → tree_at all n ≡ o → option_map at_node o ≡ Some v → Alike (AtNode n) v
    by_node n v None e is = absurd (none_some v is)
    by_node n v (Some t) e is = subst (Alike (AtNode n)) (same_Some (at_node t) v is) (from_node n t e)

    by_case : (n : NodeId) (v : Waypoint) (o : Option Tree) → tree_at all n ≡ o → option_map at_shorthand_case o ≡ Some v → Alike (AtShorthandCase n) v
    by_case n v None e is = absurd (none_some v is)
    by_case n v (Some t) e is = subst (Alike (AtShorthandCase n)) (same_Some (at_shorthand_case t) v is) (from_case n t e)

    stepped_is : (w : Way) (v : Waypoint) → way_at w ≡ Some v → Alike w v
    unfolding way_at
    stepped_is (AtNode n) v e = by_node n v (tree_at all n) refl e
    stepped_is (AtShorthandCase n) v e = by_case n v (tree_at all n) refl e

  led_by_is : (module_file : ℕ) (s : Option Step) (w : Way) (v : Waypoint) → way_at w ≡ Some v → option_map way_at (led_by_at rows module_file s w) ≡ option_map (λ (u : Waypoint). Some u) (follow_step module_file s v)
  led_by_is module_file None w v e = refl
  led_by_is module_file (Some s) w v e = stepped_is (module_file_of module_file s) s.name w v e

  abbrev Ends : Way → Waypoint → Type 0
  Ends w v = option_map (tree_at all) (leaf_at_end_of rows w) ≡ option_map (λ (u : Tree). Some u) (leaf_at_end v)

  end_node : (n : NodeId) (v : Waypoint) (o : Option Tree) → tree_at all n ≡ o → option_map at_node o ≡ Some v → Ends (AtNode n) v
  end_node n v None e is = absurd (none_some 0 [] v is)
  end_node n v (Some t) e is = subst (Ends (AtNode n)) (same_Some (at_node t) v is) (leaf_is n t e)

  end_case : (n : NodeId) (v : Waypoint) (o : Option Tree) → option_map at_shorthand_case o ≡ Some v → Ends (AtShorthandCase n) v
  end_case n v None is = absurd (none_some 0 [] v is)
  end_case n v (Some t) is = subst (Ends (AtShorthandCase n)) (same_Some (at_shorthand_case t) v is) refl

  end_is : (w : Way) (v : Waypoint) → way_at w ≡ Some v → Ends w v
  unfolding way_at
  end_is (AtNode n) v e = end_node n v (tree_at all n) refl e
  end_is (AtShorthandCase n) v e = end_case n v (tree_at all n) e

  led_is : (module_file : ℕ) (ss : List (Option Step)) (w : Way) (v : Waypoint) → way_at w ≡ Some v → option_map (tree_at all) (led_at rows module_file ss w) ≡ option_map (λ (u : Tree). Some u) (leaf_at module_file ss v)
  led_is module_file [] w v e = end_is w v e
  led_is module_file (s ∷ ss) w v e =
      onward way_at (tree_at all) (led_at rows module_file ss) (leaf_at module_file ss) (led_is module_file ss) (led_by_at rows module_file s w) (follow_step module_file s v) (led_by_is module_file s w v e)

  pub path_is : (list : NodeId) (t : Tree) (path : List (Option Step)) → tree_at all list ≡ Some t → option_map (tree_at all) (unique_leaf_at rows list path) ≡ option_map (λ (u : Tree). Some u) (unique_leaf t path)
  unfolding way_at
  path_is list t [] e = refl
  path_is list (node l kids) (s ∷ ss) e =
      let is : IsAt all list l kids = known list l kids e in
      ap (λ (module_file : ℕ). option_map (tree_at all) (led_at rows module_file (s ∷ ss) (AtNode list))) (module_file_is list l kids is)
      ∙ led_is l.module_file (s ∷ ss) (AtNode list) (at_node (node l kids)) (ap (option_map at_node) e)

  config_is : (o : Option NodeId) (t : Option Tree) → option_map (tree_at all) o ≡ option_map (λ (u : Tree). Some u) t → is_config_of rows true o ≡ is_config_leaf t
  config_is None None e = refl
  config_is None (Some t) e = absurd (none_some 0 [] (Some t) e)
  config_is (Some n) None e = absurd (none_some 0 [] (tree_at all n) (sym e))
  config_is (Some n) (Some (node l kids)) e =
      let is : IsAt all n l kids = known n l kids (same_Some (tree_at all n) (Some (node l kids)) e) in
      ap (is_some_config true) is.at_row ∙ ap (λ (m : Label). m.is_config) is.label

  state_is : (o : Option NodeId) (t : Option Tree) → option_map (tree_at all) o ≡ option_map (λ (u : Tree). Some u) t → is_config_of rows false o ≡ is_state_leaf t
  state_is None None e = refl
  state_is None (Some t) e = absurd (none_some 0 [] (Some t) e)
  state_is (Some n) None e = absurd (none_some 0 [] (tree_at all n) (sym e))
  state_is (Some n) (Some (node l kids)) e =
      let is : IsAt all n l kids = known n l kids (same_Some (tree_at all n) (Some (node l kids)) e) in
      ap (is_some_config false) is.at_row ∙ ap (λ (m : Label). not m.is_config) is.label

  pub statement_is : (list : NodeId) (t : Tree) (paths : List (List (Option Step))) → tree_at all list ≡ Some t → is_bad_statement_at rows list paths ≡ is_bad_statement t paths
  statement_is list t paths e =
      let is = λ (path : List (Option Step)). path_is list t path e in
      let missing = any_same (λ path. not (is_some (unique_leaf_at rows list path))) (λ path. not (is_some (unique_leaf t path)))
      (λ path. ap not (both_there (tree_at all) (unique_leaf_at rows list path) (unique_leaf t path) (is path))) paths in
      let config = any_same (λ path. is_config_of rows true (unique_leaf_at rows list path)) (λ path. is_config_leaf (unique_leaf t path)) (λ path. config_is (unique_leaf_at rows list path) (unique_leaf t path) (is path)) paths in
      let state = any_same (λ path. is_config_of rows false (unique_leaf_at rows list path)) (λ path. is_state_leaf (unique_leaf t path)) (λ path. state_is (unique_leaf_at rows list path) (unique_leaf t path) (is path)) paths in
      ap (λ (b : Bool). b || (list_any (λ path. is_config_of rows true (unique_leaf_at rows list path)) paths && list_any (λ path. is_config_of rows false (unique_leaf_at rows list path)) paths)) missing
      ∙ ap (λ (b : Bool). list_any (λ path. not (is_some (unique_leaf t path))) paths || (b && list_any (λ path. is_config_of rows false (unique_leaf_at rows list path)) paths)) config
      ∙ ap (λ (b : Bool). list_any (λ path. not (is_some (unique_leaf t path))) paths || (list_any (λ path. is_config_leaf (unique_leaf t path)) paths && b)) state

-- names lead to no leaf by numbers where they lead to none in the tree
pub missing_by : (ts : Forest) (rows : List Row) (list : NodeId) (p : Place) (keys : List (Option Step)) → rows ≡ rows_from 0 ts → slice_get (places ts) list.0 ≡ Some p
    → list_any (λ s. not (is_some (key_leaf_at rows list s))) keys ≡ is_bad_key (tree_in p) keys
missing_by ts rows list p keys are at = any_same (λ s. not (is_some (key_leaf_at rows list s))) (λ s. not (is_some (key_leaf (tree_in p) s))) same keys
  where
    same : (s : Option Step) → not (is_some (key_leaf_at rows list s)) ≡ not (is_some (key_leaf (tree_in p) s))
    same s =
        ap (λ (rs : List Row). not (is_some (key_leaf_at rs list s))) are
        ∙ ap not (both_there (tree_at ts) _ _ (key_is ts list (tree_in p) s (ap (option_map tree_in) at)))
