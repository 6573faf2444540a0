-- Nodes that are known to have a name, by what earlier nodes name.
use Rattle.std.proofs.Common.{◌≡◌, ◌==◌, ℕ, ◌<◌, Bool, true, false, ◌&&◌, cond, List, [], ◌∷◌, length, map, Option, Some, None, get_or, refl, sym, ap, ◌∙◌, subst, Vec, Global, arith}
use Rattle.std.specs.List.{find, slice_get}
use Rattle.std.specs.Option.{option_and_then, option_map}
use Rattle.std.specs.Str.{bytes_eq}
use Rattle.std.proofs.lemmas.Option.{get_or_from_slice_get, same_Some, slice_get-get_or, slice_get-map, slice_get_past, slice_get_within}
use Rattle.std.proofs.lemmas.Slice.Eq.{bytes_eq-Decides}
use Rattle.yv_node_content.specs.Definition.{Definition, own_default}
use Rattle.yv_text_statement.specs.TextInFile.{TextInFile}
use Rattle.yv_node_content.specs.Kinds.{is_choice, is_leaf}
use Rattle.yv_node_content.specs.Steps.{Step}
use Rattle.yv_nodes.specs.declared.node.NodeId.{NodeId}
use Rattle.yv_nodes.specs.Alike.{untyped_at}
use Rattle.yv_nodes.specs.Rows.{Row, blank_row}
use Rattle.yv_node_keys.specs.Targets.{module_file_of}
use Rattle.yv_node_keys.specs.Numbers.{case_of, child_at, children_at, default_of, is_called_at, is_kind_at, is_some_called, key_leaf_at, leaf_of, module_file_at, unique_leaf_at}
use Rattle.yv_node_keys.specs.InnerNamesakes.{HaveNames, NamesDefault}
use Rattle.yv_nodes.specs.InnerNamesakes.{HasName}
use Rattle.yv_nodes.specs.InnerSpots.{node_id}
use Rattle.yv_node_keys.specs.InnerTargets.{AreLeafsOf, HasCase, HasLeafs, keys_in, uniques_in}
use Rattle.yv_node_keys.specs.declared.targets.ListLeafs.{ListLeafs}

-- what is found passes
pub found_passes : {A : Type 0} (p : A → Bool) (xs : List A) (x : A) → find p xs ≡ Some x → p x ≡ true
found_passes p [] x e = absurd (let bad : None ≡ Some x = e in cc)
found_passes {A} p (y ∷ ys) x e = by (found_passes p ys x) (p y) refl e
  where
    by : (find p ys ≡ Some x → p x ≡ true) → (b : Bool) → p y ≡ b → cond b (Some y) (find p ys) ≡ Some x → p x ≡ true
    by others true here e = subst (λ (z : A). p z ≡ true) (same_Some y x e) here
    by others false here e = others e

both_true : (a b : Bool) → (a && b) ≡ true → b ≡ true
both_true true b e = e
both_true false b e = absurd (let bad : false ≡ true = e in cc)

-- a node that is called so has the name
called : (rows : List Row) (module_file : ℕ) (name : List ℕ) (n : NodeId) → is_called_at rows module_file name n ≡ true → HasName rows name n.0
called rows module_file name n e = by (slice_get rows n.0) refl e
  where
    by : (o : Option Row) → slice_get rows n.0 ≡ o → is_some_called module_file name o ≡ true → HasName rows name n.0
    by None at e = absurd (let bad : false ≡ true = e in cc)
    by (Some r) at e = record {
      within = slice_get_within rows n.0 r at;
      is = ap (λ (x : Row). x.label.defined.name) (get_or_from_slice_get rows n.0 r blank_row at)
          ∙ (bytes_eq-Decides r.label.defined.name name).0 (both_true (r.label.module_file == module_file) (bytes_eq r.label.defined.name name) e);
    }

child_called : (rows : List Row) (module_file : ℕ) (name : List ℕ) (list n : NodeId) → child_at rows module_file name list ≡ Some n → HasName rows name n.0
child_called rows module_file name list n e = called rows module_file name n (found_passes (is_called_at rows module_file name) (children_at rows list) n e)

-- the leaf of a key has its name
leaf_called : (rows : List Row) (list : NodeId) (s : Step) (n : NodeId) → key_leaf_at rows list (Some s) ≡ Some n → HasName rows s.name n.0
leaf_called rows list s n e = by (child_at rows module_file s.name list) refl e
  where
    module_file : ℕ
    module_file = module_file_of (module_file_at rows list) s

    leaf_is : (b : Bool) (c : NodeId) → cond b (Some c) None ≡ Some n → c ≡ n
    leaf_is true c e = same_Some c n e
    leaf_is false c e = absurd (let bad : None ≡ Some n = e in cc)

    by : (o : Option NodeId) → child_at rows module_file s.name list ≡ o → option_and_then (leaf_of rows) o ≡ Some n → HasName rows s.name n.0
    by None is e = absurd (let bad : None ≡ Some n = e in cc)
    by (Some c) is e = child_called rows module_file s.name list n (is ∙ ap (λ (m : NodeId). Some m) (leaf_is (is_kind_at rows is_leaf c) c e))

-- the leafs that are kept of a list have the names of its key
pub leafs_called : (rows : List Row) (f : ℕ) (kept : Option ListLeafs) (keys : List (Option Step)) → f < length rows
    → ((leafs : ListLeafs) → kept ≡ Some leafs → HasLeafs rows f (Some leafs)) → keys ≡ (untyped_at rows f).keys → HaveNames rows keys (keys_in kept)
leafs_called rows f None keys lt right same = λ i s n at there. absurd (let bad : None ≡ Some n = sym (slice_get_past [] i (omega arith)) ∙ there in cc)
leafs_called rows f (Some leafs) keys lt right same = λ i s n at there.
    let r : Row = get_or rows f blank_row in
    let are : AreLeafsOf rows f r (Some leafs) = right leafs refl r (slice_get-get_or rows f blank_row lt) in
    let g : Option Step → Option NodeId = key_leaf_at rows (node_id f) in
    let left : slice_get (map (λ (m : NodeId). Some m) leafs.keys.items) i ≡ Some (Some n) = slice_get-map (λ (m : NodeId). Some m) leafs.keys.items i ∙ ap (option_map (λ (m : NodeId). Some m)) there in
    let right : slice_get (map g keys) i ≡ Some (g (Some s)) = slice_get-map g keys i ∙ ap (option_map g) at in
    let both : Some (g (Some s)) ≡ Some (Some n) = sym right ∙ ap (λ (ks : List (Option Step)). slice_get (map g ks) i) same ∙ ap (λ (xs : List (Option NodeId)). slice_get xs i) (sym are.keys) ∙ left in
    leaf_called rows (node_id f) s n (same_Some (g (Some s)) (Some n) both)

-- the leafs that are kept of a list are those that its key names
pub leafs_known : (rows : List Row) (f : NodeId) (kept : Option ListLeafs) (keys : List (Option Step)) → f.0 < length rows
    → ((leafs : ListLeafs) → kept ≡ Some leafs → HasLeafs rows f.0 (Some leafs)) → keys ≡ (untyped_at rows f.0).keys
    → length (keys_in kept) ≡ length keys → map (λ n. Some n) (keys_in kept) ≡ map (key_leaf_at rows f) keys
leafs_known rows f None [] lt right same long = refl
leafs_known rows f None (key ∷ keys) lt right same long = absurd (omega (arith, long))
leafs_known rows f (Some leafs) keys lt right same long =
    let r : Row = get_or rows f.0 blank_row in
    let are : AreLeafsOf rows f.0 r (Some leafs) = right leafs refl r (slice_get-get_or rows f.0 blank_row lt) in
    are.keys ∙ ap (map (key_leaf_at rows f)) (sym same)

-- the leafs that are kept of a list are those that its `unique` statements name
pub uniques_known : (rows : List Row) (f : NodeId) (kept : Option ListLeafs) (uniques : List (List (List (Option Step)))) → f.0 < length rows
    → ((leafs : ListLeafs) → kept ≡ Some leafs → HasLeafs rows f.0 (Some leafs)) → uniques ≡ (untyped_at rows f.0).uniques
    → length (uniques_in kept) ≡ length uniques → map (λ (v : Vec NodeId Global). map (λ n. Some n) v.items) (uniques_in kept) ≡ map (map (unique_leaf_at rows f)) uniques
uniques_known rows f None [] lt right same long = refl
uniques_known rows f None (paths ∷ uniques) lt right same long = absurd (omega (arith, long))
uniques_known rows f (Some leafs) uniques lt right same long =
    let r : Row = get_or rows f.0 blank_row in
    let are : AreLeafsOf rows f.0 r (Some leafs) = right leafs refl r (slice_get-get_or rows f.0 blank_row lt) in
    are.uniques ∙ ap (map (map (unique_leaf_at rows f))) (sym same)

-- what the default of a choice says, by what is said of it
default_in : Definition → Option TextInFile
default_in d = cond (is_choice d.kind) (own_default d) None

-- the case that is kept of a choice has the name of its default
pub case_called : (rows : List Row) (f n : ℕ) (kept : Option NodeId) → f < length rows → n < length rows → ((case : NodeId) → kept ≡ Some case → HasCase rows f (Some case))
    → untyped_at rows f ≡ untyped_at rows n → NamesDefault rows n kept
unfolding default_in
case_called rows f n None known lt right same = λ written says. tt
case_called rows f n (Some case) known lt right same = λ written says.
    let there : default_of (slice_get rows f) ≡ Some written =
    ap default_of (slice_get-get_or rows f blank_row known) ∙ ap default_in same ∙ sym (ap default_of (slice_get-get_or rows n blank_row lt)) ∙ says in
    child_called rows (module_file_at rows (node_id f)) written.text (node_id f) case (sym (right case refl ∙ ap (case_of rows (node_id f)) there))

-- what both name is what the list names
pub has_both : (rows : List Row) (k : ℕ) (r : Row) → slice_get rows k ≡ Some r → (keys : Option (Vec NodeId Global)) (uniques : Option (Vec (Vec NodeId Global) Global))
    → ((ks : Vec NodeId Global) (us : Vec (Vec NodeId Global) Global) → keys ≡ Some ks → uniques ≡ Some us → AreLeafsOf rows k r (Some (record { keys = ks; uniques = us })))
    → (ks : Vec NodeId Global) (us : Vec (Vec NodeId Global) Global) → keys ≡ Some ks → uniques ≡ Some us → HasLeafs rows k (Some (record { keys = ks; uniques = us }))
has_both rows k r at keys uniques are ks us e f = λ s here.
    subst (λ (t : Row). AreLeafsOf rows k t (Some (record { keys = ks; uniques = us }))) (same_Some r s (sym at ∙ here)) (are ks us e f)
