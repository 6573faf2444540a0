-- What is found below one list is found below another, by pairs of nodes that are called alike.
use Rattle.std.proofs.Common.{◌≡◌, ◌==◌, ◌+◌, ◌&&◌, ◌<◌, arith, eqb-true, ℕ, Bool, true, false, cond, List, [], ◌∷◌, ◌++◌, length, map, take, drop, take-append-drop, get_or, Option, Some, None, IfSome, refl, sym, ap, ap₂, ◌∙◌, subst}
use Rattle.std.specs.List.{find}
use Rattle.std.specs.Option.{option_and_then}
use Rattle.std.proofs.lemmas.Bool.{false≢true}
use Rattle.std.proofs.lemmas.Bool.Decides.{nat_tests}
use Rattle.std.proofs.lemmas.List.{take_more}
use Rattle.std.proofs.lemmas.Option.{same_Some, slice_get-get_or}
use Rattle.std.proofs.lemmas.Slice.Eq.{bytes_eq-Decides}
use Rattle.std.specs.Str.{bytes_eq}
use Rattle.yv_node_content.specs.Kinds.{is_leaf}
use Rattle.yv_nodes.specs.Alike.{untyped_at}
use Rattle.yv_node_content.specs.Steps.{Step}
use Rattle.yv_nodes.specs.declared.node.NodeId.{NodeId}
use Rattle.yv_nodes.specs.Rows.{Row, blank_row}
use Rattle.yv_node_keys.specs.Targets.{module_file_of}
use Rattle.yv_node_keys.specs.Numbers.{child_at, children_at, is_called_at, is_kind_at, is_some_called, key_leaf_at, leaf_of, module_file_at}
use Rattle.yv_node_keys.specs.InnerCounterparts.{AreCalledAlike, ArePairs, counterpart, leaf_counterpart, no_pairs, pair}
use Rattle.yv_node_keys.proofs.Namesakes.{found_passes}

-- the counterpart of the first node that is called so is the first that is, of those that go on
-- after the pairs
pub found_beside : (rows : List Row) (module_file : ℕ) (name : List ℕ) (xs ys others more : List NodeId) (x y : NodeId) → ArePairs rows xs ys
    → find (is_called_at rows module_file name) (xs ++ others) ≡ Some x → counterpart x xs ys ≡ Some y → find (is_called_at rows module_file name) (ys ++ more) ≡ Some y
found_beside rows module_file name [] [] others more x y no_pairs found is = let bad : None ≡ Some y = is in absurd (cc)
found_beside rows module_file name [] (b ∷ ys) others more x y pairs found is = elim pairs [ ]
found_beside rows module_file name (a ∷ xs) [] others more x y pairs found is = elim pairs [ ]
found_beside rows module_file name (a ∷ xs) (b ∷ ys) others more x y (pair alike rest) found is =
    by (found_beside rows module_file name xs ys others more x y rest) (p a) refl found (a.0 == x.0) refl is
  where
    p : NodeId → Bool
    p = is_called_at rows module_file name

    by : (find p (xs ++ others) ≡ Some x → counterpart x xs ys ≡ Some y → find p (ys ++ more) ≡ Some y) → (here : Bool) → p a ≡ here → cond here (Some a) (find p (xs ++ others)) ≡ Some x → (same : Bool) → (a.0 == x.0) ≡ same → cond same (Some b) (counterpart x xs ys) ≡ Some y
        → cond (p b) (Some b) (find p (ys ++ more)) ≡ Some y
    by behind true here found same eq is =
        let one : a ≡ x = same_Some a x found in
        let e : (a.0 == x.0) ≡ true = ap (λ (n : NodeId). n.0 == x.0) one ∙ grind (arith, nat_tests) in
        let is_true : same ≡ true = sym eq ∙ e in
        let there : Some b ≡ Some y = sym (ap (λ (v : Bool). cond v (Some b) (counterpart x xs ys)) is_true) ∙ is in
        ap (λ (v : Bool). cond v (Some b) (find p (ys ++ more))) (sym (alike module_file name) ∙ here) ∙ there
    by behind false here found true eq is =
        let passes : p x ≡ true = found_passes p (xs ++ others) x found in
        let one : a ≡ x = ap (λ (n : ℕ). record { 0 = n }) (eqb-true a.0 x.0 eq) in
        absurd (false≢true (sym here ∙ ap p one ∙ passes))
    by behind false here found false eq is =
        ap (λ (v : Bool). cond v (Some b) (find p (ys ++ more))) (sym (alike module_file name) ∙ here) ∙ behind found is

-- a leaf that follows is what it follows
leaf_there : (rows : List Row) (o : Option NodeId) (x : NodeId) → option_and_then (leaf_of rows) o ≡ Some x → (o ≡ Some x) × (leaf_of rows x ≡ Some x)
leaf_there rows None x e = absurd (let bad : None ≡ Some x = e in cc)
leaf_there rows (Some c) x e =
    let one : c ≡ x = leaf_is (is_kind_at rows is_leaf c) e in
    (ap (λ (n : NodeId). Some n) one, subst (λ (n : NodeId). leaf_of rows n ≡ Some x) one e)
  where
    leaf_is : (b : Bool) → cond b (Some c) None ≡ Some x → c ≡ x
    leaf_is true h = same_Some c x h
    leaf_is false h = absurd (let bad : None ≡ Some x = h in cc)

-- nodes with one module and one name are called alike
pub called_alike : (rows : List Row) (one other : NodeId) → one.0 < length rows → other.0 < length rows
    → (get_or rows one.0 blank_row).label.module_file ≡ (get_or rows other.0 blank_row).label.module_file
    → bytes_eq (untyped_at rows one.0).name (untyped_at rows other.0).name ≡ true → AreCalledAlike rows one other
called_alike rows one other within beside same_file same_name module_file name =
    let p : Row = get_or rows one.0 blank_row in
    let q : Row = get_or rows other.0 blank_row in
    let names : p.label.defined.name ≡ q.label.defined.name = (bytes_eq-Decides p.label.defined.name q.label.defined.name).0 same_name in
    ap (is_some_called module_file name) (slice_get-get_or rows one.0 blank_row within)
    ∙ ap₂ (λ (h : ℕ) (n : List ℕ). (h == module_file) && bytes_eq n name) same_file names
    ∙ sym (ap (is_some_called module_file name) (slice_get-get_or rows other.0 blank_row beside))

-- one more pair
pub pairs_more : (rows : List Row) (xs ys : List NodeId) (x y : NodeId) → ArePairs rows xs ys → AreCalledAlike rows x y → ArePairs rows (xs ++ x ∷ []) (ys ++ y ∷ [])
pairs_more rows [] [] x y no_pairs alike = pair alike no_pairs
pairs_more rows [] (b ∷ ys) x y pairs alike = elim pairs [ ]
pairs_more rows (a ∷ xs) [] x y pairs alike = elim pairs [ ]
pairs_more rows (a ∷ xs) (b ∷ ys) x y (pair here rest) alike = pair here (pairs_more rows xs ys x y rest alike)

pub pairs_next : (rows : List Row) (xs ys : List NodeId) (n : ℕ) (d e : NodeId) → n < length xs → n < length ys → ArePairs rows (take n xs) (take n ys)
    → AreCalledAlike rows (get_or xs n d) (get_or ys n e) → ArePairs rows (take (n + 1) xs) (take (n + 1) ys)
pairs_next rows xs ys n d e lt beside pairs alike =
    rw (take_more xs n d lt, take_more ys n e beside) (pairs_more rows (take n xs) (take n ys) (get_or xs n d) (get_or ys n e) pairs alike)

module _ (rows : List Row) (list other : NodeId) (count : ℕ) (own : module_file_at rows list ≡ module_file_at rows other)
    (pairs : ArePairs rows (take count (children_at rows other)) (take count (children_at rows list))) where
  leaf_beside : (key : Option Step) (x y : NodeId) → key_leaf_at rows other key ≡ Some x → leaf_counterpart rows (take count (children_at rows other)) (take count (children_at rows list)) x ≡ Some y
      → key_leaf_at rows list key ≡ Some y
  leaf_beside None x y known is = absurd (let bad : None ≡ Some x = known in cc)
  leaf_beside (Some s) x y known is =
      let file : ℕ = module_file_of (module_file_at rows other) s in
      let p : NodeId → Bool = is_called_at rows file s.name in
      let at = leaf_there rows (child_at rows file s.name other) x known in
      let to = leaf_there rows (counterpart x (take count (children_at rows other)) (take count (children_at rows list))) y is in
      let found : find p (take count (children_at rows other) ++ drop count (children_at rows other)) ≡ Some x = ap (find p) (take-append-drop count (children_at rows other)) ∙ at.0 in
      let beside = found_beside rows file s.name (take count (children_at rows other)) (take count (children_at rows list)) (drop count (children_at rows other)) (drop count (children_at rows list)) x y pairs found to.0 in
      let child : child_at rows file s.name list ≡ Some y = sym (ap (find p) (take-append-drop count (children_at rows list))) ∙ beside in
      ap (λ (h : ℕ). option_and_then (leaf_of rows) (child_at rows (module_file_of h s) s.name list)) own ∙ ap (option_and_then (leaf_of rows)) child ∙ to.1

  -- so are the leafs of whole keys
  pub leafs_beside : (keys : List (Option Step)) (known leafs : List NodeId) → map (λ n. Some n) known ≡ map (key_leaf_at rows other) keys
      → map (λ n. Some n) leafs ≡ map (leaf_counterpart rows (take count (children_at rows other)) (take count (children_at rows list))) known → map (λ n. Some n) leafs ≡ map (key_leaf_at rows list) keys
  leafs_beside [] [] [] e h = refl
  leafs_beside [] [] (l ∷ leafs) e h = cc
  leafs_beside [] (k ∷ known) leafs e h = cc
  leafs_beside (key ∷ keys) [] leafs e h = cc
  leafs_beside (key ∷ keys) (k ∷ known) [] e h = cc
  leafs_beside (key ∷ keys) (k ∷ known) (l ∷ leafs) e h =
      let first : Some k ≡ key_leaf_at rows other key = cc in
      let rest : map (λ n. Some n) known ≡ map (key_leaf_at rows other) keys = cc in
      let here : Some l ≡ leaf_counterpart rows (take count (children_at rows other)) (take count (children_at rows list)) k = cc in
      let more : map (λ n. Some n) leafs ≡ map (leaf_counterpart rows (take count (children_at rows other)) (take count (children_at rows list))) known = cc in
      ap₂ (λ (o : Option NodeId) (os : List (Option NodeId)). o ∷ os) (sym (leaf_beside key k l (sym first) (sym here))) (leafs_beside keys known leafs rest more)

-- what holds of what is there holds
pub some_weaker : {A : Type 0} (o : Option A) (P Q : A → Type 0) → ((x : A) → P x → Q x) → IfSome o P → IfSome o Q
some_weaker None P Q weaker h = tt
some_weaker (Some x) P Q weaker h = weaker x h
