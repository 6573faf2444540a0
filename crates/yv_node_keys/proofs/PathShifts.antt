-- Where nodes are the same so far from others, paths lead so far from where they lead among these.
use Rattle.std.proofs.Common.{◌≡◌, ◌∙◌, ℕ, ◌+◌, ◌&&◌, Bool, true, false, not, cond, List, [], ◌∷◌, ◌++◌, ◌<◌, length, take, get_or, map, Option, Some, None, IfSome, refl, sym, ap, ap₂, subst, Vec, Global}
use Rattle.std.specs.Prelude.{◌||◌}
use Rattle.std.specs.List.{find, list_any}
use Rattle.std.specs.Option.{option_and_then, option_map}
use Rattle.std.proofs.lemmas.List.{map_push, take_more}
use Rattle.std.proofs.lemmas.Option.{same_Some}
use Rattle.yv_node_content.specs.Kinds.{is_case, is_choice, is_leaf, is_list}
use Rattle.yv_node_content.specs.Steps.{Step}
use Rattle.yv_nodes.specs.declared.node.NodeId.{NodeId}
use Rattle.yv_nodes.specs.Rows.{Row}
use Rattle.yv_node_keys.specs.Targets.{module_file_of}
use Rattle.yv_node_keys.specs.Numbers.{arrived_at, child_at, children_at, is_called_at, is_kind_at, leaf_of, led_at, led_by_at, module_file_at, unique_leaf_at}
use Rattle.yv_node_keys.specs.InnerMixedConfig.{is_bad_statement_at, is_mixed_at}
use Rattle.yv_node_keys.specs.InnerShifts.{AreInside, AreMoved, AreUnmixed, IsInside, moved_id}
use Rattle.yv_node_keys.specs.declared.place.Way.{Way}
use Rattle.yv_node_keys.specs.declared.place.Way.TheVariants.{AtNode, AtShorthandCase}
use Rattle.yv_node_keys.specs.declared.shift.Shift.{Shift}
use Rattle.yv_node_keys.proofs.MixedConfig.{bad_is}

-- one more node
pub inside_more : (s : Shift) (ns : List NodeId) (n : NodeId) → AreInside s ns → IsInside s n → AreInside s (ns ++ n ∷ [])
inside_more s [] n inside here = (here, tt)
inside_more s (m ∷ ns) n inside here = (inside.0, inside_more s ns n inside.1 here)

-- one more list
pub unmixed_more : (rows : List Row) (vs : List (Vec NodeId Global)) (v : Vec NodeId Global) → AreUnmixed rows vs → is_mixed_at rows v.items ≡ false → AreUnmixed rows (vs ++ v ∷ [])
unmixed_more rows [] v are here = (here, tt)
unmixed_more rows (w ∷ vs) v are here = (are.0, unmixed_more rows vs v are.1 here)

-- what is found among nodes is found so far from it
find_moved : (s : Shift) (p : NodeId → Bool) (ns : List NodeId) → AreInside s ns → ((n : NodeId) → IsInside s n → p n ≡ p (moved_id s.by n))
    → find p (map (moved_id s.by) ns) ≡ option_map (moved_id s.by) (find p ns)
find_moved s p [] inside same = refl
find_moved s p (n ∷ ns) inside same =
    ap (λ (b : Bool). cond b (Some (moved_id s.by n)) (find p (map (moved_id s.by) ns))) (sym (same n inside.0)) ∙ by (find_moved s p ns inside.1 same) (p n)
  where
    by : find p (map (moved_id s.by) ns) ≡ option_map (moved_id s.by) (find p ns) → (b : Bool)
        → cond b (Some (moved_id s.by n)) (find p (map (moved_id s.by) ns)) ≡ option_map (moved_id s.by) (cond b (Some n) (find p ns))
    by rest true = refl
    by rest false = rest

found_inside : (s : Shift) (p : NodeId → Bool) (ns : List NodeId) (n : NodeId) → AreInside s ns → find p ns ≡ Some n → IsInside s n
found_inside s p [] n inside e = absurd (let bad : None ≡ Some n = e in cc)
found_inside s p (m ∷ ns) n inside e = by (found_inside s p ns n inside.1) (p m) e
  where
    by : (find p ns ≡ Some n → IsInside s n) → (b : Bool) → cond b (Some m) (find p ns) ≡ Some n → IsInside s n
    by rest true e = subst (IsInside s) (same_Some m n e) inside.0
    by rest false e = rest e

-- the place so far from one
abbrev moved_way : ℕ → Way → Way
moved_way by (AtNode n) = AtNode (moved_id by n)
moved_way by (AtShorthandCase n) = AtShorthandCase (moved_id by n)

abbrev IsAt : Shift → Way → Type 0
IsAt s (AtNode n) = IsInside s n
IsAt s (AtShorthandCase n) = IsInside s n

module _ (rows : List Row) (s : Shift) (are : AreMoved rows s) where
  child_moved : (file : ℕ) (name : List ℕ) (n : NodeId) → IsInside s n → child_at rows file name (moved_id s.by n) ≡ option_map (moved_id s.by) (child_at rows file name n)
  child_moved file name n inside =
      let is = are n inside in
      ap (find (is_called_at rows file name)) is.below ∙ find_moved s (is_called_at rows file name) (children_at rows n) is.inside (λ m at. (are m at).called file name)

  arrived_moved : (a b : NodeId) → IsInside s a → IsInside s b → arrived_at rows (moved_id s.by a) (moved_id s.by b) ≡ option_map (moved_way s.by) (arrived_at rows a b)
  arrived_moved a b at to =
      let above = are a at in
      let below = are b to in
      let arrived : Bool → Bool → Bool → Option Way =
      λ l c d. cond l None (Some (cond (c && not d) (AtShorthandCase (moved_id s.by b)) (AtNode (moved_id s.by b)))) in
      sym (λ i. arrived (below.kinds is_list i) (above.kinds is_choice i) (below.kinds is_case i)) ∙ shape (is_kind_at rows is_list b) (is_kind_at rows is_choice a) (is_kind_at rows is_case b)
    where
      shape : (l c d : Bool) → cond l None (Some (cond (c && not d) (AtShorthandCase (moved_id s.by b)) (AtNode (moved_id s.by b))))
          ≡ option_map (moved_way s.by) (cond l None (Some (cond (c && not d) (AtShorthandCase b) (AtNode b))))
      shape true c d = refl
      shape false true true = refl
      shape false true false = refl
      shape false false d = refl

  step_moved : (own : ℕ) (step : Option Step) (w : Way) → IsAt s w → led_by_at rows own step (moved_way s.by w) ≡ option_map (moved_way s.by) (led_by_at rows own step w)
  step_moved own None w at = refl
  step_moved own (Some st) (AtNode n) at =
      ap (option_and_then (arrived_at rows (moved_id s.by n))) (child_moved (module_file_of own st) st.name n at) ∙ onto (child_at rows (module_file_of own st) st.name n) refl
    where
      onto : (o : Option NodeId) → child_at rows (module_file_of own st) st.name n ≡ o
          → option_and_then (arrived_at rows (moved_id s.by n)) (option_map (moved_id s.by) o) ≡ option_map (moved_way s.by) (option_and_then (arrived_at rows n) o)
      onto None e = refl
      onto (Some c) e = arrived_moved n c at (found_inside s (is_called_at rows (module_file_of own st) st.name) (children_at rows n) c (are n at).inside e)
  step_moved own (Some st) (AtShorthandCase n) at =
      ap (λ (b : Bool). cond b (Some (AtNode (moved_id s.by n))) None) (sym ((are n at).called (module_file_of own st) st.name)) ∙ shape (is_called_at rows (module_file_of own st) st.name n)
    where
      shape : (b : Bool) → cond b (Some (AtNode (moved_id s.by n))) None ≡ option_map (moved_way s.by) (cond b (Some (AtNode n)) None)
      shape true = refl
      shape false = refl

  step_inside : (own : ℕ) (step : Option Step) (w v : Way) → IsAt s w → led_by_at rows own step w ≡ Some v → IsAt s v
  step_inside own None w v at e = absurd (let bad : None ≡ Some v = e in cc)
  step_inside own (Some st) (AtNode n) v at e = by (child_at rows (module_file_of own st) st.name n) refl e
    where
      arrives : (c : NodeId) → IsInside s c → (l k : Bool) → cond l None (Some (cond k (AtShorthandCase c) (AtNode c))) ≡ Some v → IsAt s v
      arrives c in_it true k e = absurd (let bad : None ≡ Some v = e in cc)
      arrives c in_it false true e = subst (IsAt s) (same_Some (AtShorthandCase c) v e) in_it
      arrives c in_it false false e = subst (IsAt s) (same_Some (AtNode c) v e) in_it

      by : (o : Option NodeId) → child_at rows (module_file_of own st) st.name n ≡ o → option_and_then (arrived_at rows n) o ≡ Some v → IsAt s v
      by None is e = absurd (let bad : None ≡ Some v = e in cc)
      by (Some c) is e =
          arrives c (found_inside s (is_called_at rows (module_file_of own st) st.name) (children_at rows n) c (are n at).inside is)
          (is_kind_at rows is_list c) (is_kind_at rows is_choice n && not (is_kind_at rows is_case c)) e
  step_inside own (Some st) (AtShorthandCase n) v at e = by (is_called_at rows (module_file_of own st) st.name n) e
    where
      by : (b : Bool) → cond b (Some (AtNode n)) None ≡ Some v → IsAt s v
      by true e = subst (IsAt s) (same_Some (AtNode n) v e) at
      by false e = absurd (let bad : None ≡ Some v = e in cc)

  leaf_moved : (n : NodeId) → IsInside s n → leaf_of rows (moved_id s.by n) ≡ option_map (moved_id s.by) (leaf_of rows n)
  leaf_moved n at = ap (λ (b : Bool). cond b (Some (moved_id s.by n)) None) (sym ((are n at).kinds is_leaf)) ∙ shape (is_kind_at rows is_leaf n)
    where
      shape : (b : Bool) → cond b (Some (moved_id s.by n)) None ≡ option_map (moved_id s.by) (cond b (Some n) None)
      shape true = refl
      shape false = refl

  led_moved : (own : ℕ) (path : List (Option Step)) (w : Way) → IsAt s w → led_at rows own path (moved_way s.by w) ≡ option_map (moved_id s.by) (led_at rows own path w)
  led_moved own [] (AtNode n) at = leaf_moved n at
  led_moved own [] (AtShorthandCase n) at = refl
  led_moved own (st ∷ path) w at =
      ap (option_and_then (led_at rows own path)) (step_moved own st w at) ∙ onward (led_moved own path) (led_by_at rows own st w) refl
    where
      onward : ((v : Way) → IsAt s v → led_at rows own path (moved_way s.by v) ≡ option_map (moved_id s.by) (led_at rows own path v)) → (o : Option Way) → led_by_at rows own st w ≡ o
          → option_and_then (led_at rows own path) (option_map (moved_way s.by) o) ≡ option_map (moved_id s.by) (option_and_then (led_at rows own path) o)
      onward more None e = refl
      onward more (Some v) e = more v (step_inside own st w v at e)

  module _ (earlier : NodeId) (inside : IsInside s earlier) (same : module_file_at rows (moved_id s.by earlier) ≡ module_file_at rows earlier) where
    path_moved : (path : List (Option Step)) → unique_leaf_at rows (moved_id s.by earlier) path ≡ option_map (moved_id s.by) (unique_leaf_at rows earlier path)
    path_moved [] = refl
    path_moved (st ∷ path) =
        ap (λ (own : ℕ). led_at rows own (st ∷ path) (AtNode (moved_id s.by earlier))) same ∙ led_moved (module_file_at rows earlier) (st ∷ path) (AtNode earlier) inside

    statement_moved : (paths : List (List (Option Step))) (known : List NodeId) → map (λ n. Some n) known ≡ map (unique_leaf_at rows earlier) paths
        → map (λ n. Some n) (map (moved_id s.by) known) ≡ map (unique_leaf_at rows (moved_id s.by earlier)) paths
    statement_moved [] [] e = refl
    statement_moved [] (k ∷ known) e = cc
    statement_moved (path ∷ paths) [] e = cc
    statement_moved (path ∷ paths) (k ∷ known) e =
        let first : Some k ≡ unique_leaf_at rows earlier path = cc in
        let rest : map (λ n. Some n) known ≡ map (unique_leaf_at rows earlier) paths = cc in
        ap₂ (λ (o : Option NodeId) (os : List (Option NodeId)). o ∷ os) (ap (option_map (moved_id s.by)) first ∙ sym (path_moved path)) (statement_moved paths known rest)

    -- what statements name, and that none is bad
    pub statements_moved : (statements : List (List (List (Option Step)))) (known found : List (Vec NodeId Global))
        → map (λ (v : Vec NodeId Global). map (λ n. Some n) v.items) known ≡ map (map (unique_leaf_at rows earlier)) statements
        → map (λ (v : Vec NodeId Global). v.items) found ≡ map (λ (v : Vec NodeId Global). map (moved_id s.by) v.items) known → AreUnmixed rows found
        → (map (λ (v : Vec NodeId Global). map (λ n. Some n) v.items) found ≡ map (map (unique_leaf_at rows (moved_id s.by earlier))) statements)
        × (list_any (is_bad_statement_at rows (moved_id s.by earlier)) statements ≡ false)
    statements_moved [] [] [] e h unmixed = (refl, refl)
    statements_moved [] [] (f ∷ found) e h unmixed = cc
    statements_moved [] (k ∷ known) found e h unmixed = cc
    statements_moved (paths ∷ statements) [] found e h unmixed = cc
    statements_moved (paths ∷ statements) (k ∷ known) [] e h unmixed = cc
    statements_moved (paths ∷ statements) (k ∷ known) (f ∷ found) e h unmixed =
        let first : map (λ n. Some n) k.items ≡ map (unique_leaf_at rows earlier) paths = cc in
        let rest : map (λ (v : Vec NodeId Global). map (λ n. Some n) v.items) known ≡ map (map (unique_leaf_at rows earlier)) statements = cc in
        let here : f.items ≡ map (moved_id s.by) k.items = cc in
        let more : map (λ (v : Vec NodeId Global). v.items) found ≡ map (λ (v : Vec NodeId Global). map (moved_id s.by) v.items) known = cc in
        let named : map (λ n. Some n) f.items ≡ map (unique_leaf_at rows (moved_id s.by earlier)) paths = ap (map (λ (n : NodeId). Some n)) here ∙ statement_moved paths k.items first in
        let good : is_bad_statement_at rows (moved_id s.by earlier) paths ≡ false = bad_is rows (moved_id s.by earlier) paths f.items named ∙ unmixed.0 in
        let others = statements_moved statements known found rest more unmixed.1 in (
          ap₂ (λ (x : List (Option NodeId)) (xs : List (List (Option NodeId))). x ∷ xs) named others.0,
          ap (λ (b : Bool). b || list_any (is_bad_statement_at rows (moved_id s.by earlier)) statements) good ∙ others.1,
        )

pub next_inside : (s : Shift) (xs : List NodeId) (n : ℕ) (d : NodeId) → n < length xs → AreInside s (take n xs) → IsInside s (get_or xs n d) → AreInside s (take (n + 1) xs)
next_inside s xs n d lt inside here = rw (take_more xs n d lt) (inside_more s (take n xs) (get_or xs n d) inside here)

pub next_moved : (by : ℕ) (xs ys : List NodeId) (n : ℕ) (d e : NodeId) → n < length xs → n < length ys → take n ys ≡ map (moved_id by) (take n xs) → get_or ys n e ≡ moved_id by (get_or xs n d)
    → take (n + 1) ys ≡ map (moved_id by) (take (n + 1) xs)
next_moved by xs ys n d e lt beside are here =
    take_more ys n e beside ∙ ap₂ (λ (l : List NodeId) (y : NodeId). l ++ y ∷ []) are here ∙ sym (map_push (moved_id by) (take n xs) (get_or xs n d)) ∙ ap (map (moved_id by)) (sym (take_more xs n d lt))

-- the same of what may be found, of the list so far from an earlier one
pub statements_found : (rows : List Row) (s : Shift) → AreMoved rows s → (earlier list : NodeId) → list ≡ moved_id s.by earlier → IsInside s earlier → module_file_at rows list ≡ module_file_at rows earlier
    → (statements : List (List (List (Option Step)))) (known : List (Vec NodeId Global)) (o : Option (Vec (Vec NodeId Global) Global))
    → map (λ (v : Vec NodeId Global). map (λ n. Some n) v.items) known ≡ map (map (unique_leaf_at rows earlier)) statements
    → IfSome o (λ found. map (λ (v : Vec NodeId Global). v.items) found.items ≡ map (λ (v : Vec NodeId Global). map (moved_id s.by) v.items) known)
    → IfSome o (λ found. AreUnmixed rows found.items)
    → IfSome o (λ found. map (λ (v : Vec NodeId Global). map (λ n. Some n) v.items) found.items ≡ map (map (unique_leaf_at rows list)) statements)
    × IfSome o (λ found. list_any (is_bad_statement_at rows list) statements ≡ false)
statements_found rows s are earlier list at inside same statements known None e h unmixed = (tt, tt)
statements_found rows s are earlier list at inside same statements known (Some found) e h unmixed =
    let own : module_file_at rows (moved_id s.by earlier) ≡ module_file_at rows earlier = ap (module_file_at rows) (sym at) ∙ same in
    let all = statements_moved rows s are earlier inside own statements known found.items e h unmixed in (
      all.0 ∙ ap (λ (n : NodeId). map (map (unique_leaf_at rows n)) statements) (sym at),
      ap (λ (n : NodeId). list_any (is_bad_statement_at rows n) statements) at ∙ all.1,
    )
