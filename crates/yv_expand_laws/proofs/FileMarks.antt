-- The files in the order of the schema are marked as those of modules that are implemented.
use Rattle.std.proofs.Common.{inl, inr, ◌≡◌, ◌≢◌, ℕ, zero, suc, ◌+◌, ◌==◌, Bool, true, false, cond, if◌then◌else◌, List, [], ◌∷◌, length, map, get_or, refl, sym, ◌∙◌, ap, subst, arith, eqb-true, eq-eqb, Option, Some, None, codes}
use Rattle.std.specs.List.{Contains, find, position_from, slice_get}
use Rattle.std.specs.Option.{option_map, unwrap_or}
use Rattle.std.specs.Str.{bytes_eq}
use Rattle.std.proofs.lemmas.Bool.{false≢true}
use Rattle.std.proofs.lemmas.List.Elements.{Contains-append_cases}
use Rattle.std.proofs.lemmas.Slice.Eq.{bytes_eq-Decides}
use Rattle.std.proofs.lemmas.Option.{same_Some, slice_get-map, slice_get_within}
use Rattle.yv_text_statement.specs.Tree.{Tree, trees}
use Rattle.yv_text_statement.specs.Selection.{ModuleChoice, is_implemented}
use Rattle.yv_base_tables.specs.Families.{is_place, numbers_at, numbers_from}
use Rattle.yv_link_scopes.specs.Files.{Brief, Briefs, Files, brief_of, first_name, has_word, module_file_at, module_file_in, is_module, module_name, file_named, tree_name}
use Rattle.yv_expand_statements.specs.FileOrder.{is_given, marks_of, order_from, order_of, part_places, places_from}
use Rattle.yv_expand_laws.proofs.BlockStatements.{left_is, right_is}
use Rattle.yv_expand_laws.proofs.FoundItems.{not_none}
use Rattle.yv_expand_laws.proofs.FrameSequences.{nothing_stands}
use Rattle.yv_expand_laws.proofs.BlockNodes.{first_or}
use Rattle.yv_expand_laws.proofs.LabelsAndPaths.{there_is}

-- the numbers of a place have it
placed_at : (place n : ℕ) (ps : List (Option ℕ)) (k : ℕ) → Contains (numbers_from place n ps) k → (i : ℕ) × (k ≡ n + i) × (slice_get ps i ≡ Some (Some place))
placed_at place n [] k h = absurd (nothing_stands k h)
placed_at place n (p ∷ ps) k h = by (is_place place p) refl h (λ h. placed_at place (n + 1) ps k h)
  where
    own : (o : Option ℕ) → is_place place o ≡ true → o ≡ Some place
    own None e = absurd (false≢true e)
    own (Some q) e = ap (λ (m : ℕ). Some m) (eqb-true q place e)

    later : (i : ℕ) × (k ≡ n + 1 + i) × (slice_get ps i ≡ Some (Some place)) → (i : ℕ) × (k ≡ n + i) × (slice_get (p ∷ ps) i ≡ Some (Some place))
    later x = (suc x.0, (let e = x.1 in omega (arith, e)), x.2)

    by : (b : Bool) → is_place place p ≡ b → Contains (if b then n ∷ numbers_from place (n + 1) ps else numbers_from place (n + 1) ps) k
        → (Contains (numbers_from place (n + 1) ps) k → (i : ℕ) × (k ≡ n + 1 + i) × (slice_get ps i ≡ Some (Some place))) → (i : ℕ) × (k ≡ n + i) × (slice_get (p ∷ ps) i ≡ Some (Some place))
    by true is h go = elim (first_or n (numbers_from place (n + 1) ps) k h) [
      | inl same ↦ (0, (omega (arith, same)), ap (λ (o : Option ℕ). Some o) (own p is))
      | inr rest ↦ later (go rest)
    ]
    by false is h go = later (go h)

-- the first that passes does
found_from : {A : Type 0} (p : A → Bool) (n : ℕ) (xs : List A) (k : ℕ) → position_from p n xs ≡ Some k → (i : ℕ) × (x : A) × (k ≡ n + i) × (slice_get xs i ≡ Some x) × (p x ≡ true)
found_from p n [] k e = absurd (not_none e)
found_from {A = A} p n (x ∷ xs) k e = by (p x) refl e (λ e. found_from p (n + 1) xs k e)
  where
    by : (b : Bool) → p x ≡ b → cond b (Some n) (position_from p (n + 1) xs) ≡ Some k
        → (position_from p (n + 1) xs ≡ Some k → (i : ℕ) × (y : A) × (k ≡ n + 1 + i) × (slice_get xs i ≡ Some y) × (p y ≡ true))
        → (i : ℕ) × (y : A) × (k ≡ n + i) × (slice_get (x ∷ xs) i ≡ Some y) × (p y ≡ true)
    by true is e go = (0, x, (let same : n ≡ k = same_Some n k e in omega (arith, same)), refl, is)
    by false is e go = (let r = go e in (suc r.0, r.1, (let f = r.2 in omega (arith, f)), r.3, r.4))

module _ (choice : ModuleChoice) (files : Files) where
  abbrev briefs : Briefs
  briefs = map brief_of files

  mark_at : (k : ℕ) (t : Tree) → slice_get files k ≡ Some t → get_or (marks_of choice files) k false ≡ is_implemented choice (module_name t)
  mark_at = go files
    where
      go : (ts : Files) (k : ℕ) (t : Tree) → slice_get ts k ≡ Some t → get_or (marks_of choice ts) k false ≡ is_implemented choice (module_name t)
      go [] k t at = absurd (not_none at)
      go (u ∷ ts) zero t at = ap (λ (z : Tree). is_implemented choice (module_name z)) (same_Some u t at)
      go (u ∷ ts) (suc k) t at = go ts k t at

  brief_at : (k : ℕ) (t : Tree) → slice_get files k ≡ Some t → slice_get briefs k ≡ Some (brief_of t)
  brief_at k t at = slice_get-map brief_of files k ∙ ap (option_map brief_of) at

  own_marked : (m : ℕ) (t : Tree) → slice_get files m ≡ Some t → is_given choice t ≡ true → get_or (marks_of choice files) m false ≡ true
  own_marked m t at is =
      mark_at m t at
      ∙ (ap (λ (b : Bool). is_implemented choice (if b then tree_name t else first_name (find (λ (c : Tree). has_word (codes "belongs-to") c.head) (trees t.children))))
      (left_is (is_module t) (is_implemented choice (tree_name t)) is) ∙ right_is (is_module t) (is_implemented choice (tree_name t)) is)

  -- a file that belongs to a module's own file has its mark
  part_marked : (m : ℕ) (t : Tree) (k : ℕ) → slice_get files m ≡ Some t → is_given choice t ≡ true → slice_get (part_places files) k ≡ Some (Some m)
      → get_or (marks_of choice files) k false ≡ true
  part_marked m t k at is place =
      let long = places_long briefs 0 files in
      let l = slice_get_within (part_places files) k (Some m) place in
      let u = there_is files k (omega (arith, l, long)) in
      let module_file = module_file_by u.0 u.1 (sym (place_at briefs 0 k u.0 files u.1) ∙ place) in
      mark_at k u.0 u.1 ∙ by_module_file u.0 module_file.0 (is_module u.0) refl (module_file.1 ∙ ap (module_file_in briefs k) (brief_at k u.0 u.1))
    where
      places_long : (bs : Briefs) (n : ℕ) (ts : Files) → length (places_from bs n ts) ≡ length ts
      places_long bs n [] = refl
      places_long bs n (u ∷ ts) = (let e = places_long bs (n + 1) ts in omega (arith, e))

      place_at : (bs : Briefs) (n k : ℕ) (u : Tree) (ts : Files) → slice_get ts k ≡ Some u
          → slice_get (places_from bs n ts) k ≡ Some (if module_file_at bs (n + k) == n + k then None else Some (module_file_at bs (n + k)))
      place_at bs n k u [] to = absurd (not_none to)
      place_at bs n zero u (v ∷ ts) to = ap (λ (m : ℕ). Some (if module_file_at bs m == m then None else Some (module_file_at bs m))) (let e : n ≡ n + 0 = omega arith in e)
      place_at bs n (suc k) u (v ∷ ts) to =
          place_at bs (n + 1) k u ts to ∙ ap (λ (m : ℕ). Some (if module_file_at bs m == m then None else Some (module_file_at bs m))) (let e : n + 1 + k ≡ n + suc k = omega arith in e)

      module_file_by : (u : Tree) → slice_get files k ≡ Some u → Some (if module_file_at briefs (0 + k) == 0 + k then None else Some (module_file_at briefs (0 + k))) ≡ Some (Some m) → (m ≢ k) × (m ≡ module_file_at briefs k)
      module_file_by u to e = by (module_file_at briefs (0 + k) == 0 + k) refl (same_Some (if module_file_at briefs (0 + k) == 0 + k then None else Some (module_file_at briefs (0 + k))) (Some m) e)
        where
          by : (b : Bool) → (module_file_at briefs (0 + k) == 0 + k) ≡ b → (if b then None else Some (module_file_at briefs (0 + k))) ≡ Some m → (m ≢ k) × (m ≡ module_file_at briefs k)
          by true same e = absurd (not_none e)
          by false same e =
              let zero_k : 0 + k ≡ k = omega arith in
              let module_file : module_file_at briefs (0 + k) ≡ m = same_Some (module_file_at briefs (0 + k)) m e in
              let there : module_file_at briefs (0 + k) ≡ module_file_at briefs k = ap (module_file_at briefs) zero_k in
              (λ bad. false≢true (sym same ∙ eq-eqb (module_file_at briefs (0 + k)) (0 + k) (let f : module_file_at briefs (0 + k) ≡ 0 + k = omega (arith, module_file, bad) in f)), omega (arith, module_file, there))

      by_name : (u : Tree) → m ≢ k → (o : Option ℕ) → file_named briefs (module_name u) ≡ o → m ≡ unwrap_or o k → is_implemented choice (module_name u) ≡ true
      by_name u other None found e = absurd (other e)
      by_name u other (Some j) found e =
          let r = found_from (λ (f : Brief). bytes_eq f.name (module_name u)) 0 briefs j found in
          let where_is : r.0 ≡ m = (let f = r.2 in omega (arith, f, e)) in
          let same : r.1 ≡ brief_of t = same_Some r.1 (brief_of t) (sym r.3 ∙ (ap (slice_get briefs) where_is ∙ brief_at m t at)) in
          let names : tree_name t ≡ module_name u = (bytes_eq-Decides (tree_name t) (module_name u)).0 (ap (λ (f : Brief). bytes_eq f.name (module_name u)) (sym same) ∙ r.4) in
          ap (is_implemented choice) (sym names) ∙ right_is (is_module t) (is_implemented choice (tree_name t)) is

      by_module_file : (u : Tree) → m ≢ k → (b : Bool) → is_module u ≡ b → m ≡ module_file_in briefs k (Some (brief_of u)) → is_implemented choice (module_name u) ≡ true
      by_module_file u other true own e = absurd (other (e ∙ ap (λ (b : Bool). if b then k else unwrap_or (file_named briefs (brief_of u).module_name) k) own))
      by_module_file u other false own e = by_name u other (file_named briefs (module_name u)) refl (e ∙ ap (λ (b : Bool). if b then k else unwrap_or (file_named briefs (brief_of u).module_name) k) own)

  -- each file of the order is marked
  order_is : (m : ℕ) (ts : Files) → ((j : ℕ) → slice_get ts j ≡ slice_get files (m + j)) → (k : ℕ) → Contains (order_from choice (part_places files) m ts) k → get_or (marks_of choice files) k false ≡ true
  order_is m [] are_at k h = absurd (nothing_stands k h)
  order_is m (t ∷ ts) are_at k h =
      elim (Contains-append_cases (if is_given choice t then m ∷ numbers_at (part_places files) m else []) (order_from choice (part_places files) (m + 1) ts) k h) [
        | inl x ↦ by (is_given choice t) refl x
        | inr x ↦ order_is (m + 1) ts (λ j. are_at (suc j) ∙ ap (slice_get files) (let e : m + suc j ≡ m + 1 + j = omega arith in e)) k x
      ]
    where
      here : slice_get files m ≡ Some t
      here = ap (slice_get files) (let e : m ≡ m + 0 = omega arith in e) ∙ sym (are_at 0)

      by : (b : Bool) → is_given choice t ≡ b → Contains (if b then m ∷ numbers_at (part_places files) m else []) k → get_or (marks_of choice files) k false ≡ true
      by false is x = absurd (nothing_stands k x)
      by true is x = elim (first_or m (numbers_at (part_places files) m) k x) [
        | inl same ↦ subst (λ (n : ℕ). get_or (marks_of choice files) n false ≡ true) same (own_marked m t here is)
        | inr y ↦ (
            let p = placed_at m 0 (part_places files) k y in
            part_marked m t k here is (ap (slice_get (part_places files)) (let e = p.1 in let f : k ≡ p.0 = omega (arith, e) in f) ∙ p.2))
      ]

  pub order_marked : (k : ℕ) → Contains (order_of choice files) k → get_or (marks_of choice files) k false ≡ true
  order_marked k h = order_is 0 files (λ j. ap (slice_get files) (let e : j ≡ 0 + j = omega arith in e)) k h
