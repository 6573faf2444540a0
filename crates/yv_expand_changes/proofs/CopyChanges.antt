-- Which items the refines of a copy change.
use Rattle.std.proofs.Common.{◌≡◌, ◌≢◌, ℕ, ◌+◌, ◌<◌, ◌&&◌, inl, inr, zero, suc, Bool, true, false, cond, List, [], ◌∷◌, ◌++◌, length, set, get_or, map, Option, Some, None, refl, sym, ◌∙◌, ap, arith, eq-eqb}
use Rattle.std.specs.List.{filter, slice_get}
use Rattle.std.specs.Option.{option_and_then, option_map}
use Rattle.std.proofs.lemmas.Bool.{cases_eq, ne_eqb}
use Rattle.std.proofs.lemmas.List.{append-nil, append_assoc, ext_get_or, get_or-set_same, get_or-set_other, length-map, length-set, map-append}
use Rattle.std.proofs.lemmas.List.Elements.{filter-append}
use Rattle.std.proofs.lemmas.Option.{slice_get_within}
use Rattle.yv_link_scopes.specs.Files.{Files}
use Rattle.yv_link_scopes.specs.Rows.{Row}
use Rattle.yv_link_scopes.specs.RowList.{rows_of, statements_of}
use Rattle.yv_expand_uses.specs.declared.spot.Spot.{Spot}
use Rattle.yv_expand_refines.specs.Targets.{RefineMeaning, meaning_of}
use Rattle.yv_expand_refines.specs.declared.targets.RefineTarget.{RefineTarget}
use Rattle.yv_expand_statements.specs.AllowedRefines.{is_some_fit}
use Rattle.yv_expand_changes.specs.Changes.{all_changes, changes, changes_from, is_change, is_fit_at_item, is_meant}
use Rattle.yv_expand_changes.specs.InnerAlike.{first_from, is_fit_at, is_run, is_in_run, noted_from, note_run, run_at, runs_from, runs_of, way_of_target, ways_of}
use Rattle.yv_expand_changes.specs.declared.ways.Way.{Way}
use Rattle.yv_expand_changes.proofs.FirstPaths.{first_leads_there, first_there, is_meant_self, leads_elsewhere, leads_later, means, read_some}

-- an item in its list, when the runs of paths were noted one after the other
rest : (path : ℕ) → List (Option ℕ) → (runs : List (List ℕ)) → (item : ℕ) → List ℕ
rest path [] runs item = []
rest path (t ∷ ts) runs item = cond (is_meant item t) (get_or runs path []) [] ++ rest (path + 1) ts runs item

length-noted_one : (t : Option ℕ) (run : List ℕ) (lists : List (List ℕ)) → length (note_run t run lists) ≡ length lists
length-noted_one None run lists = refl
length-noted_one (Some i) run lists = length-set lists i (get_or lists i [] ++ run)

length-noted_from : (path : ℕ) (ts : List (Option ℕ)) (runs lists : List (List ℕ)) → length (noted_from path ts runs lists) ≡ length lists
length-noted_from path [] runs lists = refl
length-noted_from path (t ∷ ts) runs lists =
    length-noted_from (path + 1) ts runs (note_run t (get_or runs path []) lists) ∙ length-noted_one t (get_or runs path []) lists

one_at : (t : Option ℕ) (run : List ℕ) (lists : List (List ℕ)) (item : ℕ) → item < length lists → get_or (note_run t run lists) item [] ≡ get_or lists item [] ++ cond (is_meant item t) run []
one_at None run lists item lt = sym (append-nil (get_or lists item []))
one_at (Some i) run lists item lt = elim (cases_eq i item) [
  | inl same ↦ ap (λ n. get_or (set lists n (get_or lists n [] ++ run)) item []) same ∙ get_or-set_same lists item (get_or lists item [] ++ run) [] lt
      ∙ ap (λ b. get_or lists item [] ++ cond b run []) (sym (eq-eqb i item same))
  | inr other ↦ get_or-set_other lists i item (get_or lists i [] ++ run) [] (λ e. other (sym e))
      ∙ sym (append-nil (get_or lists item [])) ∙ ap (λ b. get_or lists item [] ++ cond b run []) (sym (ne_eqb i item other))
]

noted_at : (path : ℕ) (ts : List (Option ℕ)) (runs lists : List (List ℕ)) (item : ℕ) → item < length lists → get_or (noted_from path ts runs lists) item [] ≡ get_or lists item [] ++ rest path ts runs item
unfolding rest
noted_at path [] runs lists item lt = sym (append-nil (get_or lists item []))
noted_at path (t ∷ ts) runs lists item lt =
    let run : List ℕ = get_or runs path [] in
    noted_at (path + 1) ts runs (note_run t run lists) item (omega (arith, lt, length-noted_one t run lists))
    ∙ ap (λ l. l ++ rest (path + 1) ts runs item) (one_at t run lists item lt)
    ∙ append_assoc (get_or lists item []) (cond (is_meant item t) run []) (rest (path + 1) ts runs item)

-- an item to which no path leads whose run isn't empty
rest_none : (path : ℕ) (ts : List (Option ℕ)) (runs : List (List ℕ)) (item : ℕ) → ((k : ℕ) → slice_get ts k ≡ Some (Some item) → get_or runs (path + k) [] ≡ []) → rest path ts runs item ≡ []
unfolding rest
rest_none path [] runs item h = refl
rest_none path (t ∷ ts) runs item h =
    ap (λ l. l ++ rest (path + 1) ts runs item) (by (is_meant item t) refl)
    ∙ rest_none (path + 1) ts runs item (λ k at. ap (λ n. get_or runs n []) (omega arith) ∙ h (suc k) at)
  where
    by : (b : Bool) → is_meant item t ≡ b → cond b (get_or runs path []) [] ≡ []
    by true m = ap (λ n. get_or runs n []) (omega arith) ∙ h 0 (ap (λ x. Some x) (means item t m))
    by false m = refl

-- an item to which one path is the first that leads, and the runs of the others that lead there are
-- empty
rest_first : (path : ℕ) (ts : List (Option ℕ)) (runs : List (List ℕ)) (item p : ℕ) → first_from path ts item ≡ Some p
    → ((k : ℕ) → slice_get ts k ≡ Some (Some item) → (path + k ≢ p) → get_or runs (path + k) [] ≡ []) → rest path ts runs item ≡ get_or runs p []
unfolding rest
rest_first path [] runs item p e h = absurd (let bad : None ≡ Some p = e in cc)
rest_first path (t ∷ ts) runs item p e h =
    by (λ first. rest_first (path + 1) ts runs item p first (λ k at other. ap (λ n. get_or runs n []) (omega arith) ∙ h (suc k) at (λ same. other (omega (arith, same))))) (is_meant item t) refl e
  where
    by : (first_from (path + 1) ts item ≡ Some p → rest (path + 1) ts runs item ≡ get_or runs p []) → (b : Bool) → is_meant item t ≡ b → cond b (Some path) (first_from (path + 1) ts item) ≡ Some p → (cond b (get_or runs path []) [] ++ rest (path + 1) ts runs item) ≡ get_or runs p []
    by next true m first =
        (let here : path ≡ p = same_number path p first in
        ap (λ l. get_or runs path [] ++ l) (rest_none (path + 1) ts runs item (λ k at. ap (λ n. get_or runs n []) (omega arith) ∙ h (suc k) at (λ same. omega (arith, same, here))))
        ∙ append-nil (get_or runs path []) ∙ ap (λ n. get_or runs n []) here)
      where
        same_number : (a b : ℕ) → Some a ≡ Some b → a ≡ b
        same_number a b e = cc
    by next false m first = next first

with_default : (f : Option ℕ → Option Way) → f None ≡ None → (xs : List (Option ℕ)) (k : ℕ) → get_or (map f xs) k None ≡ f (get_or xs k None)
with_default f e [] k = sym e
with_default f e (x ∷ xs) zero = refl
with_default f e (x ∷ xs) (suc k) = with_default f e xs k

through : (g : ℕ → Option Row) (o : Option Spot) → option_and_then (λ s. g s.statement) o ≡ option_and_then g (option_map (λ s. s.statement) o)
through g None = refl
through g (Some s) = refl

-- a refine is fit for an item by the statement that gives it
pub fit_for_at : (files : Files) (spots : List Spot) (refine item : ℕ) → is_fit_at_item files spots refine item ≡ is_fit_at files (option_map (λ s. s.statement) (slice_get spots item)) refine
fit_for_at files spots refine item = ap (λ r. is_some_fit r (slice_get (statements_of files) refine)) (through (slice_get (rows_of files)) (slice_get spots item))

changes-append : (files : Files) (spots : List Spot) (xs ys : List RefineMeaning) (item : ℕ) → changes files spots (xs ++ ys) item ≡ changes files spots xs item ++ changes files spots ys item
changes-append files spots xs ys item =
    ap (map (λ (y : RefineMeaning). y.refine)) (filter-append (is_change files spots item) xs ys)
    ∙ map-append (λ (y : RefineMeaning). y.refine) (filter (is_change files spots item) xs) (filter (is_change files spots item) ys)

length-changes_from : (files : Files) (spots : List Spot) (xs : List RefineMeaning) (n : ℕ) (ss : List Spot) → length (changes_from files spots xs n ss) ≡ length ss
length-changes_from files spots xs n [] = refl
length-changes_from files spots xs n (s ∷ ss) = ap suc (length-changes_from files spots xs (n + 1) ss)

changes_at : (files : Files) (spots : List Spot) (xs : List RefineMeaning) (n : ℕ) (ss : List Spot) (k : ℕ) → k < length ss → get_or (changes_from files spots xs n ss) k [] ≡ changes files spots xs (n + k)
changes_at files spots xs n [] k lt = absurd (omega (arith, lt))
changes_at files spots xs n (s ∷ ss) zero lt = ap (changes files spots xs) (omega arith)
changes_at files spots xs n (s ∷ ss) (suc k) lt = changes_at files spots xs (n + 1) ss k (omega (arith, lt)) ∙ ap (changes files spots xs) (omega arith)

runs_at : (files : Files) (ways : List (Option Way)) (refine_targets : List RefineTarget) (n : ℕ) (ws : List (Option Way)) (k : ℕ) → k < length ws → get_or (runs_from files ways refine_targets n ws) k [] ≡ run_at files ways refine_targets (n + k)
runs_at files ways refine_targets n [] k lt = absurd (omega (arith, lt))
runs_at files ways refine_targets n (w ∷ ws) zero lt = ap (run_at files ways refine_targets) (omega arith)
runs_at files ways refine_targets n (w ∷ ws) (suc k) lt = runs_at files ways refine_targets (n + 1) ws k (omega (arith, lt)) ∙ ap (run_at files ways refine_targets) (omega arith)

none_of : (Q : RefineTarget → Bool) (xs : List RefineTarget) → ((a : RefineTarget) → Q a ≡ false) → map (λ (a : RefineTarget). a.refine) (filter Q xs) ≡ []
none_of Q [] h = refl
none_of Q (a ∷ xs) h = ap (λ b. map (λ (a : RefineTarget). a.refine) (cond b (a ∷ filter Q xs) (filter Q xs))) (h a) ∙ none_of Q xs h

module _ (files : Files) (spots : List Spot) (uses : ℕ) (targets : List (Option ℕ)) where
  gathered : (P : RefineMeaning → Bool) (Q : RefineTarget → Bool) (xs : List RefineTarget) → ((a : RefineTarget) → P (meaning_of uses targets a) ≡ Q a)
      → map (λ (x : RefineMeaning). x.refine) (filter P (map (meaning_of uses targets) xs)) ≡ map (λ (a : RefineTarget). a.refine) (filter Q xs)
  gathered P Q [] h = refl
  gathered P Q (a ∷ xs) h =
      ap (λ b. map (λ (x : RefineMeaning). x.refine) (cond b (meaning_of uses targets a ∷ filter P (map (meaning_of uses targets) xs)) (filter P (map (meaning_of uses targets) xs)))) (h a) ∙ by (gathered P Q xs h) (Q a)
    where
      by : map (λ (x : RefineMeaning). x.refine) (filter P (map (meaning_of uses targets) xs)) ≡ map (λ (a : RefineTarget). a.refine) (filter Q xs) → (b : Bool) → map (λ (x : RefineMeaning). x.refine) (cond b (meaning_of uses targets a ∷ filter P (map (meaning_of uses targets) xs)) (filter P (map (meaning_of uses targets) xs)))
          ≡ map (λ (a : RefineTarget). a.refine) (cond b (a ∷ filter Q xs) (filter Q xs))
      by others true = ap (λ l. a.refine ∷ l) others
      by others false = others

  pub way_is : (k : ℕ) → get_or (ways_of spots targets) k None ≡ way_of_target spots targets (get_or targets k None)
  way_is k = with_default (way_of_target spots targets) refl targets k

  -- the refines that change an item are those of the run of the first path that leads there
  agrees : (p i : ℕ) → slice_get targets p ≡ Some (Some i) → first_from 0 targets i ≡ Some p → (a : RefineTarget) → is_change files spots i (meaning_of uses targets a) ≡ is_run files (ways_of spots targets) p a
  agrees p i at first a = by (get_or targets a.path None) ∙ sym (ap (is_in_run files p a.refine) (way_is a.path))
    where
      by : (t : Option ℕ) → (is_meant i t && is_fit_at_item files spots a.refine i) ≡ is_in_run files p a.refine (way_of_target spots targets t)
      by None = refl
      by (Some j) = elim (cases_eq j i) [
        | inl same ↦ ap (λ b. b && is_fit_at_item files spots a.refine i) (eq-eqb j i same ∙ sym (ap (is_meant p) (ap (first_from 0 targets) same ∙ first) ∙ is_meant_self p))
            ∙ ap (λ b. is_meant p (first_from 0 targets j) && b) (ap (is_fit_at_item files spots a.refine) (sym same) ∙ fit_for_at files spots a.refine j)
        | inr other ↦ ap (λ b. b && is_fit_at_item files spots a.refine i) (ne_eqb j i other)
            ∙ sym (ap (λ b. b && is_fit_at files (option_map (λ s. s.statement) (slice_get spots j)) a.refine) (leads_elsewhere targets p i j at other))
      ]

  -- and the runs of other paths are empty
  empty_at : (p : ℕ) → ((i : ℕ) → slice_get targets p ≡ Some (Some i) → first_from 0 targets i ≡ Some p → ⊥) → (a : RefineTarget) → is_run files (ways_of spots targets) p a ≡ false
  empty_at p later a = ap (is_in_run files p a.refine) (way_is a.path) ∙ by (get_or targets a.path None)
    where
      by : (t : Option ℕ) → is_in_run files p a.refine (way_of_target spots targets t) ≡ false
      by None = refl
      by (Some j) = ap (λ b. b && is_fit_at files (option_map (λ s. s.statement) (slice_get spots j)) a.refine) (leads_later targets p j (later j))

  unled : (i : ℕ) → first_from 0 targets i ≡ None → (a : RefineTarget) → is_change files spots i (meaning_of uses targets a) ≡ false
  unled i none a = by (get_or targets a.path None) refl
    where
      by : (t : Option ℕ) → get_or targets a.path None ≡ t → (is_meant i t && is_fit_at_item files spots a.refine i) ≡ false
      by None e = refl
      by (Some j) e = ap (λ b. b && is_fit_at_item files spots a.refine i)
          (ne_eqb j i (λ same. first_there 0 targets a.path i (read_some targets a.path j e ∙ ap (λ n. Some (Some n)) same) none))

  module _ (refine_targets : List RefineTarget) where
    at_path : (p : ℕ) → p < length targets → get_or (runs_of files (ways_of spots targets) refine_targets) p [] ≡ run_at files (ways_of spots targets) refine_targets p
    at_path p lt =
        runs_at files (ways_of spots targets) refine_targets 0 (ways_of spots targets) p (omega (arith, lt, length-map targets (way_of_target spots targets))) ∙ ap (run_at files (ways_of spots targets) refine_targets) (omega arith)

    of_item : (i : ℕ) → rest 0 targets (runs_of files (ways_of spots targets) refine_targets) i ≡ changes files spots (map (meaning_of uses targets) refine_targets) i
    of_item i = by (first_from 0 targets i) refl
      where
        by : (o : Option ℕ) → first_from 0 targets i ≡ o → rest 0 targets (runs_of files (ways_of spots targets) refine_targets) i ≡ changes files spots (map (meaning_of uses targets) refine_targets) i
        by None e =
            rest_none 0 targets (runs_of files (ways_of spots targets) refine_targets) i (λ k at. absurd (first_there 0 targets k i at e))
            ∙ sym (gathered (is_change files spots i) (λ a. false) refine_targets (unled i e) ∙ none_of (λ a. false) refine_targets (λ a. refl))
        by (Some p) e =
            (let there = first_leads_there targets i p e in
            rest_first 0 targets (runs_of files (ways_of spots targets) refine_targets) i p e (λ k at other.
            (let lt = slice_get_within targets k (Some i) at in
            ap (λ n. get_or (runs_of files (ways_of spots targets) refine_targets) n []) (omega arith)
            ∙ at_path k lt
            ∙ none_of (is_run files (ways_of spots targets) k) refine_targets (empty_at k (λ j at' first. other (apart k j at at' first)))))
            ∙ at_path p (slice_get_within targets p (Some i) there)
            ∙ sym (gathered (is_change files spots i) (is_run files (ways_of spots targets) p) refine_targets (agrees p i there e)))
          where
            same : (j k : ℕ) → Some (Some j) ≡ Some (Some k) → j ≡ k
            same j k e = cc

            number : (j k : ℕ) → Some j ≡ Some k → j ≡ k
            number j k e = cc

            apart : (k j : ℕ) → slice_get targets k ≡ Some (Some i) → slice_get targets k ≡ Some (Some j) → first_from 0 targets j ≡ Some k → 0 + k ≡ p
            apart k j at at' first =
                (let is : j ≡ i = same j i (sym at' ∙ at) in
                let k_is : k ≡ p = number k p (sym first ∙ ap (first_from 0 targets) is ∙ e) in omega (arith, k_is))

    -- when the runs of a copy were noted, its refines change items behind those before
    pub copied : (xs : List RefineMeaning) → noted_from 0 targets (runs_of files (ways_of spots targets) refine_targets) (all_changes files spots xs) ≡ all_changes files spots (xs ++ map (meaning_of uses targets) refine_targets)
    copied xs =
        let runs : List (List ℕ) = runs_of files (ways_of spots targets) refine_targets in
        let more : List RefineMeaning = map (meaning_of uses targets) refine_targets in
        let before = length-changes_from files spots xs 0 spots in
        let after = length-changes_from files spots (xs ++ more) 0 spots in
        let all = length-noted_from 0 targets runs (all_changes files spots xs) in
        ext_get_or [] (noted_from 0 targets runs (all_changes files spots xs)) (all_changes files spots (xs ++ more)) (all ∙ before ∙ sym after)
        (λ i lt.
        (let within : i < length spots = omega (arith, lt, all, before) in
        noted_at 0 targets runs (all_changes files spots xs) i (omega (arith, lt, all))
        ∙ ap (λ l. l ++ rest 0 targets runs i) (changes_at files spots xs 0 spots i within ∙ ap (changes files spots xs) (omega arith))
        ∙ ap (λ l. changes files spots xs i ++ l) (of_item i)
        ∙ sym (changes-append files spots xs more i)
        ∙ sym (changes_at files spots (xs ++ more) 0 spots i within ∙ ap (changes files spots (xs ++ more)) (omega arith))))
