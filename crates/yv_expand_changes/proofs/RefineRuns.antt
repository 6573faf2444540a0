-- The runs of the refines of a uses, one refine after the other.
use Rattle.std.proofs.Common.{◌≡◌, ℕ, ◌+◌, ◌<◌, ◌≤◌, ◌==◌, zero, suc, Bool, true, false, cond, List, [], ◌∷◌, ◌++◌, length, set, get_or, map, take, Option, Some, None, Vec, Global, refl, sym, ◌∙◌, ap, arith, eq-eqb}
use Rattle.std.specs.List.{filter, slice_get}
use Rattle.std.proofs.lemmas.Bool.{ne_eqb}
use Rattle.std.proofs.lemmas.List.{map-append, map-set, get_or-map, append-nil}
use Rattle.std.proofs.lemmas.List.Elements.{filter-append}
use Rattle.yv_link_scopes.specs.Files.{Files}
use Rattle.yv_link_scopes.proofs.Firsts.{take_next}
use Rattle.yv_expand_refines.specs.declared.targets.RefineTarget.{RefineTarget}
use Rattle.yv_expand_changes.specs.Changes.{is_meant}
use Rattle.yv_expand_changes.specs.InnerAlike.{is_run, run_at, runs_from, runs_of}
use Rattle.yv_expand_changes.specs.declared.ways.Way.{Way}

-- one number more in the list at a place
pub one_longer : (old : List (Vec ℕ Global)) (lists : List (List ℕ)) (i n : ℕ) (was now : Vec ℕ Global) → map (λ (v : Vec ℕ Global). v.items) old ≡ lists → i < length old
    → was ≡ get_or old i was → now.items ≡ was.items ++ n ∷ [] → map (λ (v : Vec ℕ Global). v.items) (set old i now) ≡ set lists i (get_or lists i [] ++ n ∷ [])
one_longer old lists i n was now is within read more =
    map-set (λ (v : Vec ℕ Global). v.items) old i now
    ∙ ap (set (map (λ (v : Vec ℕ Global). v.items) old) i)
    (more ∙ ap (λ l. l ++ n ∷ []) (ap (λ (v : Vec ℕ Global). v.items) read ∙ sym (get_or-map (λ (v : Vec ℕ Global). v.items) old i was [] within)))
    ∙ ap (λ l. set l i (get_or l i [] ++ n ∷ [])) is

module _ (files : Files) (ways : List (Option Way)) where
  -- no refine makes a run
  pub nothing_from : (c : List (List ℕ)) (n : ℕ) (ss : List (Option Way)) → length c ≡ length ss → ((k : ℕ) → get_or c k [] ≡ []) → c ≡ runs_from files ways [] n ss
  nothing_from [] n [] each none = refl
  nothing_from [] n (s ∷ ss) each none = absurd (omega (arith, each))
  nothing_from (x ∷ xs) n [] each none = absurd (omega (arith, each))
  nothing_from (x ∷ xs) n (s ∷ ss) each none =
      ap (λ l. l ∷ xs) (none zero) ∙ ap (λ l. [] ∷ l) (nothing_from xs (n + 1) ss (omega (arith, each)) (λ k. none (suc k)))

  module _ (xs : List RefineTarget) (x : RefineTarget) where
    one_more : (path : ℕ) → run_at files ways (xs ++ x ∷ []) path ≡ run_at files ways xs path ++ run_at files ways (x ∷ []) path
    one_more path =
        ap (map (λ (y : RefineTarget). y.refine)) (filter-append (is_run files ways path) xs (x ∷ []))
        ∙ map-append (λ (y : RefineTarget). y.refine) (filter (is_run files ways path) xs) (filter (is_run files ways path) (x ∷ []))

    unchanged : (path : ℕ) → is_run files ways path x ≡ false → run_at files ways (xs ++ x ∷ []) path ≡ run_at files ways xs path
    unchanged path h =
        one_more path
        ∙ ap (λ (b : Bool). run_at files ways xs path ++ map (λ (y : RefineTarget). y.refine) (cond b (x ∷ []) [])) h
        ∙ append-nil (run_at files ways xs path)

    changed : (path : ℕ) → is_run files ways path x ≡ true → run_at files ways (xs ++ x ∷ []) path ≡ run_at files ways xs path ++ x.refine ∷ []
    changed path h =
        one_more path
        ∙ ap (λ (b : Bool). run_at files ways xs path ++ map (λ (y : RefineTarget). y.refine) (cond b (x ∷ []) [])) h

    -- a refine that stands in none of the runs behind
    same_from : (n : ℕ) (ss : List (Option Way)) → ((path : ℕ) → n ≤ path → is_run files ways path x ≡ false) → runs_from files ways (xs ++ x ∷ []) n ss ≡ runs_from files ways xs n ss
    same_from n [] h = refl
    same_from n (s ∷ ss) h =
        ap (λ l. l ∷ runs_from files ways (xs ++ x ∷ []) (n + 1) ss) (unchanged n (h n (omega arith)))
        ∙ ap (λ l. run_at files ways xs n ∷ l) (same_from (n + 1) ss (λ path le. h path (omega (arith, le))))

    -- one that stands in the run of a path
    set_from : (n k i : ℕ) (ss : List (Option Way)) → i ≡ n + k → ((path : ℕ) → is_run files ways path x ≡ (i == path))
        → runs_from files ways (xs ++ x ∷ []) n ss ≡ set (runs_from files ways xs n ss) k (get_or (runs_from files ways xs n ss) k [] ++ x.refine ∷ [])
    set_from n k i [] e h = refl
    set_from n zero i (s ∷ ss) e h =
        ap (λ l. l ∷ runs_from files ways (xs ++ x ∷ []) (n + 1) ss) (changed n (h n ∙ eq-eqb i n (omega (arith, e))))
        ∙ ap (λ l. (run_at files ways xs n ++ x.refine ∷ []) ∷ l) (same_from (n + 1) ss (λ path le. h path ∙ ne_eqb i path (λ same. omega (arith, same, e, le))))
    set_from n (suc k) i (s ∷ ss) e h =
        ap (λ l. l ∷ runs_from files ways (xs ++ x ∷ []) (n + 1) ss) (unchanged n (h n ∙ ne_eqb i n (λ same. omega (arith, same, e))))
        ∙ ap (λ l. run_at files ways xs n ∷ l) (set_from (n + 1) k i ss (omega (arith, e)) h)

    noted : (i : ℕ) → ((path : ℕ) → (i == path) ≡ is_run files ways path x)
        → runs_of files ways (xs ++ x ∷ []) ≡ set (runs_of files ways xs) i (get_or (runs_of files ways xs) i [] ++ x.refine ∷ [])
    noted i h = set_from 0 i i ways (omega arith) (λ path. sym (h path))

    not_noted : ((path : ℕ) → false ≡ is_run files ways path x) → runs_of files ways (xs ++ x ∷ []) ≡ runs_of files ways xs
    not_noted h = same_from 0 ways (λ path le. sym (h path))

  -- one refine more
  pub reads_more : (refine_targets : List RefineTarget) (k i : ℕ) (x : RefineTarget) (old new : List (List ℕ)) → slice_get refine_targets k ≡ Some x → ((path : ℕ) → is_meant path (Some i) ≡ is_run files ways path x)
      → old ≡ runs_of files ways (take k refine_targets) → new ≡ set old i (get_or old i [] ++ x.refine ∷ []) → new ≡ runs_of files ways (take (k + 1) refine_targets)
  reads_more refine_targets k i x old new at means before now =
      now ∙ ap (λ l. set l i (get_or l i [] ++ x.refine ∷ [])) before ∙ sym (noted (take k refine_targets) x i means) ∙ ap (runs_of files ways) (sym (take_next refine_targets k x at))

  pub reads_same : (refine_targets : List RefineTarget) (k : ℕ) (x : RefineTarget) (old new : List (List ℕ)) → slice_get refine_targets k ≡ Some x → ((path : ℕ) → is_meant path None ≡ is_run files ways path x)
      → old ≡ runs_of files ways (take k refine_targets) → new ≡ old → new ≡ runs_of files ways (take (k + 1) refine_targets)
  reads_same refine_targets k x old new at means before now =
      now ∙ before ∙ sym (not_noted (take k refine_targets) x means) ∙ ap (runs_of files ways) (sym (take_next refine_targets k x at))
