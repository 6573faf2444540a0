-- The runs that are known of a uses, and what copies give.
use Rattle.std.proofs.Common.{◌≡◌, ℕ, ◌+◌, ◌≤◌, ◌⊎◌, inl, inr, zero, suc, List, [], ◌∷◌, ◌++◌, length, get_or, map, replicate, set, take, Option, Some, None, Result, Ok, Err, Vec, Global, refl, sym, ◌∙◌, ap, subst, arith}
use Rattle.std.specs.List.{slice_get}
use Rattle.std.specs.Result.{OnOk}
use Rattle.std.proofs.lemmas.List.{length-set, map_push}
use Rattle.std.proofs.lemmas.Option.{same_Some, slice_get_past}
use Rattle.yv_link_scopes.specs.Files.{Files}
use Rattle.yv_link_scopes.proofs.Firsts.{take_next}
use Rattle.yv_expand_uses.specs.declared.spot.Spot.{Spot}
use Rattle.yv_expand_refines.specs.Changes.{sequence_at}
use Rattle.yv_expand_refines.specs.Targets.{targets_at, targets_of, meant_at, meaning_of, meant_from}
use Rattle.yv_expand_refines.specs.declared.targets.RefineTarget.{RefineTarget}
use Rattle.yv_expand_refines.specs.declared.targets.RefinedUses.{RefinedUses}
use Rattle.yv_expand_refines.proofs.Meaning.{meant_from_more}
use Rattle.yv_expand_changes.specs.Changes.{changes_from}
use Rattle.yv_expand_changes.specs.InnerAlike.{AreRuns, IsRun, KeepsRuns, runs_of}
use Rattle.yv_expand_changes.specs.InnerRuns.{AreKnown, IsKnown}
use Rattle.yv_expand_changes.specs.InnerLists.{lists_of}
use Rattle.yv_expand_changes.specs.declared.known_runs.KnownRuns.{KnownRuns}

-- an element of a list with one more
pub pushed : {X : Type 0} (xs : List X) (x y : X) (k : ℕ) → slice_get (xs ++ x ∷ []) k ≡ Some y → (slice_get xs k ≡ Some y) ⊎ (x ≡ y)
pushed [] x y zero e = inr (same_Some x y e)
pushed [] x y (suc k) e = absurd (let bad : None ≡ Some y = e in cc)
pushed (z ∷ xs) x y zero e = inl e
pushed (z ∷ xs) x y (suc k) e = pushed xs x y k e

-- an element of a list in which one was written
pub written : {X : Type 0} (xs : List X) (i k : ℕ) (y z : X) → slice_get (set xs i y) k ≡ Some z → ((k ≡ i) × (y ≡ z)) ⊎ (slice_get xs k ≡ Some z)
written [] i k y z e = inr e
written (x ∷ xs) zero zero y z e = inl (refl, same_Some y z e)
written (x ∷ xs) zero (suc k) y z e = inr e
written (x ∷ xs) (suc i) zero y z e = inr e
written (x ∷ xs) (suc i) (suc k) y z e = elim (written xs i k y z e) [ inl h ↦ inl (ap suc h.0, h.1) | inr h ↦ inr h ]

pub on_ok : {T E : Type 0} (r : Result T E) {P Q : Type 0} → (P → Q) → OnOk r P → OnOk r Q
on_ok (Ok x) f h = f h
on_ok (Err e) f h = tt

pub both_ok : {T E : Type 0} (r : Result T E) {P Q R : Type 0} → (P → Q → R) → OnOk r P → OnOk r Q → OnOk r R
both_ok (Ok x) f h k = f h k
both_ok (Err e) f h k = tt

module _ (old new : List (List ℕ)) (keeps : KeepsRuns old new) where
  kept_run : (number : Option ℕ) (run : List ℕ) → IsRun old number run → IsRun new number run
  kept_run None run h = h
  kept_run (Some n) run h = keeps n run h

  pub kept_runs : (numbers : List (Option ℕ)) (lists : List (List ℕ)) → AreRuns old numbers lists → AreRuns new numbers lists
  kept_runs numbers lists h = λ path. kept_run (get_or numbers path None) (get_or lists path []) (h path)

one_run_more : (runs : List (List ℕ)) (numbers : List (Option ℕ)) (lists : List (List ℕ)) (number : Option ℕ) (run : List ℕ) → length numbers ≡ length lists
    → ((path : ℕ) → IsRun runs (get_or numbers path None) (get_or lists path [])) → IsRun runs number run
    → (path : ℕ) → IsRun runs (get_or (numbers ++ number ∷ []) path None) (get_or (lists ++ run ∷ []) path [])
one_run_more runs [] [] number run e h is zero = is
one_run_more runs [] [] number run e h is (suc k) = refl
one_run_more runs [] (l ∷ ls) number run e h is k = absurd (omega (arith, e))
one_run_more runs (n ∷ ns) [] number run e h is k = absurd (omega (arith, e))
one_run_more runs (n ∷ ns) (l ∷ ls) number run e h is zero = h zero
one_run_more runs (n ∷ ns) (l ∷ ls) number run e h is (suc k) = one_run_more runs ns ls number run (omega (arith, e)) (λ p. h (suc p)) is k

-- one run more is kept
pub runs_more : (old new : List (List ℕ)) (numbers : List (Option ℕ)) (lists : List (Vec ℕ Global)) (number : Option ℕ) (run : Vec ℕ Global) → KeepsRuns old new → length numbers ≡ length lists
    → AreRuns old numbers (lists_of lists) → IsRun new number run.items → AreRuns new (numbers ++ number ∷ []) (lists_of (lists ++ run ∷ []))
runs_more old new numbers lists number run keeps e are is =
    subst (AreRuns new (numbers ++ number ∷ [])) (sym (map_push (λ (v : Vec ℕ Global). v.items) lists run))
    (one_run_more new numbers (lists_of lists) number run.items (as_many numbers lists e) (kept_runs old new keeps numbers (lists_of lists) are) is)
  where
    as_many : (ns : List (Option ℕ)) (vs : List (Vec ℕ Global)) → length ns ≡ length vs → length ns ≡ length (lists_of vs)
    as_many ns [] e = e
    as_many [] (v ∷ vs) e = absurd (omega (arith, e))
    as_many (n ∷ ns) (v ∷ vs) e = ap suc (as_many ns vs (omega (arith, e)))

-- what changes items before any refine does
pub nothing_changes : (files : Files) (spots : List Spot) (sequences : List (List ℕ)) (n : ℕ) (ss : List Spot) → map (sequence_at sequences) (replicate (length ss) None) ≡ changes_from files spots [] n ss
nothing_changes files spots sequences n [] = refl
nothing_changes files spots sequences n (s ∷ ss) = ap (λ l. [] ∷ l) (nothing_changes files spots sequences (n + 1) ss)

pub known_nothing : (files : Files) (refine_targets : List RefineTarget) (k : KnownRuns) → k.ways.items ≡ [] → k.numbers.items ≡ [] → IsKnown files refine_targets [] k
known_nothing files refine_targets k ways numbers =
    subst (λ (ns : List (Option ℕ)). AreRuns [] ns (runs_of files k.ways.items refine_targets)) (sym numbers)
    (subst (λ ws. AreRuns [] [] (runs_of files ws refine_targets)) (sym ways) (λ path. refl))

-- what was known of one uses is known now as this
pub known_more : (files : Files) (refine_targets : List (Vec RefineTarget Global)) (old new : List (List ℕ)) (known : List KnownRuns) (place : ℕ) (k : KnownRuns) → KeepsRuns old new → AreKnown files refine_targets old known
    → IsKnown files (targets_at refine_targets place) new k → AreKnown files refine_targets new (set known place k)
known_more files refine_targets old new known place k keeps are now = record {
  each = length-set known place k ∙ are.each;
  are = λ p x at. elim (written known place p k x at) [
    | inl here ↦ subst (λ n. IsKnown files (targets_at refine_targets n) new x) (sym here.0) (subst (IsKnown files (targets_at refine_targets place) new) here.1 now)
    | inr other ↦ kept_runs old new keeps x.numbers.items (runs_of files x.ways.items (targets_at refine_targets p)) (are.are p x other)
  ];
}

-- a copy more
pub meant_next : (refine_targets : List (Vec RefineTarget Global)) (us : List RefinedUses) (k : ℕ) (u : RefinedUses) → slice_get us k ≡ Some u → meant_from refine_targets (take (k + 1) us) ≡ meant_from refine_targets (take k us) ++ meant_at refine_targets u
meant_next refine_targets us k u at = ap (meant_from refine_targets) (take_next us k u at) ∙ meant_from_more refine_targets (take k us) u

-- one whose refine targets aren't there means nothing
pub nothing_meant : (refine_targets : List (Vec RefineTarget Global)) (u : RefinedUses) → length refine_targets ≤ u.refine_targets → meant_at refine_targets u ≡ []
nothing_meant refine_targets u past = ap (λ o. map (meaning_of u.item u.targets.items) (targets_of o)) (slice_get_past refine_targets u.refine_targets past)
