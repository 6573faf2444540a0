-- The numbers that the runs of all bases have.
use Rattle.std.proofs.Common.{◌≡◌, ℕ, ◌+◌, ◌<◌, ◌≤◌, ◌&&◌, ◌↔◌, inl, inr, true, IsTrue, List, length, Option, Some, None, refl, sym, ◌∙◌, ap, subst, arith}
use Rattle.std.specs.List.{slice_get}
use Rattle.std.specs.Prelude.{IfSome}
use Rattle.std.proofs.lemmas.Bool.{cases_eq}
use Rattle.std.proofs.lemmas.Option.{same_Some, slice_get_within}
use Rattle.yv_type_identities.specs.InnerRuns.{HasRun, in_run, is_in, is_met, run_of}
use Rattle.yv_type_identities.specs.declared.runs.Run.{Run}
use Rattle.yv_type_identities.specs.declared.shared_members.SharedMembers.{SharedMembers}
use Rattle.yv_type_identities.proofs.Below.{ref_at}
use Rattle.yv_type_identities.proofs.RowLoop.{both, both_true}

-- what is met of the first bases
pub record Meets (shared : SharedMembers) (key : List (ℕ × ℕ)) (i : ℕ) (left : Option Run) : Type 0 where
  pub known : (c : ℕ) (k : ℕ × ℕ) → c < i → slice_get key c ≡ Some k → HasRun shared k
  pub met : (n : ℕ) → IsTrue (is_met left n) ↔ ((c : ℕ) (k : ℕ × ℕ) → c < i → slice_get key c ≡ Some k → IsTrue (in_run (run_of shared (ref_at k)) n))

pub meets_none : (shared : SharedMembers) (key : List (ℕ × ℕ)) → Meets shared key 0 None
meets_none shared key = record {
  known = λ c k l. absurd (omega (arith, l));
  met = λ n. (λ t c k l. absurd (omega (arith, l)), λ h. refl);
}

pub meets_more : (shared : SharedMembers) (key : List (ℕ × ℕ)) (i : ℕ) (k : ℕ × ℕ) (met : Option Run) (run new : Run) → slice_get key i ≡ Some k → run_of shared (ref_at k) ≡ Some run → ((n : ℕ) → is_in new n ≡ (is_met met n && is_in run n)) → Meets shared key i met → Meets shared key (i + 1) (Some new)
meets_more shared key i k met run new at is now before = record {
  known = λ c j l here. elim (cases_eq c i) [
    | inl e ↦ subst (HasRun shared) (same_Some k j (sym at ∙ ap (slice_get key) (sym e) ∙ here)) (run, is)
    | inr ne ↦ before.known c j (omega (arith, l, ne)) here
  ];
  met = λ n. (
    λ t c j l here.
        let p = both (is_met met n) (is_in run n) (sym (now n) ∙ t) in
        elim (cases_eq c i) [
          | inl e ↦ ap (λ x. in_run (run_of shared (ref_at x)) n) (sym (same_Some k j (sym at ∙ ap (slice_get key) (sym e) ∙ here))) ∙ ap (λ o. in_run o n) is ∙ p.1
          | inr ne ↦ (before.met n).0 p.0 c j (omega (arith, l, ne)) here
        ],
    λ h.
        let in' : is_in run n ≡ true = ap (λ o. in_run o n) (sym is) ∙ h i k (omega arith) at in
        now n ∙ both_true (is_met met n) (is_in run n) ((before.met n).1 (λ c j l here. h c j (omega (arith, l)) here)) in',
  );
}

module _ (shared : SharedMembers) (key : List (ℕ × ℕ)) (i : ℕ) where
  pub known_all : (met : Option Run) → length key ≤ i → Meets shared key i met → IfSome met (λ _. (c : ℕ) (k : ℕ × ℕ) → slice_get key c ≡ Some k → HasRun shared k)
  known_all None past m = tt
  known_all (Some run) past m = λ c k at. m.known c k (omega (arith, past, slice_get_within key c k at)) at

  pub meets_all : (met : Option Run) → length key ≤ i → Meets shared key i met → IfSome met (λ run. (n : ℕ) → IsTrue (is_in run n) ↔ ((c : ℕ) (k : ℕ × ℕ) → slice_get key c ≡ Some k → IsTrue (in_run (run_of shared (ref_at k)) n)))
  meets_all None past m = tt
  meets_all (Some run) past m = λ n. (
    λ t c k at. (m.met n).0 t c k (omega (arith, past, slice_get_within key c k at)) at,
    λ h. (m.met n).1 (λ c k l at. h c k at),
  )
