-- The refusal of one refine.
use Rattle.std.proofs.Common.{◌≡◌, ℕ, inl, inr, Bool, true, false, cond, List, Option, Some, None, refl, sym, ◌∙◌, ap}
use Rattle.std.specs.List.{slice_get}
use Rattle.std.specs.Option.{option_map}
use Rattle.std.specs.BTreeSet.{BTreeSet, contains}
use Rattle.std.specs.Ordering.{nat_cmp}
use Rattle.std.proofs.lemmas.Option.{same_Some}
use Rattle.yv_text_statement.specs.Order.{IsLeast, refusal_at}
use Rattle.yv_text_statement.specs.declared.refusal.Code.{Code}
use Rattle.yv_text_statement.specs.declared.refusal.Code.TheVariants as code
use Rattle.yv_text_statement.specs.declared.refusal.Refusal.{Refusal}
use Rattle.yv_text_statement.proofs.Least.{least_refused}
use Rattle.yv_link_scopes.specs.Files.{Files}
use Rattle.yv_link_scopes.specs.Rows.{Row}
use Rattle.yv_link_scopes.specs.RowList.{rows_of}
use Rattle.yv_expand_rounds.specs.declared.row.ItemRow.{ItemRow}
use Rattle.yv_expand_uses.specs.declared.spot.Spot.{Spot}
use Rattle.yv_expand_refines.specs.Targets.{RefineMeaning}
use Rattle.yv_expand_changes.specs.Changes.{is_fit_at_item}
use Rattle.yv_expand_changes.specs.Refusals.{IsThere, IsWrong}
use Rattle.yv_expand_changes.specs.InnerAlike.{is_fit_at, way_of_target}
use Rattle.yv_expand_changes.specs.InnerRefusals.{AreItems, code_at, refusal_of_code}
use Rattle.yv_expand_changes.proofs.CopyChanges.{fit_for_at}

-- the only refusal that stands is the least
least_alone : (P : Refusal → Type 0) (r : Refusal) → P r → ((s : Refusal) → P s → s ≡ r) → IsLeast P (Some r)
least_alone P r here only = (here, λ s h. (least_refused (Unit {0}) true r (λ _. tt) (λ _. refl)).1 s (tt, only s h))

module _ (files : Files) (spots : List Spot) (tree : List ItemRow) (x : RefineMeaning) where
  no_row : slice_get (rows_of files) x.refine ≡ None → IsLeast (IsWrong files spots tree x) None
  no_row at = λ f h. elim h.1 [
    | inl (r, there, e) ↦ (let bad : None ≡ Some r = sym at ∙ there in cc)
    | inr (r, there, e) ↦ (let bad : None ≡ Some r = sym at ∙ there in cc)
  ]

  untargeted : (r : Row) → IsThere tree x.item → slice_get (rows_of files) x.refine ≡ Some r → x.target ≡ None → IsLeast (IsWrong files spots tree x) (Some (refusal_at code.RefineTarget r.file r.head))
  untargeted r there at none = least_alone (IsWrong files spots tree x) (refusal_at code.RefineTarget r.file r.head) (there, inl (r, at, (none, refl))) (λ s h. elim h.1 [
    | inl (q, q_at, (e, is)) ↦ is ∙ ap (λ (y : Row). refusal_at code.RefineTarget y.file y.head) (same_Some q r (sym q_at ∙ at))
    | inr (q, q_at, (unfit, is)) ↦ absurd (let bad : None ≡ Some unfit.item = sym none ∙ unfit.target in cc)
  ])

  misfit : (r : Row) (i : ℕ) → IsThere tree x.item → slice_get (rows_of files) x.refine ≡ Some r → x.target ≡ Some i → is_fit_at_item files spots x.refine i ≡ false → IsLeast (IsWrong files spots tree x) (Some (refusal_at code.BadRefine r.file r.head))
  misfit r i there at means unfit = least_alone (IsWrong files spots tree x) (refusal_at code.BadRefine r.file r.head) (there, inr (r, at, (record { item = i; target = means; unfit = unfit }, refl))) (λ s h. elim h.1 [
    | inl (q, q_at, (e, is)) ↦ absurd (let bad : None ≡ Some i = sym e ∙ means in cc)
    | inr (q, q_at, (other, is)) ↦ is ∙ ap (λ (y : Row). refusal_at code.BadRefine y.file y.head) (same_Some q r (sym q_at ∙ at))
  ])

  fits : (i : ℕ) → x.target ≡ Some i → is_fit_at_item files spots x.refine i ≡ true → IsLeast (IsWrong files spots tree x) None
  fits i means fit = λ f h. elim h.1 [
    | inl (r, at, (e, is)) ↦ (let bad : None ≡ Some i = sym e ∙ means in cc)
    | inr (r, at, (unfit, is)) ↦ (let bad : true ≡ false = sym fit ∙ ap (is_fit_at_item files spots x.refine) (same_Some i unfit.item (sym means ∙ unfit.target)) ∙ unfit.unfit in cc)
  ]

  -- what stands for a refine of a uses that is there
  pub least_there : (targets : List (Option ℕ)) → IsThere tree x.item → IsLeast (IsWrong files spots tree x) (refusal_of_code (code_at files x.refine (way_of_target spots targets x.target)) (slice_get (rows_of files) x.refine))
  least_there targets there = by x.target refl
    where
      by_row : (o : Option Row) (c : Code) → slice_get (rows_of files) x.refine ≡ o → ((r : Row) → slice_get (rows_of files) x.refine ≡ Some r → IsLeast (IsWrong files spots tree x) (Some (refusal_at c r.file r.head))) → IsLeast (IsWrong files spots tree x) (refusal_of_code (Some c) o)
      by_row None c at h = no_row at
      by_row (Some r) c at h = h r at

      by_fit : (i : ℕ) (b : Bool) → x.target ≡ Some i → is_fit_at_item files spots x.refine i ≡ b → IsLeast (IsWrong files spots tree x) (refusal_of_code (cond b None (Some code.BadRefine)) (slice_get (rows_of files) x.refine))
      by_fit i true means fit = fits i means fit
      by_fit i false means fit = by_row (slice_get (rows_of files) x.refine) code.BadRefine refl (λ r at. misfit r i there at means fit)

      by : (o : Option ℕ) → x.target ≡ o → IsLeast (IsWrong files spots tree x) (refusal_of_code (code_at files x.refine (way_of_target spots targets o)) (slice_get (rows_of files) x.refine))
      by None none = by_row (slice_get (rows_of files) x.refine) code.RefineTarget refl (λ r at. untargeted r there at none)
      by (Some i) means = by_fit i (is_fit_at files (option_map (λ s. s.statement) (slice_get spots i)) x.refine) means (fit_for_at files spots x.refine i)

  -- nothing is wrong with one of a uses that isn't there
  pub least_absent : (items : BTreeSet ℕ) → AreItems items tree → contains nat_cmp items x.item ≡ false → IsLeast (IsWrong files spots tree x) None
  least_absent items are out = λ f h. (let bad : true ≡ false = sym (are.all x.item h.0) ∙ out in cc)
