-- What was judged of refines, copy after copy.
use Rattle.std.proofs.Common.{◌≡◌, ℕ, ◌+◌, ◌⊎◌, inl, inr, ⊎_elim, zero, suc, true, false, List, [], ◌∷◌, ◌++◌, length, get_or, map, set, take, Option, Some, None, Result, Ok, Err, Vec, Global, refl, sym, ◌∙◌, ap, subst, arith, length-append}
use Rattle.std.specs.List.{slice_get}
use Rattle.std.specs.Option.{option_map}
use Rattle.std.specs.Result.{IfOk}
use Rattle.std.specs.BTreeSet.{BTreeSet, contains}
use Rattle.std.specs.Ordering.{nat_cmp}
use Rattle.std.proofs.lemmas.List.{length-map, length-set}
use Rattle.std.proofs.lemmas.Option.{same_Some, slice_get-map, slice_get_within}
use Rattle.yv_text_statement.specs.Order.{Among, IsLeast, IsLesser}
use Rattle.yv_text_statement.specs.declared.refusal.Refusal.{Refusal}
use Rattle.yv_text_statement.proofs.Least.{least_lesser, least_more, least_same}
use Rattle.yv_link_scopes.specs.Files.{Files}
use Rattle.yv_link_scopes.specs.RowList.{rows_of}
use Rattle.yv_expand_rounds.specs.declared.row.ItemRow.{ItemRow}
use Rattle.yv_expand_uses.specs.declared.spot.Spot.{Spot}
use Rattle.yv_expand_refines.specs.Targets.{RefineMeaning, targets_at, meant_at, meaning_of, meant_from}
use Rattle.yv_expand_refines.specs.declared.targets.RefineTarget.{RefineTarget}
use Rattle.yv_expand_refines.specs.declared.targets.RefinedUses.{RefinedUses}
use Rattle.yv_expand_changes.specs.Refusals.{BadRefines, IsThere, IsWrong}
use Rattle.yv_expand_changes.specs.InnerAlike.{way_of_target, ways_of}
use Rattle.yv_expand_changes.specs.InnerRefusals.{AreItems, AreJudged, IsJudged, code_at, refusal_of_code}
use Rattle.yv_expand_changes.specs.declared.refusals.Judgement.{Judgement}
use Rattle.yv_expand_changes.specs.declared.ways.Way.{Way}
use Rattle.yv_expand_changes.proofs.CopyChanges.{way_is}
use Rattle.yv_expand_changes.proofs.UsesRuns.{meant_next, written}
use Rattle.yv_expand_changes.proofs.RefineRefusal.{least_there}

pub if_ok : {T E : Type 0} (r : Result T E) {P Q : T → Type 0} → ((x : T) → P x → Q x) → IfOk r P → IfOk r Q
if_ok (Ok x) f h = f x h
if_ok (Err e) f h = tt

module _ {X : Type 0} where
  get_left : (xs ys : List X) (k : ℕ) (x : X) → slice_get xs k ≡ Some x → slice_get (xs ++ ys) k ≡ Some x
  get_left [] ys k x e = absurd (let bad : None ≡ Some x = e in cc)
  get_left (z ∷ xs) ys zero x e = e
  get_left (z ∷ xs) ys (suc k) x e = get_left xs ys k x e

  get_right : (xs ys : List X) (k j : ℕ) (x : X) → j ≡ length xs + k → slice_get ys k ≡ Some x → slice_get (xs ++ ys) j ≡ Some x
  get_right [] ys k j x e at = ap (slice_get ys) (omega (arith, e)) ∙ at
  get_right (z ∷ xs) ys k zero x e at = absurd (omega (arith, e))
  get_right (z ∷ xs) ys k (suc j) x e at = get_right xs ys k j x (omega (arith, e)) at

  get_either : (xs ys : List X) (k : ℕ) (x : X) → slice_get (xs ++ ys) k ≡ Some x → (slice_get xs k ≡ Some x) ⊎ ((j : ℕ) × (slice_get ys j ≡ Some x))
  get_either [] ys k x e = inr (k, e)
  get_either (z ∷ xs) ys zero x e = inl e
  get_either (z ∷ xs) ys (suc k) x e = get_either xs ys k x e

  -- what stands for two lists, for one behind the other
  joined : (P : X → Refusal → Type 0) (xs ys : List X) (a b c : Option Refusal) → IsLesser a b c → IsLeast (Among xs (λ k x. P x) (length xs)) a → IsLeast (Among ys (λ k x. P x) (length ys)) b
      → IsLeast (Among (xs ++ ys) (λ k x. P x) (length (xs ++ ys))) c
  joined P xs ys a b c l p q =
      least_same (λ r. Among xs (λ k x. P x) (length xs) r ⊎ Among ys (λ k x. P x) (length ys) r) (Among (xs ++ ys) (λ k x. P x) (length (xs ++ ys))) c
      (λ r. ⊎_elim
      (λ h. (h.0, omega (arith, h.1, length-append xs ys), h.2, get_left xs ys h.0 h.2 h.3, h.4))
      (λ h. (length xs + h.0, omega (arith, h.1, length-append xs ys), h.2, get_right xs ys h.0 (length xs + h.0) h.2 refl h.3, h.4)))
      (λ r h. elim (get_either xs ys h.0 h.2 h.3) [
        | inl at ↦ inl (h.0, slice_get_within xs h.0 h.2 at, h.2, at, h.4)
        | inr at ↦ inr (at.0, slice_get_within ys at.0 h.2 at.1, h.2, at.1, h.4)
      ])
      (least_lesser (Among xs (λ k x. P x) (length xs)) (Among ys (λ k x. P x) (length ys)) a b c l p q)

module _ (files : Files) (spots : List Spot) (tree : List ItemRow) where
  -- one refine more of a copy that is there
  pub one_judged : (targets : List (Option ℕ)) (item : ℕ) (ways : List (Option Way)) (refine_targets : List RefineTarget) (k : ℕ) (a : RefineTarget) (old one new : Option Refusal) → ways ≡ ways_of spots targets → IsThere tree item
      → slice_get refine_targets k ≡ Some a → IsLesser old one new → one ≡ refusal_of_code (code_at files a.refine (get_or ways a.path None)) (slice_get (rows_of files) a.refine)
      → IsLeast (Among (map (meaning_of item targets) refine_targets) (λ place x. IsWrong files spots tree x) k) old → IsLeast (Among (map (meaning_of item targets) refine_targets) (λ place x. IsWrong files spots tree x) (k + 1)) new
  one_judged targets item ways refine_targets k a old one new alike there at lesser is before =
      least_more (map (meaning_of item targets) refine_targets) (λ place x. IsWrong files spots tree x) k (meaning_of item targets a) old one new
      (slice_get-map (meaning_of item targets) refine_targets k ∙ ap (option_map (meaning_of item targets)) at) lesser before
      (subst (IsLeast (IsWrong files spots tree (meaning_of item targets a))) (sym same) (least_there files spots tree (meaning_of item targets a) targets there))
    where
      same : one ≡ refusal_of_code (code_at files a.refine (way_of_target spots targets (get_or targets a.path None))) (slice_get (rows_of files) a.refine)
      same = is
          ∙ ap (λ (ws : List (Option Way)). refusal_of_code (code_at files a.refine (get_or ws a.path None)) (slice_get (rows_of files) a.refine)) alike
          ∙ ap (λ w. refusal_of_code (code_at files a.refine w) (slice_get (rows_of files) a.refine)) (way_is files spots item targets a.path)

  pub all_judged : (item : ℕ) (targets : List (Option ℕ)) (refine_targets : List RefineTarget) (k : ℕ) (least : Option Refusal) → k ≡ length refine_targets
      → IsLeast (Among (map (meaning_of item targets) refine_targets) (λ place x. IsWrong files spots tree x) k) least → IsLeast (BadRefines files spots (map (meaning_of item targets) refine_targets) tree) least
  all_judged item targets refine_targets k least e h =
      subst (λ n. IsLeast (Among (map (meaning_of item targets) refine_targets) (λ place x. IsWrong files spots tree x) n) least) (e ∙ sym (length-map refine_targets (meaning_of item targets))) h

  pub none_judged : (P : List RefineMeaning) → P ≡ [] → IsLeast (BadRefines files spots P tree) None
  none_judged xs e = subst (λ xs. IsLeast (BadRefines files spots xs tree) None) (sym e) (λ f h. omega (arith, h.1))

  item_of : (item : ℕ) (targets : List (Option ℕ)) (refine_targets : List RefineTarget) (k : ℕ) (x : RefineMeaning) → slice_get (map (meaning_of item targets) refine_targets) k ≡ Some x → x.item ≡ item
  item_of item targets [] k x e = absurd (let bad : None ≡ Some x = e in cc)
  item_of item targets (a ∷ as') zero x e = ap (λ (y : RefineMeaning). y.item) (sym (same_Some (meaning_of item targets a) x e))
  item_of item targets (a ∷ as') (suc k) x e = item_of item targets as' k x e

  -- a copy that isn't there
  pub absent_judged : (refine_targets : List (Vec RefineTarget Global)) (u : RefinedUses) (items : BTreeSet ℕ) → AreItems items tree → contains nat_cmp items u.item ≡ false → IsLeast (BadRefines files spots (meant_at refine_targets u) tree) None
  absent_judged refine_targets u items are out = λ f h.
      (let same = item_of u.item u.targets.items (targets_at refine_targets u.refine_targets) h.0 h.2 h.3 in
      let bad : true ≡ false = sym (are.all u.item (subst (IsThere tree) same h.4.0)) ∙ out in cc)

  -- one copy more
  pub copies_judged : (refine_targets : List (Vec RefineTarget Global)) (us : List RefinedUses) (k : ℕ) (u : RefinedUses) (old one new : Option Refusal) → slice_get us k ≡ Some u → IsLesser old one new
      → IsLeast (BadRefines files spots (meant_from refine_targets (take k us)) tree) old → IsLeast (BadRefines files spots (meant_at refine_targets u) tree) one → IsLeast (BadRefines files spots (meant_from refine_targets (take (k + 1) us)) tree) new
  copies_judged refine_targets us k u old one new at lesser before now =
      subst (λ xs. IsLeast (BadRefines files spots xs tree) new) (sym (meant_next refine_targets us k u at)) (joined (IsWrong files spots tree) (meant_from refine_targets (take k us)) (meant_at refine_targets u) old one new lesser before now)

-- what was judged of one uses is judged now as this
pub judged_more : (files : Files) (refine_targets : List (Vec RefineTarget Global)) (judged : List (Option Judgement)) (place : ℕ) (j : Option Judgement) → AreJudged files refine_targets judged → IsJudged files (targets_at refine_targets place) j
    → AreJudged files refine_targets (set judged place j)
judged_more files refine_targets judged place j are now = record {
  each = length-set judged place j ∙ are.each;
  are = λ p x at. elim (written judged place p j x at) [
    | inl here ↦ subst (λ n. IsJudged files (targets_at refine_targets n) x) (sym here.0) (subst (IsJudged files (targets_at refine_targets place)) here.1 now)
    | inr other ↦ are.are p x other
  ];
}
