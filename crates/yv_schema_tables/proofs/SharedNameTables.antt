-- Tables with shared names as their keys.
use Rattle.std.proofs.Common.{◌≡◌, ℕ, List, Bool, true, false, cond, Some, sym, ◌∙◌, subst, inl, inr}
use Rattle.std.specs.BTreeMap.{BTreeMap, UpdatesBy}
use Rattle.std.specs.Cmp.Lexicographic.{slice_cmp}
use Rattle.std.specs.Map.{AreApart, IsKeyTest, KeepsOthers, lookup}
use Rattle.std.specs.Ordering.{is_eq, nat_cmp}
use Rattle.std.specs.Rc.{rc_str_bytes}
use Rattle.std.specs.Str.{bytes_eq}
use Rattle.std.proofs.lemmas.Bool.{cases_Bool, cond-false, cond-true}
use Rattle.std.proofs.lemmas.Cmp.{eq_by_cmp_equiv, nat_list_cmp_total, nat_list_eq_equiv}
use Rattle.std.proofs.lemmas.Map.Text.{is_eq-slice_cmp}
use Rattle.std.proofs.lemmas.Slice.Eq.{bytes_eq-Decides}
use Rattle.std.specs.declared.rc.RcStr.{RcStr}
use Rattle.std.specs.declared.alloc.Global.{Global}
use Rattle.yv_schema_tables.specs.InnerNames.{get_by_name}

-- two texts that differ find no key in common
apart : (a b k : List ℕ) → bytes_eq a b ≡ false → is_eq (slice_cmp nat_cmp a k) ≡ true → is_eq (slice_cmp nat_cmp b k) ≡ false
apart a b k differ found =
    let same : bytes_eq a k ≡ true = sym (is_eq-slice_cmp a k) ∙ found in
    is_eq-slice_cmp b k ∙ nat_list_eq_equiv.symm b k ∙ sym (nat_list_eq_equiv.congr a k b same) ∙ differ

module _ {K X : Type 0} (eq : K → K → Bool) (test : K → Bool) where
  others_kept : (old new : List (K × X)) → KeepsOthers eq test old new → (other : K → Bool) → IsKeyTest eq other → AreApart test other → lookup other new ≡ lookup other old
  unfolding KeepsOthers
  others_kept old new h = h

-- what a map has where something was put at a name
pub put_name : {X : Type 0} (old new : BTreeMap (RcStr Global) X) (name : List ℕ) (x : X) → UpdatesBy (λ x y. slice_cmp nat_cmp (rc_str_bytes x) (rc_str_bytes y)) (λ k. slice_cmp nat_cmp name (rc_str_bytes k)) old new (Some x)
    → (text : List ℕ) → get_by_name new text ≡ cond (bytes_eq name text) (Some x) (get_by_name old text)
put_name old new name x h text = elim (cases_Bool (bytes_eq name text)) [
  | inl same ↦
      let one : name ≡ text = (bytes_eq-Decides name text).0 same in
      subst (λ (t : List ℕ). get_by_name new t ≡ Some x) one h.1 ∙ sym (cond-true (bytes_eq name text) (Some x) (get_by_name old text) same)
  | inr differ ↦
      others_kept _ _ _ _ h.3 _ (λ x y. (eq_by_cmp_equiv nat_list_cmp_total).congr text (rc_str_bytes x) (rc_str_bytes y)) (λ k. apart name text (rc_str_bytes k) differ)
      ∙ sym (cond-false (bytes_eq name text) (Some x) (get_by_name old text) differ)
]
