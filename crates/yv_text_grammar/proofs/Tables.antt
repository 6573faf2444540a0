-- What holds of every row of the table: no keyword twice, and no extension's.
use Rattle.std.proofs.Common.{◌≡◌, ◌≢◌, Bool, true, false, not, ◌&&◌, ◌||◌, cond, List, [], ◌∷◌, Some, sym, ◌∙◌, ap, subst, refl}
use Rattle.std.specs.List.{list_any}
use Rattle.std.proofs.lemmas.Bool.{and_parts, false_from_ne_true, false≢true, not-true, or_parts}
use Rattle.yv_text_statement.specs.Keywords.{same}
use Rattle.yv_text_grammar.specs.Table.{Rows, is_one, occurs_in, rows_of}
use Rattle.yv_text_grammar.specs.Refusals.{has}
use Rattle.yv_text_statement.specs.declared.keyword.Keyword.{Keyword}
use Rattle.yv_text_statement.specs.declared.keyword.Keyword.TheVariants as word
use Rattle.yv_text_grammar.specs.declared.table.Occurs.{Occurs}
use Rattle.yv_text_grammar.specs.declared.table.Occurs.TheVariants.{One, Optional, Any}
use Rattle.yv_text_statement.specs.Tree.{Tree}
use Rattle.yv_text_grammar.proofs.Keywords.{one, other, is_same}

abbrev pub is_sound : Rows → Bool
is_sound [] = true
is_sound (r ∷ rs) = not (same r.0 word.Extended) && (not (list_any (λ q. same q.0 r.0) rs) && is_sound rs)

pub table_is_sound : (k : Keyword) → is_sound (rows_of k) ≡ true
unfolding rows_of
table_is_sound word.Module = refl
table_is_sound word.Submodule = refl
table_is_sound word.Import = refl
table_is_sound word.Include = refl
table_is_sound word.BelongsTo = refl
table_is_sound word.Revision = refl
table_is_sound word.Typedef = refl
table_is_sound word.Type = refl
table_is_sound word.Container = refl
table_is_sound word.Must = refl
table_is_sound word.When = refl
table_is_sound word.Leaf = refl
table_is_sound word.LeafList = refl
table_is_sound word.List = refl
table_is_sound word.Choice = refl
table_is_sound word.Case = refl
table_is_sound word.Anydata = refl
table_is_sound word.Anyxml = refl
table_is_sound word.Grouping = refl
table_is_sound word.Uses = refl
table_is_sound word.Refine = refl
table_is_sound word.Augment = refl
table_is_sound word.Rpc = refl
table_is_sound word.Action = refl
table_is_sound word.Input = refl
table_is_sound word.Output = refl
table_is_sound word.Notification = refl
table_is_sound word.Identity = refl
table_is_sound word.Feature = refl
table_is_sound word.Extension = refl
table_is_sound word.Argument = refl
table_is_sound word.Enum = refl
table_is_sound word.Bit = refl
table_is_sound word.Range = refl
table_is_sound word.Length = refl
table_is_sound word.Pattern = refl
table_is_sound _ = refl

really_one : (o : Occurs) → is_one o ≡ true → o ≡ One
really_one One h = refl
really_one Optional h = absurd (false≢true h)
really_one Any h = absurd (false≢true h)

-- what the rows speak of stands in them
listed : (rs : Rows) (k : Keyword) (o : Occurs) → occurs_in rs k ≡ Some o → list_any (λ q. same q.0 k) rs ≡ true
listed [] k o h = cc
listed (r ∷ rs) k o h =
    let cases : (t : Bool) → cond t (Some r.1) (occurs_in rs k) ≡ Some o → (t || list_any (λ q. same q.0 k) rs) ≡ true =
    λ t. elim t as (λ t. cond t (Some r.1) (occurs_in rs k) ≡ Some o → (t || list_any (λ q. same q.0 k) rs) ≡ true) [ true ↦ λ g. refl | false ↦ λ g. listed rs k o g ] in
    cases (same r.0 k) h

module _ (cs : List Tree) where
  -- where no row asks in vain, what has to stand does
  pub present : (rs : Rows) (k : Keyword) → list_any (λ r. is_one r.1 && not (has r.0 cs)) rs ≡ false → occurs_in rs k ≡ Some One → has k cs ≡ true
  present [] k h e = cc
  present (r ∷ rs) k h e =
      let cases : (t : Bool) → same r.0 k ≡ t → cond t (Some r.1) (occurs_in rs k) ≡ Some One → has k cs ≡ true =
      λ t. elim t as (λ t. same r.0 k ≡ t → cond t (Some r.1) (occurs_in rs k) ≡ Some One → has k cs ≡ true) [
        | true ↦ λ i g. here r rs k h (one r.0 k i) g
        | false ↦ λ i g. present rs k (or_parts _ _ h).1 g
      ] in
      cases (same r.0 k) refl e
    where
      bare : (b : Bool) → (not b || false) ≡ false → b ≡ true
      bare true h = refl
      bare false h = sym h

      tells : (o : Occurs) (b c : Bool) → o ≡ One → ((is_one o && not b) || c) ≡ false → b ≡ true
      tells One true c e h = refl
      tells One false c e h = sym h
      tells Optional b c e h = cc
      tells Any b c e h = cc

      here : (r : Keyword × Occurs) (rs : Rows) (k : Keyword) → list_any (λ r. is_one r.1 && not (has r.0 cs)) (r ∷ rs) ≡ false → r.0 ≡ k → Some r.1 ≡ Some One → has k cs ≡ true
      here r rs k h i g = subst (λ x. has x cs ≡ true) i (tells r.1 (has r.0 cs) _ (cc) h)

  -- a row that asks in vain is the one that speaks of its keyword
  pub lacking : (rs : Rows) → is_sound rs ≡ true → list_any (λ r. is_one r.1 && not (has r.0 cs)) rs ≡ true → (k : Keyword) × (k ≢ word.Extended) × (occurs_in rs k ≡ Some One) × (has k cs ≡ false)
  lacking [] sound h = absurd (false≢true h)
  lacking (r ∷ rs) sound h =
      let cases : (t : Bool) → (is_one r.1 && not (has r.0 cs)) ≡ t → (t || list_any (λ r. is_one r.1 && not (has r.0 cs)) rs) ≡ true → (k : Keyword) × (k ≢ word.Extended) × (occurs_in (r ∷ rs) k ≡ Some One) × (has k cs ≡ false) =
      λ t. elim t as (λ t. (is_one r.1 && not (has r.0 cs)) ≡ t → (t || list_any (λ r. is_one r.1 && not (has r.0 cs)) rs) ≡ true → (k : Keyword) × (k ≢ word.Extended) × (occurs_in (r ∷ rs) k ≡ Some One) × (has k cs ≡ false)) [
        | true ↦ λ e g. asked r rs (not-true _ (and_parts _ _ sound).0) (really_one r.1 (and_parts _ _ e).0) (not-true _ (and_parts _ _ e).1)
        | false ↦ λ e g. further r rs sound (lacking rs (and_parts _ _ (and_parts _ _ sound).1).1 g)
      ] in
      cases (is_one r.1 && not (has r.0 cs)) refl h
    where
      asked : (r : Keyword × Occurs) (rs : Rows) → same r.0 word.Extended ≡ false → r.1 ≡ One → has r.0 cs ≡ false → (k : Keyword) × (k ≢ word.Extended) × (occurs_in (r ∷ rs) k ≡ Some One) × (has k cs ≡ false)
      asked r rs e o f = (r.0, other r.0 word.Extended e, rw (is_same r.0 r.0 refl) (ap Some o), f)

      further : (r : Keyword × Occurs) (rs : Rows) → is_sound (r ∷ rs) ≡ true → (k : Keyword) × (k ≢ word.Extended) × (occurs_in rs k ≡ Some One) × (has k cs ≡ false) → (k : Keyword) × (k ≢ word.Extended) × (occurs_in (r ∷ rs) k ≡ Some One) × (has k cs ≡ false)
      further r rs sound q =
          let rest : (not (list_any (λ x. same x.0 r.0) rs) && is_sound rs) ≡ true = (and_parts (not (same r.0 word.Extended)) _ sound).1 in
          let apart : list_any (λ x. same x.0 r.0) rs ≡ false = not-true _ (and_parts _ _ rest).0 in
          let in_rest : list_any (λ x. same x.0 q.0) rs ≡ true = listed rs q.0 One q.2 in
          let differ : same r.0 q.0 ≡ false = false_from_ne_true (same r.0 q.0) (λ e. false≢true (sym apart ∙ subst (λ k. list_any (λ x. same x.0 k) rs ≡ true) (sym (one r.0 q.0 e)) in_rest)) in
          (q.0, q.1, rw differ q.2, q.3)
