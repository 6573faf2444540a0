-- What passes is a candidate.
use Rattle.std.proofs.Common.{◌≡◌, ℕ, inl, inr, Bool, true, false, List, map, refl, sym, ◌∙◌}
use Rattle.std.specs.Prelude.{not}
use Rattle.std.proofs.lemmas.Bool.{cases_Bool}
use Rattle.std.specs.List.{list_any}
use Rattle.std.specs.BTreeSet.{BTreeSet, contains}
use Rattle.std.specs.Ordering.{nat_cmp}
use Rattle.yv_text_statement.specs.Selection.{ModuleChoice}
use Rattle.yv_link_scopes.specs.Files.{Files, brief_of}
use Rattle.yv_link_scopes.specs.RowList.{rows_of}
use Rattle.yv_link_scopes.specs.Rows.{Row, name_in}
use Rattle.yv_link_features.specs.On.{is_if_feature_of}
use Rattle.yv_link_identities.specs.Names.{is_identity}
use Rattle.yv_type_identities.specs.Values.{Truth, IsOn, names_implemented, id_at}
use Rattle.yv_type_identities.specs.InnerCandidates.{IsCandidate, fails, passes}
use Rattle.yv_type_identities.proofs.RowLoop.{both, both_true, found, finds}

not_false : (b : Bool) → not b ≡ true → b ≡ false
not_false true h = sym h
not_false false h = refl

false_not : (b : Bool) → b ≡ false → not b ≡ true
false_not true h = sym h
false_not false h = refl

module _ (truth : Truth) (rows : List Row) (number : ℕ) where
  on_false : list_any (fails truth number) rows ≡ false → IsOn truth rows number
  on_false none c s at is = elim (cases_Bool (truth s.file (name_in s))) [
    | inl t ↦ t
    | inr f ↦
        let some : list_any (fails truth number) rows ≡ true = finds (fails truth number) rows c s at (both_true (is_if_feature_of number s) (not (truth s.file (name_in s))) is (false_not (truth s.file (name_in s)) f)) in
        let clash : true ≡ false = sym some ∙ none in
        cc
  ]

  false_on : IsOn truth rows number → list_any (fails truth number) rows ≡ false
  false_on on = elim (cases_Bool (list_any (fails truth number) rows)) [
    | inl t ↦
        let f = found (fails truth number) rows t in
        let p = both (is_if_feature_of number f.1) (not (truth f.1.file (name_in f.1))) f.3 in
        let clash : true ≡ false = sym (on f.0 f.1 f.2 p.0) ∙ not_false (truth f.1.file (name_in f.1)) p.1 in
        cc
    | inr f ↦ f
  ]

-- what is known of the numbers of statements that aren't on
abbrev pub AreOff : Truth → List Row → BTreeSet ℕ → Type 0
AreOff truth rows off = (number : ℕ) → contains nat_cmp off number ≡ list_any (fails truth number) rows

module _ (truth : Truth) (choice : ModuleChoice) (files : Files) (off : BTreeSet ℕ) (are : AreOff truth (rows_of files) off) where
  pub candidate_passes : (number : ℕ) (r : Row) → IsCandidate truth choice files number r → passes choice (map brief_of files) off number r ≡ true
  candidate_passes number r v =
      both_true (is_identity r) _ v.identity
      (both_true (names_implemented choice (map brief_of files) (id_at (map brief_of files) r).module_name) _ v.implemented
      (false_not (contains nat_cmp off number) (are number ∙ false_on truth (rows_of files) number v.on)))

  pub passes_candidate : (number : ℕ) (r : Row) → passes choice (map brief_of files) off number r ≡ true → IsCandidate truth choice files number r
  passes_candidate number r h =
      let a = both (is_identity r) _ h in
      let c = both (names_implemented choice (map brief_of files) (id_at (map brief_of files) r).module_name) _ a.1 in
      record {
        identity = a.0;
        implemented = c.0;
        on = on_false truth (rows_of files) number (sym (are number) ∙ not_false (contains nat_cmp off number) c.1);
      }
