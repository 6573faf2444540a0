-- What is wrong with a type.
use Rattle.std.proofs.Common.{◌≡◌, ℕ, ◌≤◌, ◌↔◌, ◌⊎◌, inl, inr, ◌&&◌, ◌||◌, not, Bool, true, false, IsTrue, cond, List, length, refl, sym, ◌∙◌, ap, subst, arith, Option, Some, None}
use Rattle.std.specs.List.{slice_get}
use Rattle.std.proofs.lemmas.Bool.{false≢true}
use Rattle.std.proofs.lemmas.Option.{same_Some, slice_get_within}
use Rattle.yv_text_statement.specs.Order.{IsLeast, Stands, Among}
use Rattle.yv_text_statement.specs.declared.refusal.Refusal.{Refusal}
use Rattle.yv_text_statement.proofs.Least.{least_refused, least_same}
use Rattle.yv_link_scopes.specs.Files.{Briefs}
use Rattle.yv_link_scopes.specs.Rows.{Row, name_in}
use Rattle.yv_link_definitions.specs.Refers.{is_type}
use Rattle.yv_type_chains.specs.Kinds.{needs, needs_any}
use Rattle.yv_type_chains.specs.Refusals.{IsBadType, misfit, lacks_one, leafref_in_union, IsChild, IsMisfit}
use Rattle.yv_base_graph.specs.Marks.{is_marked}
use Rattle.yv_type_chains.specs.InnerMarks.{AreMarked, IsJoined, Meets}
use Rattle.yv_type_chains.proofs.Words.{both_true, true_both}

-- a refusal where what a test decides holds
pub decided : (P : Type 0) (flag : Bool) (r : Refusal) (result : Option Refusal) → IsTrue flag ↔ P → result ≡ cond flag (Some r) None → IsLeast (Stands P r) result
decided P flag r result both h = subst (λ (o : Option Refusal). IsLeast (Stands P r) o) (sym h) (least_refused P flag r both.0 both.1)

-- all of them
pub least_all : {X : Type 0} (xs : List X) (P : ℕ → X → Refusal → Type 0) (i : ℕ) (o : Option Refusal) → length xs ≤ i → IsLeast (Among xs P i) o → IsLeast (Among xs P (length xs)) o
least_all xs P i o h l = least_same (Among xs P i) (Among xs P (length xs)) o
    (λ r a. (a.0, slice_get_within xs a.0 a.2 a.3, a.2, a.3, a.4))
    (λ r a. (a.0, omega (arith, a.1), a.2, a.3, a.4)) l

not_true : (b : Bool) → not b ≡ true → b ≡ false
not_true true h = absurd (false≢true h)
not_true false h = refl

true_not : (b : Bool) → (b ≡ true → ⊥) → not b ≡ true
true_not true h = absurd (h refl)
true_not false h = refl

one_of : (a b c : Bool) → (a || (b || c)) ≡ true → (a ≡ true) ⊎ ((b ≡ true) ⊎ (c ≡ true))
one_of true b c h = inl refl
one_of false true c h = inr (inl refl)
one_of false false c h = inr (inr h)

first_one : (a b c : Bool) → a ≡ true → (a || (b || c)) ≡ true
first_one true b c h = refl
first_one false b c h = absurd (false≢true h)

second_one : (a b c : Bool) → b ≡ true → (a || (b || c)) ≡ true
second_one true b c h = refl
second_one false true c h = refl
second_one false false c h = absurd (false≢true h)

third_one : (a b c : Bool) → c ≡ true → (a || (b || c)) ≡ true
third_one true b c h = refl
third_one false true c h = refl
third_one false false c h = h

module _ (files : Briefs) (rows : List Row) (k : ℕ) (r : Row) (at : slice_get rows k ≡ Some r) (misfits met : List Bool) (fits : AreMarked (IsMisfit files rows) rows misfits) (meet : AreMarked (Meets rows) rows met) where
  abbrev Lacks : Bool
  Lacks = (is_type r && needs_any (name_in r)) && not (is_marked met k)

  from_lacks : Lacks ≡ true → IsBadType files rows k r
  from_lacks h =
      let p = both_true (is_type r && needs_any (name_in r)) (not (is_marked met k)) h in
      let q = both_true (is_type r) (needs_any (name_in r)) p.0 in
      lacks_one q.0 q.1 (λ c s child need. false≢true (sym (not_true (is_marked met k) p.1) ∙ (meet k).1 (c, s, child, (r, at, need))))

  lacks_from : is_type r ≡ true → needs_any (name_in r) ≡ true → ((c : ℕ) (s : Row) → IsChild rows k c s → needs (name_in r) s.head.keyword ≡ true → ⊥) → Lacks ≡ true
  lacks_from is one out = true_both (is_type r && needs_any (name_in r)) (not (is_marked met k)) (true_both (is_type r) (needs_any (name_in r)) is one) (true_not (is_marked met k) by)
    where
      by : is_marked met k ≡ true → ⊥
      by m =
          let p = (meet k).0 m in
          let q = p.3 in
          let same : q.0 ≡ r = same_Some q.0 r (sym q.1 ∙ at) in
          out p.0 p.1 p.2 (ap (λ (x : Row). needs (name_in x) p.1.head.keyword) (sym same) ∙ q.2)

  pub judged : (a b c result : Bool) → a ≡ is_marked misfits k → b ≡ Lacks → IsTrue c ↔ IsJoined files rows k r → result ≡ (a || (b || c)) → IsTrue result ↔ IsBadType files rows k r
  judged a b c result ea eb ec e = (to, from)
    where
      to : IsTrue result → IsBadType files rows k r
      to h = elim (one_of a b c (sym e ∙ h)) [
        | inl x ↦ let p = (fits k).0 (sym ea ∙ x) in misfit p.0 p.2 p.3
        | inr (inl x) ↦ from_lacks (sym eb ∙ x)
        | inr (inr x) ↦ let p = ec.0 x in leafref_in_union p.0 p.1.1 p.1.2
      ]

      from : IsBadType files rows k r → IsTrue result
      from (misfit i {s = s} child m) = e ∙ first_one a b c (ea ∙ (fits k).1 (i, s, child, m))
      from (lacks_one is one out) = e ∙ second_one a b c (eb ∙ lacks_from is one out)
      from (leafref_in_union {u = u} h there is) = e ∙ third_one a b c (ec.1 (h, (u, there, is)))
