-- Features marked one after the other, each behind all that it leads to.
use Rattle.std.proofs.Common.{◌≡◌, ◌≢◌, ◌↔◌, ℕ, ◌+◌, ◌<◌, ◌≤◌, inl, inr, Bool, true, false, IsTrue, List, length, get_or, set, take, Some, sym, ◌∙◌, ap, subst, arith, get_or-set_other, get_or-set_same}
use Rattle.std.specs.List.{slice_get}
use Rattle.std.proofs.lemmas.Bool.{cases_eq}
use Rattle.std.proofs.lemmas.List.{get_or_default, get_or-take, length-take-le, length-set}
use Rattle.std.proofs.lemmas.Option.{slice_get_within}
use Rattle.yv_text_statement.specs.Selection.{ModuleChoice}
use Rattle.yv_link_scopes.specs.Files.{Briefs}
use Rattle.yv_link_scopes.specs.Rows.{Row}
use Rattle.yv_link_features.specs.Meaning.{Meaning, is_feature}
use Rattle.yv_link_features.specs.On.{AllHold, IsOn, has_support}
use Rattle.yv_link_features.specs.Depends.{DependsOn, by_step}
use Rattle.yv_link_features.specs.Features.{from_marks}
use Rattle.yv_link_features.specs.InnerGraph.{IsOrderOf}
use Rattle.yv_link_features.proofs.AssignmentAgreement.{InOrder, hold_same, is_on_same}

-- the first n of an order are marked as they are on
pub record MarkedUpTo (means : Meaning) (files : Briefs) (rows : List Row) (choice : ModuleChoice) (order : List ℕ) (n : ℕ) (on : List Bool) : Type 0 where
  pub each : length on ≡ length rows
  pub are_on : (i : ℕ) → i < n → (r : Row) → slice_get rows (get_or order i 0) ≡ Some r → is_feature r ≡ true → IsOn means files rows choice (from_marks on) (get_or order i 0) r

module _ (means : Meaning) (files : Briefs) (rows : List Row) (choice : ModuleChoice) (order : List ℕ) (o : IsOrderOf means rows order) where
  pub marked_start : (on : List Bool) → length on ≡ length rows → MarkedUpTo means files rows choice order 0 on
  marked_start on e = record { each = e; are_on = λ i l. absurd (omega arith) }

  -- what the i-th depends on stands before it, so that it isn't the j-th
  not_later : (i j : ℕ) → i ≤ j → j < length order → (d : ℕ) → DependsOn means rows (get_or order i 0) d → d ≢ get_or order j 0
  not_later i j le l d s e =
      let c = o.behind i d (omega arith) (by_step s) in
      let short : c.0 < i = omega (arith, c.1, length-take-le i order (omega arith)) in
      let there : get_or order c.0 0 ≡ d = sym (get_or-take i order c.0 0 short) ∙ get_or_default (take i order) c.0 0 d c.1 ∙ c.2 in
      let one : c.0 ≡ j = o.once c.0 j (omega arith) l (there ∙ e) in
      omega arith

  pub marked_more : InOrder → (n : ℕ) (old : List Bool) (b : Bool) → n < length order → ((r : Row) → slice_get rows (get_or order n 0) ≡ Some r → is_feature r ≡ true → IsTrue b ↔ ((has_support files choice r ≡ true) × AllHold means rows (from_marks old) (get_or order n 0))) → MarkedUpTo means files rows choice order n old → MarkedUpTo means files rows choice order (n + 1) (set old (get_or order n 0) b)
  marked_more in_order n old b l told m = record { each = length-set old (get_or order n 0) b ∙ m.each; are_on = at }
    where
      room : get_or order n 0 < length old
      room = omega (arith, o.within n 0 l, m.each)

      other : (k : ℕ) → k ≢ get_or order n 0 → from_marks old k ≡ from_marks (set old (get_or order n 0) b) k
      other k ne = sym (get_or-set_other old (get_or order n 0) k b false ne)

      agree : (i : ℕ) → i ≤ n → (d : ℕ) → DependsOn means rows (get_or order i 0) d → from_marks old d ≡ from_marks (set old (get_or order n 0) b) d
      agree i le d s = other d (not_later i n le l d s)

      last : (r : Row) → slice_get rows (get_or order n 0) ≡ Some r → is_feature r ≡ true → IsOn means files rows choice (from_marks (set old (get_or order n 0) b)) (get_or order n 0) r
      last r at f =
          let same : from_marks (set old (get_or order n 0) b) (get_or order n 0) ≡ b = get_or-set_same old (get_or order n 0) b false room in
          let t = told r at f in (
            λ h. let q = t.0 (sym same ∙ h) in (q.0, hold_same in_order means rows (from_marks old) (from_marks (set old (get_or order n 0) b)) (get_or order n 0) (agree n (omega arith)) q.1),
            λ q. same ∙ t.1 (q.0, hold_same in_order means rows (from_marks (set old (get_or order n 0) b)) (from_marks old) (get_or order n 0) (λ d s. sym (agree n (omega arith) d s)) q.1),
          )

      at : (i : ℕ) → i < n + 1 → (r : Row) → slice_get rows (get_or order i 0) ≡ Some r → is_feature r ≡ true → IsOn means files rows choice (from_marks (set old (get_or order n 0) b)) (get_or order i 0) r
      at i h r g f = elim (cases_eq i n) [
        | inl e ↦ subst (λ k. IsOn means files rows choice (from_marks (set old (get_or order n 0) b)) (get_or order k 0) r) (sym e) (last r (ap (λ k. slice_get rows (get_or order k 0)) (sym e) ∙ g) f)
        | inr ne ↦
            let apart : get_or order i 0 ≢ get_or order n 0 = λ e. ne (o.once i n (omega arith) l e) in
            is_on_same in_order means files rows choice (from_marks old) (from_marks (set old (get_or order n 0) b)) (get_or order i 0) r (other (get_or order i 0) apart) (agree i (omega arith)) (m.are_on i (omega arith) r g f)
      ]

  -- all are marked
  pub marked_end : (n : ℕ) (on : List Bool) → length order ≤ n → MarkedUpTo means files rows choice order n on → (k : ℕ) (r : Row) → slice_get rows k ≡ Some r → is_feature r ≡ true → IsOn means files rows choice (from_marks on) k r
  marked_end n on le m k r at f =
      let c = o.stands k (slice_get_within rows k r at) in
      let same : get_or order c.0 0 ≡ k = get_or_default order c.0 0 k c.1 ∙ c.2 in
      subst (λ j. IsOn means files rows choice (from_marks on) j r) same (m.are_on c.0 (omega (arith, c.1)) r (ap (slice_get rows) same ∙ at) f)
