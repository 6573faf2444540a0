-- The refusal of the first wrong entry is the least.
use Rattle.std.proofs.Common.{◌≡◌, ℕ, inl, inr, Bool, List, refl, sym, ◌∙◌, ap, arith, Option, Some, None, true}
use Rattle.std.specs.List.{slice_get}
use Rattle.std.proofs.lemmas.Bool.{cases_lt}
use Rattle.std.proofs.lemmas.Option.{same_Some}
use Rattle.yv_text_statement.specs.Order.{IsLeast, IsUpTo, refusal_at}
use Rattle.yv_text_statement.specs.Tree.{Tree}
use Rattle.yv_text_statement.specs.declared.refusal.Code.TheVariants.{BadNumbering}
use Rattle.yv_text_statement.specs.declared.refusal.Refusal.{Refusal}
use Rattle.yv_text_statement.proofs.Least.{least_refused}
use Rattle.yv_base_numbers.specs.Numberings.{Pair, IsFirstWrong, is_wrong, is_wrong_in, keep_numbers, number_entries}
use Rattle.yv_base_numbers.specs.declared.numbering.NumberKind.{NumberKind}
use Rattle.yv_base_numbers.specs.Entries.{Entry}
use Rattle.yv_type_enums.specs.Entries.{entries, listing}
use Rattle.yv_type_enums.specs.Names.{IsRefusal}
use Rattle.yv_type_enums.specs.Types.{Start, new, from, IsFaultBy}

up_to_itself : (r s : Refusal) → s ≡ r → IsUpTo r s
up_to_itself r s e = (least_refused (Unit {0}) true r (λ _. tt) (λ _. refl)).1 s (tt, e)

module _ (pairs : List Entry → List Pair) (wrong : List Pair → Entry → Bool) (kind : NumberKind) (file : ℕ) (t : Tree) where
  one_first : (i j : ℕ) → IsFirstWrong pairs wrong (entries kind t) (Some i) → IsFirstWrong pairs wrong (entries kind t) (Some j) → i ≡ j
  one_first i j p q = elim (cases_lt i j) [
    | inl l ↦ absurd (q.1 i l p.0)
    | inr u ↦ elim (cases_lt j i) [
      | inl l ↦ absurd (p.1 j l q.0)
      | inr v ↦ omega (arith, u, v)
    ]
  ]

  one_fault : (r s : Refusal) → IsRefusal pairs wrong kind file t (Some r) → IsRefusal pairs wrong kind file t (Some s) → s ≡ r
  one_fault r s p q =
      let i : p.0 ≡ q.0 = one_first p.0 q.0 p.2 q.2 in
      let c : p.1 ≡ q.1 = same_Some p.1 q.1 (sym p.3 ∙ ap (slice_get (listing kind t)) i ∙ q.3) in
      q.4 ∙ ap (λ (x : Tree). refusal_at BadNumbering file x.head) (sym c) ∙ sym p.4

  pub fault_least : (o : Option Refusal) → IsRefusal pairs wrong kind file t o → IsLeast (λ f. IsRefusal pairs wrong kind file t (Some f)) o
  fault_least None w = λ f h. w h.0 h.2.0
  fault_least (Some r) w = (w, λ f h. up_to_itself r f (one_fault r f w h))

pub fault_by : (file : ℕ) (t : Tree) (s : Start) (o : Option Refusal) → IsFaultBy file t s o → IsLeast (λ f. IsFaultBy file t s (Some f)) o
fault_by file t (new kind) o w = fault_least (number_entries kind) (is_wrong kind) kind file t o w
fault_by file t (from base) o w = fault_least (keep_numbers base.number) (is_wrong_in base.number) base.kind file t o w
