-- Where no feature leads to itself, one assignment agrees with itself.
use Rattle.std.proofs.Common.{◌≡◌, ◌≢◌, ℕ, zero, suc, ◌<◌, ◌≤◌, ◌⊎◌, inl, inr, Bool, true, List, [], ◌∷◌, length, Some, None, refl, sym, ◌∙◌, subst, arith}
use Rattle.std.specs.List.{Contains, slice_get}
use Rattle.std.proofs.lemmas.Bool.{cases_eq}
use Rattle.std.proofs.lemmas.List.Elements.{Contains-append_cases, Contains-append_right}
use Rattle.std.proofs.lemmas.Option.{slice_get_within}
use Rattle.yv_text_statement.specs.Order.{Among, IsLeast, refusal_at}
use Rattle.yv_text_statement.specs.declared.refusal.Code.TheVariants as code
use Rattle.yv_text_statement.specs.Selection.{ModuleChoice}
use Rattle.yv_link_scopes.specs.Files.{Briefs}
use Rattle.yv_link_scopes.specs.Rows.{Row}
use Rattle.yv_link_features.specs.Meaning.{Meaning, meaning_of, is_feature}
use Rattle.yv_link_features.specs.Value.{Assignment, HasValue}
use Rattle.yv_link_features.specs.On.{AreOn}
use Rattle.yv_link_features.specs.Depends.{DependsOn, LeadsTo, by_step, by_way}
use Rattle.yv_link_features.specs.Refusals.{BadRow}
use Rattle.yv_link_features.proofs.AssignmentAgreement.{InOrder, OneCondition, on_one, one_value, value_same}
use Rattle.yv_link_features.proofs.Lists.{contains_one}
use Rattle.yv_link_features.proofs.Steps.{meant_feature}

-- no feature leads to itself
abbrev pub HasNoCycle : Meaning → List Row → Type 0
HasNoCycle means rows = (k : ℕ) → LeadsTo means rows k k → ⊥

-- a list with one number less, which has all others
Without : ℕ → List ℕ → Type 0
Without k xs = (ys : List ℕ) × (length ys < length xs) × ((v : ℕ) → Contains xs v → v ≢ k → Contains ys v)

shorter : (k x : ℕ) (xs : List ℕ) → (x ≡ k) ⊎ (x ≡ k → ⊥) → (Contains xs k → Without k xs) → Contains (x ∷ xs) k → Without k (x ∷ xs)
unfolding Without
shorter k x xs (inl e) further c = (
  xs,
  omega arith,
  λ v m ne. elim (Contains-append_cases (x ∷ []) xs v m) [
    | inl a ↦ absurd (ne (sym (contains_one x v a) ∙ e))
    | inr b ↦ b
  ],
)
shorter k x xs (inr d) further c = elim (Contains-append_cases (x ∷ []) xs k c) [
  | inl a ↦ absurd (d (contains_one x k a))
  | inr b ↦ let q = further b in (
    x ∷ q.0,
    omega (arith, q.1),
    λ v m ne. elim (Contains-append_cases (x ∷ []) xs v m) [
      | inl a ↦ (0, omega arith, contains_one x v a)
      | inr h ↦ Contains-append_right (x ∷ []) q.0 v (q.2 v h ne)
    ],
  )
]

without : (k : ℕ) (xs : List ℕ) → Contains xs k → Without k xs
without k [] c = absurd (omega (arith, c.1))
without k (x ∷ xs) c = shorter k x xs (cases_eq x k) (without k xs) c

-- the numbers below n
below : ℕ → List ℕ
below zero = []
below (suc n) = n ∷ below n

all_below : (n v : ℕ) → v < n → Contains (below n) v
unfolding below
all_below zero v l = absurd (omega (arith, l))
all_below (suc n) v l = elim (cases_eq n v) [
  | inl e ↦ (0, omega arith, e)
  | inr ne ↦ Contains-append_right (n ∷ []) (below n) v (all_below n v (omega (arith, l)))
]

leads_more : {means : Meaning} {rows : List Row} (a b c : ℕ) → LeadsTo means rows a b → DependsOn means rows b c → LeadsTo means rows a c
leads_more a b c (by_step s) t = by_way s (by_step t)
leads_more a b c (by_way {b = d} s w) t = by_way s (leads_more d b c w t)

module _ (files : Briefs) (rows : List Row) (choice : ModuleChoice) (none : HasNoCycle (meaning_of files rows) rows) (order : InOrder) (on now : Assignment) (are : AreOn files rows choice on) (too : AreOn files rows choice now) where
  -- each statement leads to k, or is among the others that are left
  agree : (m : ℕ) (rest : List ℕ) → length rest ≤ m → (k : ℕ) → ((v : ℕ) → v < length rows → LeadsTo (meaning_of files rows) rows v k ⊎ Contains rest v) → (r : Row) → slice_get rows k ≡ Some r → is_feature r ≡ true → on k ≡ now k
  unfolding Without
  agree zero rest h k left r at f = elim (left k (slice_get_within rows k r at)) [
    | inl w ↦ absurd (none k w)
    | inr c ↦ absurd (omega (arith, h, c.1))
  ]
  agree (suc m) rest h k left r at f = elim (left k (slice_get_within rows k r at)) [
    | inl w ↦ absurd (none k w)
    | inr c ↦ on_one order (meaning_of files rows) files rows choice on now k r (others m rest h k left c (agree m)) (are k r at f) (too k r at f)
  ]
    where
      others : (m : ℕ) (rest : List ℕ) → length rest ≤ suc m → (k : ℕ) → ((v : ℕ) → v < length rows → LeadsTo (meaning_of files rows) rows v k ⊎ Contains rest v) → Contains rest k → ((rest : List ℕ) → length rest ≤ m → (k : ℕ) → ((v : ℕ) → v < length rows → LeadsTo (meaning_of files rows) rows v k ⊎ Contains rest v) → (r : Row) → slice_get rows k ≡ Some r → is_feature r ≡ true → on k ≡ now k) → (d : ℕ) → DependsOn (meaning_of files rows) rows k d → on d ≡ now d
      others m rest h k left c further d s =
          let q = without k rest c in
          let g = meant_feature files rows s.condition.file s.name d s.meant in
          further q.0 (omega (arith, h, q.1)) d
          (λ v l. elim (left v l) [
            | inl w ↦ inl (leads_more v k d w s)
            | inr b ↦ elim (cases_eq v k) [
              | inl e ↦ inl (subst (λ n. LeadsTo (meaning_of files rows) rows n d) (sym e) (by_step s))
              | inr ne ↦ inr (q.2 v b ne)
            ]
          ])
          g.0 g.1 g.2

  all_agree : (k : ℕ) (r : Row) → slice_get rows k ≡ Some r → is_feature r ≡ true → on k ≡ now k
  all_agree k r at f = agree (length (below (length rows))) (below (length rows)) (omega arith) k (λ v l. inr (all_below (length rows) v l)) r at f

  -- so a text has one value under both
  pub one_truth : OneCondition → (file : ℕ) (text : List ℕ) (a b : Bool) → HasValue (meaning_of files rows) on file text a → HasValue (meaning_of files rows) now file text b → a ≡ b
  one_truth one file text a b h g =
      one_value one (meaning_of files rows) now file text a b
      (value_same order (meaning_of files rows) on now file text a (λ n m d e. let q = meant_feature files rows file n d e in all_agree d q.0 q.1 q.2) h)
      g

-- where nothing is refused no feature leads to itself
pub none_cyclic : (files : Briefs) (rows : List Row) → IsLeast (Among rows (BadRow (meaning_of files rows) rows) (length rows)) None → HasNoCycle (meaning_of files rows) rows
none_cyclic files rows none k w =
    let q = last_feature k k w in
    none (refusal_at code.FeatureCycle q.0.file q.0.head) (k, slice_get_within rows k q.0 q.1, q.0, q.1, inr (w, refl))
  where
    last_feature : (a b : ℕ) → LeadsTo (meaning_of files rows) rows a b → (r : Row) × (slice_get rows b ≡ Some r)
    last_feature a b (by_step s) = let g = meant_feature files rows s.condition.file s.name b s.meant in (g.0, g.1)
    last_feature a b (by_way {b = d} s w) = last_feature d b w
