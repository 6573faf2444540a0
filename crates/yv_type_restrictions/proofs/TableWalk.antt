-- Tables that are filled along an order, and what is wrong along it.
use Rattle.std.proofs.Common.{◌≡◌, ◌≢◌, ℕ, ◌+◌, ◌<◌, ◌≤◌, ◌⊎◌, inl, inr, ⊎_elim, zero, suc, List, [], ◌∷◌, length, take, get_or, ◌↔◌, refl, sym, ◌∙◌, ap, subst, arith, Option, Some, None}
use Rattle.std.specs.List.{Contains}
use Rattle.std.proofs.lemmas.Bool.{cases_eq}
use Rattle.std.proofs.lemmas.Option.{slice_get_within}
use Rattle.std.proofs.lemmas.List.{take_more, take_all}
use Rattle.std.proofs.lemmas.List.Elements.{Contains-append_cases, Contains-append_left, Contains-append_right}
use Rattle.yv_base_tables.specs.declared.table.Table.{Table}
use Rattle.yv_text_statement.specs.Order.{IsLeast, IsLesser}
use Rattle.yv_text_statement.specs.declared.refusal.Refusal.{Refusal}
use Rattle.yv_text_statement.proofs.Least.{least_lesser, least_same}
use Rattle.yv_link_scopes.specs.Files.{Files}
use Rattle.yv_link_scopes.specs.RowList.{rows_of}
use Rattle.yv_type_chains.specs.Types.{IsTypeAt}
use Rattle.yv_values.specs.Types.{Plain}
use Rattle.yv_values.specs.declared.plain.PlainType.{PlainType}
use Rattle.yv_type_restrictions.specs.Refusals.{BadFaceted}
use Rattle.yv_type_restrictions.specs.Types.{HasPlainType}
use Rattle.yv_type_restrictions.specs.InnerSteps.{AreTold, BadAmong, BadAt}
use Rattle.yv_type_restrictions.specs.InnerTables.{plain_at}
use Rattle.yv_type_restrictions.proofs.TypeStatementStep.{HaveRows, plain_type, starts_type}

one_in : (n m : ℕ) → Contains (n ∷ []) m → n ≡ m
one_in n m (zero, l, e) = e
one_in n m (suc k, l, e) = absurd (omega (arith, l))

pub next_in : (order : List ℕ) (i n k : ℕ) → i < length order → n ≡ get_or order i 0 → Contains (take (i + 1) order) k → Contains (take i order) k ⊎ (k ≡ n)
next_in order i n k l e c = elim (Contains-append_cases (take i order) (get_or order i 0 ∷ []) k (subst (λ xs. Contains xs k) (take_more order i 0 l) c)) [
  | inl a ↦ inl a
  | inr b ↦ inr (sym (e ∙ one_in (get_or order i 0) k b))
]

longer : (order : List ℕ) (i k : ℕ) → i < length order → Contains (take i order) k → Contains (take (i + 1) order) k
longer order i k l x = subst (λ xs. Contains xs k) (sym (take_more order i 0 l)) (Contains-append_left (take i order) (get_or order i 0 ∷ []) k x)

newest : (order : List ℕ) (i n : ℕ) → i < length order → n ≡ get_or order i 0 → Contains (take (i + 1) order) n
newest order i n l e = subst (λ xs. Contains xs n) (sym (take_more order i 0 l)) (Contains-append_right (take i order) (get_or order i 0 ∷ []) n (0, omega arith, sym e))

item_itself : (xs : List ℕ) (i d : ℕ) → i < length xs → get_or xs i (get_or xs i d) ≡ get_or xs i d
item_itself [] i d l = absurd (omega (arith, l))
item_itself (x ∷ xs) zero d l = refl
item_itself (x ∷ xs) (suc i) d l = item_itself xs i d (omega (arith, l))

pub item_in : (xs : List ℕ) (i : ℕ) → i < length xs → Contains xs (get_or xs i 0)
item_in xs i l = (i, l, item_itself xs i 0 l)

no_plain : (p : Plain) → None ≡ Some p → ⊥
no_plain p e = cc

module _ (files : Files) (order : List ℕ) where
  none_in : (k : ℕ) → Contains (take 0 order) k → ⊥
  none_in k c = omega (arith, c.1)

  -- nothing is told yet
  pub told_start : (types : Table PlainType) → ((k : ℕ) → plain_at types k ≡ None) → AreTold files (take 0 order) types
  told_start types none k p = (λ e. absurd (no_plain p (sym (none k) ∙ e)), λ h. absurd (none_in k h.0))

  -- one number more
  pub told_next : (i n : ℕ) (old new : Table PlainType) → i < length order → n ≡ get_or order i 0 → ((p : Plain) → (plain_at new n ≡ Some p) ↔ HasPlainType files n p) → ((k : ℕ) → k ≢ n → plain_at new k ≡ plain_at old k) → AreTold files (take i order) old → AreTold files (take (i + 1) order) new
  told_next i n old new l e here else before k p = elim (cases_eq k n) [
    | inl same ↦ (
      λ h. (subst (Contains (take (i + 1) order)) (sym same) (newest order i n l e), subst (λ m. HasPlainType files m p) (sym same) ((here p).0 (ap (plain_at new) (sym same) ∙ h))),
      λ h. ap (plain_at new) same ∙ (here p).1 (subst (λ m. HasPlainType files m p) same h.1),
    )
    | inr ne ↦ (
      λ h. let b = (before k p).0 (sym (else k ne) ∙ h) in (longer order i k l b.0, b.1),
      λ h. elim (next_in order i n k l e h.0) [
        | inl a ↦ else k ne ∙ (before k p).1 (a, h.1)
        | inr same ↦ absurd (ne same)
      ],
    )
  ]

  -- all numbers
  pub told_all : HaveRows → (i : ℕ) (types : Table PlainType) → length order ≤ i → ((a : ℕ) → IsTypeAt (rows_of files) a → Contains order a) → AreTold files (take i order) types → (k : ℕ) (p : Plain) → (plain_at types k ≡ Some p) ↔ HasPlainType files k p
  told_all heads i types past stands all k p = (
    λ e. ((all k p).0 e).1,
    λ h. (all k p).1 (subst (λ xs. Contains xs k) (sym (take_all i order past)) (stands k (plain_type files heads h)), h),
  )

  -- none of no numbers
  pub least_start : IsLeast (BadAmong files (take 0 order)) None
  least_start = λ f h. none_in h.0 h.1

  -- one number more
  pub least_next : (i n : ℕ) (a b c : Option Refusal) → i < length order → n ≡ get_or order i 0 → IsLesser a b c → IsLeast (BadAmong files (take i order)) a → IsLeast (BadAt files n) b → IsLeast (BadAmong files (take (i + 1) order)) c
  least_next i n a b c l e h p q = least_same (λ f. BadAmong files (take i order) f ⊎ BadAt files n f) (BadAmong files (take (i + 1) order)) c
      (λ f. ⊎_elim (λ x. (x.0, longer order i x.0 l x.1, x.2)) (λ x. (n, newest order i n l e, x)))
      (λ f x. elim (next_in order i n x.0 l e x.1) [
        | inl old ↦ inl (x.0, old, x.2)
        | inr same ↦ inr (subst (λ m. BadAt files m f) same x.2)
      ])
      (least_lesser (BadAmong files (take i order)) (BadAt files n) a b c h p q)

  -- all types
  pub least_all : HaveRows → (i : ℕ) (o : Option Refusal) → length order ≤ i → ((a : ℕ) → IsTypeAt (rows_of files) a → Contains order a) → IsLeast (BadAmong files (take i order)) o → IsLeast (BadFaceted files) o
  least_all heads i o past stands l = least_same (BadAmong files (take i order)) (BadFaceted files) o
      (λ f h. let b = h.2 in (h.0, slice_get_within (rows_of files) h.0 b.0 b.1, b.0, b.1, b.2))
      (λ f h. (h.0, subst (λ xs. Contains xs h.0) (sym (take_all i order past)) (stands h.0 (starts_type files heads h.4.2)), (h.2, h.3, h.4)))
      l
