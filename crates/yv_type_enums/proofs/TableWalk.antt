-- Tables that are filled along an order, and what is wrong along it.
use Rattle.std.proofs.Common.{◌≡◌, ◌≢◌, ℕ, ◌+◌, ◌<◌, ◌≤◌, ◌⊎◌, inl, inr, ⊎_elim, zero, suc, List, [], ◌∷◌, length, take, get_or, ◌↔◌, refl, sym, ◌∙◌, ap, subst, arith, Option, Some, None}
use Rattle.std.specs.List.{Contains}
use Rattle.std.proofs.lemmas.Bool.{cases_eq}
use Rattle.std.proofs.lemmas.Option.{slice_get_within}
use Rattle.std.proofs.lemmas.List.{take_more, take_all}
use Rattle.std.proofs.lemmas.List.Elements.{Contains-append_cases, Contains-append_left, Contains-append_right}
use Rattle.yv_base_tables.specs.declared.table.Table.{Table}
use Rattle.yv_text_statement.specs.Order.{IsLeast, IsLesser}
use Rattle.yv_text_statement.specs.declared.refusal.Refusal.{Refusal}
use Rattle.yv_text_statement.proofs.Least.{least_lesser, least_same}
use Rattle.yv_link_scopes.specs.Files.{Files}
use Rattle.yv_link_scopes.specs.RowList.{rows_of}
use Rattle.yv_type_chains.specs.Types.{IsTypeAt}
use Rattle.yv_type_enums.specs.Types.{Truth, NamesView, HasNames}
use Rattle.yv_type_enums.specs.Refusals.{BadLists}
use Rattle.yv_type_enums.specs.TypeNames.{told_at}
use Rattle.yv_type_enums.specs.InnerSteps.{AreTold, BadAmong, BadAt}
use Rattle.yv_type_enums.specs.declared.table.TypeNames.{TypeNames}
use Rattle.yv_type_enums.proofs.TypeStatementStep.{lists_type, starts_type}

one_in : (n m : ℕ) → Contains (n ∷ []) m → n ≡ m
one_in n m (zero, l, e) = e
one_in n m (suc k, l, e) = absurd (omega (arith, l))

pub next_in : (order : List ℕ) (i n k : ℕ) → i < length order → n ≡ get_or order i 0 → Contains (take (i + 1) order) k → Contains (take i order) k ⊎ (k ≡ n)
next_in order i n k l e c = elim (Contains-append_cases (take i order) (get_or order i 0 ∷ []) k (subst (λ xs. Contains xs k) (take_more order i 0 l) c)) [
  | inl a ↦ inl a
  | inr b ↦ inr (sym (e ∙ one_in (get_or order i 0) k b))
]

longer : (order : List ℕ) (i k : ℕ) → i < length order → Contains (take i order) k → Contains (take (i + 1) order) k
longer order i k l x = subst (λ xs. Contains xs k) (sym (take_more order i 0 l)) (Contains-append_left (take i order) (get_or order i 0 ∷ []) k x)

newest : (order : List ℕ) (i n : ℕ) → i < length order → n ≡ get_or order i 0 → Contains (take (i + 1) order) n
newest order i n l e = subst (λ xs. Contains xs n) (sym (take_more order i 0 l)) (Contains-append_right (take i order) (get_or order i 0 ∷ []) n (0, omega arith, sym e))

item_itself : (xs : List ℕ) (i d : ℕ) → i < length xs → get_or xs i (get_or xs i d) ≡ get_or xs i d
item_itself [] i d l = absurd (omega (arith, l))
item_itself (x ∷ xs) zero d l = refl
item_itself (x ∷ xs) (suc i) d l = item_itself xs i d (omega (arith, l))

pub item_in : (xs : List ℕ) (i : ℕ) → i < length xs → Contains xs (get_or xs i 0)
item_in xs i l = (i, l, item_itself xs i 0 l)

no_told : (x : NamesView) → None ≡ Some x → ⊥
no_told x e = cc

module _ (files : Files) (truth : Truth) (order : List ℕ) where
  none_in : (k : ℕ) → Contains (take 0 order) k → ⊥
  none_in k c = omega (arith, c.1)

  -- nothing is told yet
  pub told_start : (types : Table TypeNames) → ((k : ℕ) → told_at types k ≡ None) → AreTold files truth (take 0 order) types
  told_start types none k x = (λ e. absurd (no_told x (sym (none k) ∙ e)), λ h. absurd (none_in k h.0))

  -- one number more
  pub told_next : (i n : ℕ) (old new : Table TypeNames) → i < length order → n ≡ get_or order i 0 → ((x : NamesView) → (told_at new n ≡ Some x) ↔ HasNames files truth n x) → ((k : ℕ) → k ≢ n → told_at new k ≡ told_at old k) → AreTold files truth (take i order) old → AreTold files truth (take (i + 1) order) new
  told_next i n old new l e here else before k x = elim (cases_eq k n) [
    | inl same ↦ (
      λ h. (subst (Contains (take (i + 1) order)) (sym same) (newest order i n l e), subst (λ m. HasNames files truth m x) (sym same) ((here x).0 (ap (told_at new) (sym same) ∙ h))),
      λ h. ap (told_at new) same ∙ (here x).1 (subst (λ m. HasNames files truth m x) same h.1),
    )
    | inr ne ↦ (
      λ h. let p = (before k x).0 (sym (else k ne) ∙ h) in (longer order i k l p.0, p.1),
      λ h. elim (next_in order i n k l e h.0) [
        | inl a ↦ else k ne ∙ (before k x).1 (a, h.1)
        | inr same ↦ absurd (ne same)
      ],
    )
  ]

  -- all numbers
  pub told_all : (i : ℕ) (types : Table TypeNames) → length order ≤ i → ((a : ℕ) → IsTypeAt (rows_of files) a → Contains order a) → AreTold files truth (take i order) types → (k : ℕ) (x : NamesView) → (told_at types k ≡ Some x) ↔ HasNames files truth k x
  told_all i types past stands all k x = (
    λ e. ((all k x).0 e).1,
    λ h. (all k x).1 (subst (λ xs. Contains xs k) (sym (take_all i order past)) (stands k (lists_type files truth h)), h),
  )

  -- nothing is wrong with no numbers
  pub least_start : IsLeast (BadAmong files truth (take 0 order)) None
  least_start = λ f h. none_in h.0 h.1

  pub least_next : (i n : ℕ) (a b c : Option Refusal) → i < length order → n ≡ get_or order i 0 → IsLesser a b c → IsLeast (BadAmong files truth (take i order)) a → IsLeast (BadAt files truth n) b → IsLeast (BadAmong files truth (take (i + 1) order)) c
  least_next i n a b c l e h p q = least_same (λ f. BadAmong files truth (take i order) f ⊎ BadAt files truth n f) (BadAmong files truth (take (i + 1) order)) c
      (λ f. ⊎_elim (λ x. (x.0, longer order i x.0 l x.1, x.2)) (λ x. (n, newest order i n l e, x)))
      (λ f x. elim (next_in order i n x.0 l e x.1) [
        | inl old ↦ inl (x.0, old, x.2)
        | inr same ↦ inr (subst (λ m. BadAt files truth m f) same x.2)
      ])
      (least_lesser (BadAmong files truth (take i order)) (BadAt files truth n) a b c h p q)

  pub least_all : (i : ℕ) (o : Option Refusal) → length order ≤ i → ((a : ℕ) → IsTypeAt (rows_of files) a → Contains order a) → IsLeast (BadAmong files truth (take i order)) o → IsLeast (BadLists files truth) o
  least_all i o past stands l = least_same (BadAmong files truth (take i order)) (BadLists files truth) o
      (λ f h. let b = h.2 in (h.0, slice_get_within (rows_of files) h.0 b.0 b.1, b.0, b.1, b.2))
      (λ f h. (h.0, subst (λ xs. Contains xs h.0) (sym (take_all i order past)) (stands h.0 (starts_type files truth h.4.2)), (h.2, h.3, h.4)))
      l
