-- How least refusals are joined.
use Rattle.std.proofs.Common.{◌≡◌, ℕ, ◌+◌, ◌<◌, ◌⊎◌, inl, inr, ⊎_elim, List, [], ◌∷◌, length, Bool, true, false, cond, refl, sym, ◌∙◌, ap, subst, arith, Option, Some, None, get_or}
use Rattle.std.specs.List.{slice_get}
use Rattle.std.proofs.lemmas.Option.{same_Some}
use Rattle.std.proofs.lemmas.Bool.{cases_lt, cases_eq, false≢true}
use Rattle.yv_text_statement.specs.declared.refusal.Refusal.{Refusal}
use Rattle.yv_text_statement.specs.Codes.{phase_of, number_of}
use Rattle.yv_text_statement.specs.contracts.refusal.Code.{the_type}
use Rattle.yv_text_statement.specs.declared.refusal.Code.{Code}
use Rattle.yv_text_statement.specs.declared.refusal.Code.TheVariants as code
use denote.Enum.Bare.{tag_one}
use denote.Enum.Declared.{tag_of}
use Rattle.yv_text_statement.specs.Order.{keys_of, IsUpToBy, IsUpTo, IsLeast, IsLesser, Stands, Among}

up_to_by_trans : (xs ys zs : List ℕ) → IsUpToBy xs ys → IsUpToBy ys zs → IsUpToBy xs zs
up_to_by_trans [] ys zs p q = tt
up_to_by_trans (x ∷ xs) [] zs p q = absurd p
up_to_by_trans (x ∷ xs) (y ∷ ys) [] p q = absurd q
up_to_by_trans (x ∷ xs) (y ∷ ys) (z ∷ zs) (inl p) (inl q) = inl (omega arith)
up_to_by_trans (x ∷ xs) (y ∷ ys) (z ∷ zs) (inl p) (inr q) = inl (let e = q.0 in omega arith)
up_to_by_trans (x ∷ xs) (y ∷ ys) (z ∷ zs) (inr p) (inl q) = inl (let e = p.0 in omega arith)
up_to_by_trans (x ∷ xs) (y ∷ ys) (z ∷ zs) (inr p) (inr q) = inr (p.0 ∙ q.0, up_to_by_trans xs ys zs p.1 q.1)

pub up_to_trans : (r s t : Refusal) → IsUpTo r s → IsUpTo s t → IsUpTo r t
up_to_trans r s t = up_to_by_trans (keys_of r) (keys_of s) (keys_of t)

-- the same refusals, the same least one
pub least_same : (P Q : Refusal → Type 0) (o : Option Refusal) → ((r : Refusal) → P r → Q r) → ((r : Refusal) → Q r → P r) → IsLeast P o → IsLeast Q o
least_same P Q None f g h = λ s q. h s (g s q)
least_same P Q (Some r) f g h = (f r h.0, λ s q. h.1 s (g s q))

-- the lesser of two least ones is the least of both
pub least_lesser : (P Q : Refusal → Type 0) (a b c : Option Refusal) → IsLesser a b c → IsLeast P a → IsLeast Q b → IsLeast (λ r. P r ⊎ Q r) c
least_lesser P Q None None c l p q = subst (λ (o : Option Refusal). IsLeast (λ r. P r ⊎ Q r) o) (sym l) (λ s h. elim h [ inl x ↦ p s x | inr y ↦ q s y ])
least_lesser P Q None (Some t) c l p q = subst (λ (o : Option Refusal). IsLeast (λ r. P r ⊎ Q r) o) (sym l) (inr q.0, λ s h. elim h [ inl x ↦ absurd (p s x) | inr y ↦ q.1 s y ])
least_lesser P Q (Some r) None c l p q = subst (λ (o : Option Refusal). IsLeast (λ r. P r ⊎ Q r) o) (sym l) (inl p.0, λ s h. elim h [ inl x ↦ p.1 s x | inr y ↦ absurd (q s y) ])
least_lesser P Q (Some r) (Some t) c (inl l) p q = subst (λ (o : Option Refusal). IsLeast (λ r. P r ⊎ Q r) o) (sym l.0) (inl p.0, λ s h. elim h [ inl x ↦ p.1 s x | inr y ↦ up_to_trans r t s l.1 (q.1 s y) ])
least_lesser P Q (Some r) (Some t) c (inr l) p q = subst (λ (o : Option Refusal). IsLeast (λ r. P r ⊎ Q r) o) (sym l.0) (inr q.0, λ s h. elim h [ inl x ↦ up_to_trans t r s l.1 (p.1 s x) | inr y ↦ q.1 s y ])

-- nothing stands in the phases before this one
abbrev pub NoneBefore : ℕ → (Refusal → Type 0) → Type 0
NoneBefore phase Stands = (s : Refusal) → Stands s → phase_of s.code < phase → ⊥

pub none_next : (phase : ℕ) (Stands : Refusal → Type 0) → NoneBefore phase Stands → IsLeast (λ r. (phase_of r.code ≡ phase) × Stands r) None → NoneBefore (phase + 1) Stands
none_next phase Stands before now s h l = elim (cases_lt (phase_of s.code) phase) [ inl b ↦ before s h b | inr e ↦ now s (omega arith, h) ]

-- the least of a phase is the least of all, where nothing stands before
pub least_of_phase : (phase : ℕ) (Stands : Refusal → Type 0) (r : Refusal) → NoneBefore phase Stands → IsLeast (λ r. (phase_of r.code ≡ phase) × Stands r) (Some r) → IsLeast Stands (Some r)
least_of_phase phase Stands r before h = (
  h.0.1,
  λ s q. elim (cases_lt phase (phase_of s.code)) [
    | inl l ↦ inl (let e = h.0.0 in omega arith)
    | inr e ↦ elim (cases_lt (phase_of s.code) phase) [ inl b ↦ absurd (before s q b) | inr f ↦ h.1 s (omega arith, q) ]
  ],
)

pub least_none : (phase : ℕ) (Stands : Refusal → Type 0) → ((s : Refusal) → Stands s → phase_of s.code < phase) → NoneBefore phase Stands → IsLeast Stands None
least_none phase Stands last none = λ s h. none s h (last s h)

up_to_by_itself : (xs : List ℕ) → IsUpToBy xs xs
up_to_by_itself [] = tt
up_to_by_itself (x ∷ xs) = inr (refl, up_to_by_itself xs)

-- one refusal that stands where P holds
pub least_refused : (P : Type 0) (b : Bool) (r : Refusal) → (b ≡ true → P) → (P → b ≡ true) → IsLeast (Stands P r) (cond b (Some r) None)
least_refused P true r to from = ((to refl, refl), λ f p. subst (λ (x : Refusal). IsUpTo r x) (sym p.1) (up_to_by_itself (keys_of r)))
least_refused P false r to from = λ f p. absurd (false≢true (from p.0))

module _ {X : Type 0} where
  -- none of the first none
  pub least_start : (xs : List X) (P : ℕ → X → Refusal → Type 0) → IsLeast (Among xs P 0) None
  least_start xs P = λ f p. omega (arith, p.1)

  -- one more
  pub least_more : (xs : List X) (P : ℕ → X → Refusal → Type 0) (i : ℕ) (x : X) (a b c : Option Refusal) → slice_get xs i ≡ Some x → IsLesser a b c → IsLeast (Among xs P i) a → IsLeast (P i x) b → IsLeast (Among xs P (i + 1)) c
  least_more xs P i x a b c at l p q = least_same (λ r. Among xs P i r ⊎ P i x r) (Among xs P (i + 1)) c
      (λ r. ⊎_elim (λ h. (h.0, omega (arith, h.1), h.2, h.3, h.4)) (λ h. (i, omega arith, x, at, h)))
      (λ r h. elim (cases_eq h.0 i) [
        | inl e ↦ inr (let same : h.2 ≡ x = same_Some h.2 x (sym h.3 ∙ ap (slice_get xs) e ∙ at) in subst (λ (n : ℕ). P n x r) e (subst (λ (y : X). P h.0 y r) same h.4))
        | inr ne ↦ inl (h.0, omega (arith, h.1), h.2, h.3, h.4)
      ])
      (least_lesser (Among xs P i) (P i x) a b c l p q)

up_to_by_or : (xs ys : List ℕ) → length xs ≡ length ys → (IsUpToBy xs ys → ⊥) → IsUpToBy ys xs
up_to_by_or [] [] h f = tt
up_to_by_or [] (y ∷ ys) h f = absurd (omega (arith, h))
up_to_by_or (x ∷ xs) [] h f = absurd (omega (arith, h))
up_to_by_or (x ∷ xs) (y ∷ ys) h f = elim (cases_lt x y) [
  | inl l ↦ absurd (f (inl l))
  | inr l ↦ elim (cases_eq x y) [
    | inl e ↦ inr (sym e, up_to_by_or xs ys (omega (arith, h)) (λ g. f (inr (e, g))))
    | inr ne ↦ inl (omega arith)
  ]
]

pub lesser_first : (a b : Option Refusal) (r s : Refusal) → a ≡ Some r → b ≡ Some s → IsUpTo r s → IsLesser a b (Some r)
lesser_first a b r s e f h = rw (e, f) (inl (refl, h))

pub lesser_second : (a b : Option Refusal) (r s : Refusal) → a ≡ Some r → b ≡ Some s → (IsUpTo r s → ⊥) → IsLesser a b (Some s)
lesser_second a b r s e f h = rw (e, f) (inr (refl, up_to_by_or (keys_of r) (keys_of s) refl h))

up_to_by_both : (xs ys : List ℕ) → IsUpToBy xs ys → IsUpToBy ys xs → xs ≡ ys
up_to_by_both [] [] p q = refl
up_to_by_both [] (y ∷ ys) p q = absurd q
up_to_by_both (x ∷ xs) [] p q = absurd p
up_to_by_both (x ∷ xs) (y ∷ ys) (inl p) (inl q) = absurd (omega arith)
up_to_by_both (x ∷ xs) (y ∷ ys) (inl p) (inr q) = absurd (let e = q.0 in omega arith)
up_to_by_both (x ∷ xs) (y ∷ ys) (inr p) (inl q) = absurd (let e = p.0 in omega arith)
up_to_by_both (x ∷ xs) (y ∷ ys) (inr p) (inr q) = ap (λ n. n ∷ xs) p.0 ∙ ap (λ l. y ∷ l) (up_to_by_both xs ys p.1 q.1)

at_place : ℕ → List ℕ → ℕ
at_place k xs = get_or xs k 0

-- the codes are kept in their order
number_is_tag : (c : Code) → number_of c ≡ tag_of the_type c
unfolding number_of
number_is_tag code.NotUtf8 = refl
number_is_tag code.BadCharacter = refl
number_is_tag code.BadToken = refl
number_is_tag code.BadEscape = refl
number_is_tag code.BadSyntax = refl
number_is_tag code.TooDeep = refl
number_is_tag code.TooLarge = refl
number_is_tag code.Unsupported = refl
number_is_tag code.UnknownStatement = refl
number_is_tag code.Cardinality = refl
number_is_tag code.BadArgument = refl
number_is_tag code.DuplicateModule = refl
number_is_tag code.MissingModule = refl
number_is_tag code.Revision = refl
number_is_tag code.ImportCycle = refl
number_is_tag code.UnknownPrefix = refl
number_is_tag code.Submodule = refl
number_is_tag code.UnknownFeature = refl
number_is_tag code.FeatureCycle = refl
number_is_tag code.UnknownIdentity = refl
number_is_tag code.IdentityCycle = refl
number_is_tag code.DuplicateName = refl
number_is_tag code.UnknownType = refl
number_is_tag code.TypeCycle = refl
number_is_tag code.UnknownGrouping = refl
number_is_tag code.GroupingCycle = refl
number_is_tag code.TooManyNodes = refl
number_is_tag code.RefineTarget = refl
number_is_tag code.BadRefine = refl
number_is_tag code.AugmentTarget = refl
number_is_tag code.BadAugment = refl
number_is_tag code.TreeTooDeep = refl
number_is_tag code.BadRestriction = refl
number_is_tag code.BadPattern = refl
number_is_tag code.BadNumbering = refl
number_is_tag code.BadType = refl
number_is_tag code.TooManyMembers = refl
number_is_tag code.DuplicateNode = refl
number_is_tag code.BadKey = refl
number_is_tag code.BadUnique = refl
number_is_tag code.BadConfig = refl
number_is_tag code.BadDefault = refl
number_is_tag code.BadMandatory = refl
number_is_tag code.BadPath = refl
number_is_tag code.PathCycle = refl
number_is_tag code.BadOperation = refl

same_keys : (r s : Refusal) → keys_of r ≡ keys_of s → r ≡ s
unfolding at_place
same_keys r s e =
    let code : r.code ≡ s.code = tag_one the_type tt r.code s.code (sym (number_is_tag r.code) ∙ ap (at_place 3) e ∙ number_is_tag s.code) in
    λ i. record { code = code i; file = ap (at_place 1) e i; offset = ap (at_place 2) e i; line = ap (at_place 4) e i }

-- no two refusals are up to each other
pub up_to_both : (r s : Refusal) → IsUpTo r s → IsUpTo s r → r ≡ s
up_to_both r s p q = same_keys r s (up_to_by_both (keys_of r) (keys_of s) p q)

-- the least of several is one
pub least_one : (P : Refusal → Type 0) (r s : Refusal) → IsLeast P (Some r) → IsLeast P (Some s) → r ≡ s
least_one P r s p q = up_to_both r s (p.1 s q.0) (q.1 r p.0)
