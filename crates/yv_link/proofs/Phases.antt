-- The phases of what is wrong with files.
use Rattle.std.proofs.Common.{◌≡◌, ℕ, ◌<◌, ◌≤◌, ◌⊎◌, inl, inr, List, map, Option, Some, None, Result, Ok, Err, refl, ap, ◌∙◌, arith}
use Rattle.yv_text_statement.specs.Tree.{Head}
use Rattle.yv_text_statement.specs.Codes.{phase_of}
use Rattle.yv_text_statement.specs.declared.refusal.Refusal.{Refusal}
use Rattle.yv_text_statement.specs.declared.refusal.Code.{Code}
use Rattle.yv_text_statement.specs.declared.refusal.Code.TheVariants as code
use Rattle.yv_text_statement.specs.Order.{IsLeast, Stands, refusal_at}
use Rattle.yv_text_statement.proofs.Least.{least_lesser}
use Rattle.yv_link_scopes.specs.Files.{Briefs, Files, brief_of}
use Rattle.yv_link_scopes.specs.RowList.{rows_of}
use Rattle.yv_link_scopes.specs.Rows.{Row}
use Rattle.yv_link_modules.specs.Modules.{BadModules}
use Rattle.yv_link_features.specs.Refusals.{BadFeatures}
use Rattle.yv_link_identities.specs.Refusals.{BadIdentities}
use Rattle.yv_link.specs.Links.{BadLinks}

abbrev failed : (A E : Type 0) → E → Result A E
failed A E x = Err x

abbrev error_of : {A E : Type 0} → E → Result A E → E
error_of x (Ok a) = x
error_of x (Err e) = e

-- what failed so failed so, whatever else it might have been
pub err_again : {A B E : Type 0} (x y : E) → failed A E x ≡ failed A E y → failed B E x ≡ failed B E y
err_again {A} {B} {E} x y e = ap (failed B E) (ap (error_of x) e)

-- the least of early phases is the least of all
pub ahead : (P Q : Refusal → Type 0) (n : ℕ) (r : Refusal) → ((f : Refusal) → P f → phase_of f.code ≤ n)
    → ((f : Refusal) → Q f → n < phase_of f.code) → IsLeast P (Some r) → IsLeast (λ f. P f ⊎ Q f) (Some r)
ahead P Q n r early late p = (
  inl p.0,
  λ s h. elim h [
    | inl x ↦ p.1 s x
    | inr y ↦ inl (let e : phase_of r.code ≤ n = early r p.0 in let l : n < phase_of s.code = late s y in omega (arith, e, l))
  ],
)

-- where early phases refuse nothing, the least of the later ones is the least of all
pub behind : (P Q : Refusal → Type 0) (o : Option Refusal) → IsLeast P None → IsLeast Q o → IsLeast (λ f. P f ⊎ Q f) o
behind P Q o p q = least_lesser P Q None o o refl p q

at_phase : (n : ℕ) (P : Type 0) (c : Code) (file : ℕ) (h : Head) (f : Refusal) → phase_of c ≡ n → Stands P (refusal_at c file h) f → phase_of f.code ≡ n
at_phase n P c file h f phase s = ap (λ (r : Refusal). phase_of r.code) s.1 ∙ phase

module_phase : (files : Briefs) (rows : List Row) (f : Refusal) → BadModules files rows f → phase_of f.code ≡ 3
module_phase files rows f (inl h) = elim h.4 [
  | inl x ↦ at_phase 3 _ code.DuplicateModule h.0 h.2.head f refl x
  | inr x ↦ at_phase 3 _ code.Submodule h.0 h.2.head f refl x
]
module_phase files rows f (inr h) = elim h.4 [
  | inl x ↦ at_phase 3 _ code.MissingModule h.2.file h.2.head f refl x
  | inr x ↦ elim x [
    | inl y ↦ at_phase 3 _ code.Revision h.2.file h.2.head f refl y
    | inr y ↦ elim y [
      | inl z ↦ at_phase 3 _ code.ImportCycle h.2.file h.2.head f refl z
      | inr z ↦ elim z [
        | inl w ↦ at_phase 3 _ code.UnknownPrefix h.2.file h.2.head f refl w
        | inr w ↦ at_phase 3 _ code.Submodule h.2.file h.2.head f refl w
      ]
    ]
  ]
]

feature_phase : (files : Files) (f : Refusal) → BadFeatures files f → phase_of f.code ≡ 4
feature_phase files f h = elim h.4 [
  | inl x ↦ at_phase 4 _ code.UnknownFeature h.2.file h.2.head f refl x
  | inr x ↦ at_phase 4 _ code.FeatureCycle h.2.file h.2.head f refl x
]

identity_phase : (files : Briefs) (rows : List Row) (f : Refusal) → BadIdentities files rows f → phase_of f.code ≡ 5
identity_phase files rows f h = elim h.4 [
  | inl x ↦ at_phase 5 _ code.UnknownIdentity h.2.file h.2.head f refl x
  | inr x ↦ at_phase 5 _ code.IdentityCycle h.2.file h.2.head f refl x
]

module _ (files : Files) where
  abbrev Modules : Refusal → Type 0
  Modules f = BadModules (map brief_of files) (rows_of files) f

  abbrev Identities : Refusal → Type 0
  Identities f = BadIdentities (map brief_of files) (rows_of files) f

  late_phase : (f : Refusal) → BadFeatures files f ⊎ Identities f → 3 < phase_of f.code
  late_phase f (inl h) = let e : phase_of f.code ≡ 4 = feature_phase files f h in omega (arith, e)
  late_phase f (inr h) = let e : phase_of f.code ≡ 5 = identity_phase (map brief_of files) (rows_of files) f h in omega (arith, e)

  pub phases_from : (f : Refusal) → BadLinks files f → 3 ≤ phase_of f.code
  phases_from f (inl h) = let e : phase_of f.code ≡ 3 = module_phase (map brief_of files) (rows_of files) f h in omega (arith, e)
  phases_from f (inr h) = let l : 3 < phase_of f.code = late_phase f h in omega (arith, l)

  pub phases_to : (f : Refusal) → BadLinks files f → phase_of f.code ≤ 5
  phases_to f (inl h) = let e : phase_of f.code ≡ 3 = module_phase (map brief_of files) (rows_of files) f h in omega (arith, e)
  phases_to f (inr (inl h)) = let e : phase_of f.code ≡ 4 = feature_phase files f h in omega (arith, e)
  phases_to f (inr (inr h)) = let e : phase_of f.code ≡ 5 = identity_phase (map brief_of files) (rows_of files) f h in omega (arith, e)

  pub least_modules : (r : Refusal) → IsLeast Modules (Some r) → IsLeast (BadLinks files) (Some r)
  least_modules r p =
      ahead Modules (λ f. BadFeatures files f ⊎ Identities f) 3 r
      (λ f h. let e : phase_of f.code ≡ 3 = module_phase (map brief_of files) (rows_of files) f h in omega (arith, e)) late_phase p

  pub least_features : (r : Refusal) → IsLeast Modules None → IsLeast (BadFeatures files) (Some r) → IsLeast (BadLinks files) (Some r)
  least_features r p q =
      behind Modules (λ f. BadFeatures files f ⊎ Identities f) (Some r) p
      (ahead (BadFeatures files) Identities 4 r
      (λ f h. let e : phase_of f.code ≡ 4 = feature_phase files f h in omega (arith, e))
      (λ f h. let e : phase_of f.code ≡ 5 = identity_phase (map brief_of files) (rows_of files) f h in omega (arith, e)) q)

  pub least_identities : (o : Option Refusal) → IsLeast Modules None → IsLeast (BadFeatures files) None → IsLeast Identities o → IsLeast (BadLinks files) o
  least_identities o p q r =
      behind Modules (λ f. BadFeatures files f ⊎ Identities f) o p (behind (BadFeatures files) Identities o q r)
