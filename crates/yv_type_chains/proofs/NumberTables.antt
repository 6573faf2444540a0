-- Tables of numbers, as they are filled.
use Rattle.std.proofs.Common.{◌≡◌, ℕ, ◌+◌, ◌<◌, ◌↔◌, inl, inr, zero, suc, List, [], ◌∷◌, ◌++◌, length, refl, sym, ◌∙◌, ap, subst, arith, Option, Some, None}
use Rattle.std.specs.List.{slice_get}
use Rattle.std.specs.Option.{option_and_then}
use Rattle.std.proofs.lemmas.Bool.{cases_lt}
use Rattle.yv_base_tables.specs.Slots.{at}
use Rattle.yv_type_chains.proofs.Words.{pushed_at}

inner_some : (o : Option (Option ℕ)) (d : ℕ) → option_and_then (λ m. m) o ≡ Some d → o ≡ Some (Some d)
inner_some None d e = absurd (let bad : None ≡ Some d = e in cc)
inner_some (Some m) d e = ap Some e

kept_at : {A : Type 0} (xs : List A) (y x : A) (k : ℕ) → slice_get xs k ≡ Some x → slice_get (xs ++ y ∷ []) k ≡ Some x
kept_at [] y x k e = cc
kept_at (z ∷ xs) y x zero e = e
kept_at (z ∷ xs) y x (suc k) e = kept_at xs y x k e

last_at : {A : Type 0} (xs : List A) (y : A) → slice_get (xs ++ y ∷ []) (length xs) ≡ Some y
last_at [] y = refl
last_at (x ∷ xs) y = last_at xs y

-- the first n places tell what P says
abbrev pub Told : (ℕ → ℕ → Type 0) → ℕ → List (Option ℕ) → Type 0
Told P n xs = (k d : ℕ) → (at xs k ≡ Some d) ↔ ((k < n) × P k d)

pub told_more : (P : ℕ → ℕ → Type 0) (n : ℕ) (xs ys : List (Option ℕ)) (o : Option ℕ) → length xs ≡ n → ys ≡ xs ++ o ∷ [] → ((d : ℕ) → (o ≡ Some d) ↔ P n d) → Told P n xs → Told P (n + 1) ys
told_more P n xs ys o len is gives old k d = (to, from)
  where
    to : at ys k ≡ Some d → (k < n + 1) × P k d
    to e = elim (pushed_at xs o (Some d) k (ap (λ l. slice_get l k) (sym is) ∙ inner_some (slice_get ys k) d e)) [
      | inl there ↦ let p = (old k d).0 (ap (option_and_then (λ m. m)) there) in (omega (arith, p.0), p.1)
      | inr (last, same) ↦
          let here : n ≡ k = sym len ∙ sym last in
          (omega arith, subst (λ j. P j d) here ((gives d).0 same))
    ]

    from : (k < n + 1) × P k d → at ys k ≡ Some d
    from h = elim (cases_lt k n) [
      | inl l ↦ ap (option_and_then (λ m. m)) (ap (λ l. slice_get l k) is ∙ kept_at xs o (Some d) k (inner_some (slice_get xs k) d ((old k d).1 (l, h.1))))
      | inr up ↦
          let here : k ≡ n = omega (arith, h.0, up) in
          let given : o ≡ Some d = (gives d).1 (subst (λ j. P j d) here h.1) in
          ap (option_and_then (λ m. m)) (ap (λ l. slice_get l k) is ∙ ap (slice_get (xs ++ o ∷ [])) (here ∙ sym len) ∙ last_at xs o) ∙ given
    ]

pub told_all : (P : ℕ → ℕ → Type 0) (n : ℕ) (xs : List (Option ℕ)) → ((k d : ℕ) → P k d → k < n) → Told P n xs → (k d : ℕ) → (at xs k ≡ Some d) ↔ P k d
told_all P n xs within h k d = (λ e. ((h k d).0 e).1, λ p. (h k d).1 (within k d p, p))

-- one more number below m
pub within_more : (m : ℕ) (xs ys : List (Option ℕ)) (o : Option ℕ) → ys ≡ xs ++ o ∷ [] → ((d : ℕ) → o ≡ Some d → d < m) → ((k d : ℕ) → at xs k ≡ Some d → d < m) → (k d : ℕ) → at ys k ≡ Some d → d < m
within_more m xs ys o is gives old k d e = elim (pushed_at xs o (Some d) k (ap (λ l. slice_get l k) (sym is) ∙ inner_some (slice_get ys k) d e)) [
  | inl there ↦ old k d (ap (option_and_then (λ m. m)) there)
  | inr (last, same) ↦ gives d same
]
