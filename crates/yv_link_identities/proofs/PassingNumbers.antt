-- The numbers below a bound that pass.
use Rattle.std.proofs.Common.{◌≡◌, ℕ, ◌+◌, ◌<◌, ◌≤◌, inl, inr, zero, suc, Bool, true, false, cond, List, [], ◌∷◌, ◌++◌, length, get_or, refl, sym, ◌∙◌, ap, arith}
use Rattle.std.proofs.lemmas.Bool.{cases_lt, cases_Bool, false≢true}
use Rattle.std.proofs.lemmas.List.{get_or_append_left}
use Rattle.yv_link_identities.specs.InnerIdentityNumbers.{choose}
use Rattle.yv_link_identities.specs.References.{IsAscending}

pub last_of : {A : Type 0} (xs : List A) (y d : A) → get_or (xs ++ y ∷ []) (length xs) d ≡ y
last_of [] y d = refl
last_of (x ∷ xs) y d = last_of xs y d

pub longer : {A : Type 0} (xs : List A) (y : A) → length (xs ++ y ∷ []) ≡ length xs + 1
longer [] y = refl
longer (x ∷ xs) y = omega (arith, longer xs y)

-- how one more number goes
step_true : (p : ℕ → Bool) (n : ℕ) → p n ≡ true → choose p (suc n) ≡ choose p n ++ n ∷ []
step_true p n e = ap (λ b. cond b (choose p n ++ n ∷ []) (choose p n)) e

step_false : (p : ℕ → Bool) (n : ℕ) → p n ≡ false → choose p (suc n) ≡ choose p n
step_false p n e = ap (λ b. cond b (choose p n ++ n ∷ []) (choose p n)) e

pub chosen_more : (p : ℕ → Bool) (n : ℕ) → p n ≡ true → choose p (n + 1) ≡ choose p n ++ n ∷ []
chosen_more p n e = let s : n + 1 ≡ suc n = omega arith in ap (choose p) s ∙ step_true p n e

pub chosen_same : (p : ℕ → Bool) (n : ℕ) → p n ≡ false → choose p (n + 1) ≡ choose p n
chosen_same p n e = let s : n + 1 ≡ suc n = omega arith in ap (choose p) s ∙ step_false p n e

-- where a number stands that passes
abbrev pub Stands : (ℕ → Bool) → ℕ → ℕ → Type 0
Stands p n k = (length (choose p k) < length (choose p n)) × (get_or (choose p n) (length (choose p k)) 0 ≡ k)

pub chosen_at : (p : ℕ → Bool) (n k : ℕ) → k < n → p k ≡ true → Stands p n k
chosen_at p zero k h t = absurd (omega arith)
chosen_at p (suc n) k h t = elim (cases_Bool (p n)) [
  | inl e ↦ rw (step_true p n e) (elim (cases_lt k n) [
    | inl l ↦ let r : Stands p n k = chosen_at p n k l t in (omega (arith, r.0, longer (choose p n) n), get_or_append_left (choose p n) (n ∷ []) 0 (length (choose p k)) r.0 ∙ r.1)
    | inr m ↦ let same : k ≡ n = omega (arith, h, m) in rw same (omega (arith, longer (choose p n) n), last_of (choose p n) n 0)
  ])
  | inr e ↦ rw (step_false p n e) (elim (cases_lt k n) [
    | inl l ↦ chosen_at p n k l t
    | inr m ↦ let same : k ≡ n = omega (arith, h, m) in absurd (false≢true (sym e ∙ ap p (sym same) ∙ t))
  ])
]

-- what stands at a place passes, and so many pass before it
abbrev pub IsPassing : (ℕ → Bool) → ℕ → ℕ → ℕ → Type 0
IsPassing p n a k = (k < n) × (p k ≡ true) × (length (choose p k) ≡ a)

chosen_by : (p : ℕ → Bool) (n a k : ℕ) → a < length (choose p n) → get_or (choose p n) a 0 ≡ k → IsPassing p n a k
chosen_by p zero a k h e = absurd (omega (arith, h))
chosen_by p (suc n) a k h e = elim (cases_Bool (p n)) [
  | inl t ↦
      let all : choose p (suc n) ≡ choose p n ++ n ∷ [] = step_true p n t in
      let h' : a < length (choose p n ++ n ∷ []) = rw all at h in
      let e' : get_or (choose p n ++ n ∷ []) a 0 ≡ k = rw all at e in
      elim (cases_lt a (length (choose p n))) [
        | inl l ↦ let r = chosen_by p n a k l (sym (get_or_append_left (choose p n) (n ∷ []) 0 a l) ∙ e') in (omega (arith, r.0), r.1, r.2)
        | inr m ↦
            let at : a ≡ length (choose p n) = omega (arith, m, h', longer (choose p n) n) in
            let is : k ≡ n = sym e' ∙ ap (λ i. get_or (choose p n ++ n ∷ []) i 0) at ∙ last_of (choose p n) n 0 in
            (omega (arith, is), ap p is ∙ t, ap (λ i. length (choose p i)) is ∙ sym at)
      ]
  | inr f ↦
      let all : choose p (suc n) ≡ choose p n = step_false p n f in
      let r = chosen_by p n a k (rw all at h) (rw all at e) in
      (omega (arith, r.0), r.1, r.2)
]

pub chosen_is : (p : ℕ → Bool) (n a : ℕ) → a < length (choose p n) → IsPassing p n a (get_or (choose p n) a 0)
chosen_is p n a h = chosen_by p n a (get_or (choose p n) a 0) h refl

grows : (p : ℕ → Bool) (n k : ℕ) → k ≤ n → length (choose p k) ≤ length (choose p n)
grows p zero k h = let e : k ≡ 0 = omega (arith, h) in rw e (omega arith)
grows p (suc n) k h = elim (cases_lt n k) [
  | inl l ↦ let e : k ≡ suc n = omega (arith, h, l) in rw e (omega arith)
  | inr m ↦
      let r : length (choose p k) ≤ length (choose p n) = grows p n k m in
      elim (cases_Bool (p n)) [
        | inl t ↦ rw (step_true p n t) (omega (arith, r, longer (choose p n) n))
        | inr f ↦ rw (step_false p n f) r
      ]
]

pub chosen_ascending : (p : ℕ → Bool) (n : ℕ) → IsAscending (choose p n)
chosen_ascending p n i j l h =
    let a = chosen_is p n i (omega (arith, l, h)) in
    let b = chosen_is p n j h in
    elim (cases_lt (get_or (choose p n) i 0) (get_or (choose p n) j 0)) [
      | inl less ↦ less
      | inr more ↦ let g : length (choose p (get_or (choose p n) j 0)) ≤ length (choose p (get_or (choose p n) i 0)) = grows p (get_or (choose p n) i 0) (get_or (choose p n) j 0) more in absurd (omega (arith, g, a.2, b.2, l))
    ]
