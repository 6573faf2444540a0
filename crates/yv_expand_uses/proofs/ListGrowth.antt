-- One more behind others.
use Rattle.std.proofs.Common.{◌≡◌, ℕ, ◌<◌, ◌⊎◌, inl, inr, zero, suc, set, List, [], ◌∷◌, ◌++◌, length, None, Some, refl, sym, ◌∙◌, ap, arith}
use Rattle.std.specs.List.{slice_get}
use Rattle.std.proofs.lemmas.Option.{same_Some, slice_get_within}

-- what stands before the last stood there
pub get_before : {A : Type 0} (xs : List A) (y : A) (k : ℕ) → k < length xs → slice_get (xs ++ y ∷ []) k ≡ slice_get xs k
get_before [] y k h = absurd (omega arith)
get_before (x ∷ xs) y zero h = refl
get_before (x ∷ xs) y (suc k) h = get_before xs y k (omega arith)

pub get_last : {A : Type 0} (xs : List A) (y : A) → slice_get (xs ++ y ∷ []) (length xs) ≡ Some y
get_last [] y = refl
get_last (x ∷ xs) y = get_last xs y

pub keep_before : {A : Type 0} (xs : List A) (y : A) (k : ℕ) (x : A) → slice_get xs k ≡ Some x → slice_get (xs ++ y ∷ []) k ≡ Some x
keep_before xs y k x h = get_before xs y k (slice_get_within xs k x h) ∙ h

-- what stands there stood there before, or is the new one
pub last_or_before : {A : Type 0} (P : ℕ → Type 0) (xs : List A) (y x : A) (k : ℕ) → slice_get (xs ++ y ∷ []) k ≡ Some x → (slice_get xs k ≡ Some x → P k) → (k ≡ length xs → x ≡ y → P k) → P k
last_or_before P [] y x zero h before last = last refl (sym (same_Some y x h))
last_or_before P [] y x (suc k) h before last = absurd (let e : None ≡ Some x = h in cc)
last_or_before P (z ∷ zs) y x zero h before last = before h
last_or_before P (z ∷ zs) y x (suc k) h before last = last_or_before (λ n. P (suc n)) zs y x k h before (λ e is. last (ap suc e) is)

-- what stands in a list where one item was changed
pub set_at : {A : Type 0} (xs : List A) (a k : ℕ) (y v : A) → slice_get (set xs a y) k ≡ Some v → ((k ≡ a) × (v ≡ y)) ⊎ (slice_get xs k ≡ Some v)
set_at [] a k y v h = absurd (let bad : None ≡ Some v = h in cc)
set_at (x ∷ xs) zero zero y v h = inl (refl, sym (same_Some y v h))
set_at (x ∷ xs) zero (suc k) y v h = inr h
set_at (x ∷ xs) (suc a) zero y v h = inr h
set_at (x ∷ xs) (suc a) (suc k) y v h = elim (set_at xs a k y v h) [ inl (e, same) ↦ inl (ap suc e, same) | inr was ↦ inr was ]
