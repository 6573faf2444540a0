-- Where a text is split at its first colon.
use Rattle.std.proofs.Common.{◌≡◌, ℕ, ◌+◌, ◌<◌, ◌==◌, suc, not, Bool, true, false, cond, List, [], ◌∷◌, length, Option, Some, None, refl, ◌∙◌, ap, arith}
use Rattle.std.specs.List.{position_from, position_or_len}
use Rattle.yv_link_scopes.specs.Names.{first_colon}

one_found : (b : Bool) (k n m : ℕ) (o : Option ℕ) → (n < m → o ≡ Some (k + 1 + n)) → cond (not b) (1 + n) 0 < suc m → cond b (Some k) o ≡ Some (k + cond (not b) (1 + n) 0)
one_found true k n m o f h = ap (λ (i : ℕ). Some i) (omega arith)
one_found false k n m o f h = f (omega arith) ∙ ap (λ (i : ℕ). Some i) (omega arith)

one_passed : (b : Bool) (k n m : ℕ) (o : Option ℕ) → (n ≡ m → o ≡ None) → cond (not b) (1 + n) 0 ≡ suc m → cond b (Some k) o ≡ None
one_passed true k n m o f h = absurd (omega arith)
one_passed false k n m o f h = f (omega arith)

module _ {X : Type 0} (p : X → Bool) where
  found_from : (k : ℕ) (xs : List X) → position_or_len p xs < length xs → position_from p k xs ≡ Some (k + position_or_len p xs)
  found_from k [] h = absurd (omega arith)
  found_from k (x ∷ xs) h = one_found (p x) k (position_or_len p xs) (length xs) (position_from p (k + 1) xs) (found_from (k + 1) xs) h

  passed_from : (k : ℕ) (xs : List X) → position_or_len p xs ≡ length xs → position_from p k xs ≡ None
  passed_from k [] h = refl
  passed_from k (x ∷ xs) h = one_passed (p x) k (position_or_len p xs) (length xs) (position_from p (k + 1) xs) (passed_from (k + 1) xs) h

pub colon_found : (text : List ℕ) → position_or_len (λ b. b == 58) text < length text → first_colon text ≡ Some (position_or_len (λ b. b == 58) text)
colon_found text h = found_from (λ b. b == 58) 0 text h ∙ ap (λ (i : ℕ). Some i) (let e : 0 + position_or_len (λ b. b == 58) text ≡ position_or_len (λ b. b == 58) text = omega arith in e)

pub no_colon : (text : List ℕ) → position_or_len (λ b. b == 58) text ≡ length text → first_colon text ≡ None
no_colon text h = passed_from (λ b. b == 58) 0 text h
