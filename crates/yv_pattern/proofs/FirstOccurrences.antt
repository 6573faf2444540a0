-- The first place of a character.
use Rattle.std.proofs.Common.{◌≡◌, ℕ, suc, ◌+◌, ◌<◌, ◌&&◌, ◌==◌, not, Bool, true, false, List, [], ◌∷◌, ◌++◌, take, drop, length, get_or, nat_lt, Some, None, cond, refl, sym, ◌∙◌, ap, arith, length-append, add-one}
use Rattle.std.specs.List.{position, prefix_len, list_all}
use Rattle.std.proofs.lemmas.List.Quantifiers.{position-Some}
use Rattle.std.proofs.lemmas.List.{take-append-drop}
use Rattle.std.proofs.lemmas.Bool.{eqb-true, lt-ltb}
use Rattle.std.proofs.Math.Seq.{drop-cons}

pub both : (a b : Bool) → (a && b) ≡ true → (a ≡ true) × (b ≡ true)
both true b h = (refl, h)
both false b h = absurd (cc)

-- what a character's first place says of the text
pub at_found : (k : ℕ) (xs : List ℕ) (i : ℕ) → position (λ c. c == k) xs ≡ Some i → xs ≡ take i xs ++ k ∷ drop (i + 1) xs
at_found k xs i e =
    let p = position-Some (λ c. c == k) xs i 0 e in
    let is : get_or xs i 0 ≡ k = eqb-true (get_or xs i 0) k p.1 in
    let rest : drop i xs ≡ k ∷ drop (i + 1) xs = drop-cons xs i 0 p.0 ∙ (λ j. is j ∷ drop (sym (add-one i) j) xs) in
    sym (take-append-drop i xs) ∙ ap (λ (ys : List ℕ). take i xs ++ ys) rest

others : (b : Bool) (n m : ℕ) → not b ≡ true → n ≡ m → cond (not b) (1 + n) 0 ≡ suc m
others true n m h e = absurd (cc)
others false n m h e = omega (arith, e)

stops : (b : Bool) (n : ℕ) → b ≡ true → cond (not b) (1 + n) 0 ≡ 0
stops true n h = refl
stops false n h = absurd (cc)

before : (p : ℕ → Bool) (xs : List ℕ) (x : ℕ) (ys : List ℕ) → list_all (λ c. not (p c)) xs ≡ true → p x ≡ true → prefix_len (λ c. not (p c)) (xs ++ x ∷ ys) ≡ length xs
before p [] x ys h e = stops (p x) _ e
before p (c ∷ cs) x ys h e =
    let b = both (not (p c)) _ h in
    others (p c) _ _ b.0 (before p cs x ys b.1 e)

one_of : (n m : ℕ) → n < m → cond (nat_lt n m) (Some n) None ≡ Some n
one_of n m h = rw (lt-ltb n m h) refl

-- the first place of a character that isn't before
pub finds : (p : ℕ → Bool) (xs : List ℕ) (x : ℕ) (ys : List ℕ) → list_all (λ c. not (p c)) xs ≡ true → p x ≡ true → position p (xs ++ x ∷ ys) ≡ Some (length xs)
finds p xs x ys h e = rw (before p xs x ys h e) (one_of (length xs) (length (xs ++ x ∷ ys)) (omega (arith, length-append xs (x ∷ ys))))

-- nowhere
absent : (p : ℕ → Bool) (xs : List ℕ) → list_all (λ c. not (p c)) xs ≡ true → prefix_len (λ c. not (p c)) xs ≡ length xs
absent p [] h = refl
absent p (c ∷ cs) h = let b = both (not (p c)) _ h in others (p c) _ _ b.0 (absent p cs b.1)

not_less : (n : ℕ) → nat_lt n n ≡ false
not_less n = grind arith

pub finds_none : (p : ℕ → Bool) (xs : List ℕ) → list_all (λ c. not (p c)) xs ≡ true → position p xs ≡ None
finds_none p xs h = rw (absent p xs h, not_less (length xs)) refl
