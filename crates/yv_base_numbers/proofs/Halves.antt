-- Among intervals in order the one that may hold a value.
use Rattle.std.proofs.Common.{◌≡◌, ℕ, zero, suc, ◌<◌, ◌≤◌, Bool, true, false, not, ◌||◌, ◌&&◌, List, [], ◌∷◌, map, length, get_or, refl, ◌∙◌, ap, arith}
use Rattle.std.specs.Prelude.{◌-◌, ℤ, int_le, ⊤}
use Rattle.std.specs.List.{list_any, AllWithin}
use Rattle.std.specs.List.Sorted.{IsPartitionedBy}
use Rattle.std.proofs.lemmas.Int.{ints}
use Rattle.yv_base_numbers.specs.declared.intervals.Span.{Span}
use Rattle.yv_base_numbers.specs.Intervals.{interval, ends_below, ascend, has, are_among}
use Rattle.yv_base_numbers.specs.Numbers.{integer}

and_left : (a b : Bool) → (a && b) ≡ true → a ≡ true
and_left true b h = refl
and_left false b h = absurd (cc)

and_right : (a b : Bool) → (a && b) ≡ true → b ≡ true
and_right true b h = h
and_right false b h = absurd (cc)

not_true : (b : Bool) → not b ≡ true → b ≡ false
not_true true h = absurd (cc)
not_true false h = refl

or_false : (b : Bool) → (b || false) ≡ b
or_false true = refl
or_false false = refl

-- tests of an interval: it begins at or before the value, and the value is at or before its end
module _ {X : Type 0} (begins reaches : X → Bool) where
  -- where the next one begins, this one has begun, and has ended
  abbrev pub Follows : X → List X → Type 0
  Follows x [] = ⊤
  Follows x (y ∷ ys) = begins y ≡ true → (begins x ≡ true) × (reaches x ≡ false)

  abbrev pub Falls : List X → Type 0
  Falls [] = ⊤
  Falls (x ∷ xs) = Follows x xs × Falls xs

  first_begins : (x : X) (xs : List X) (j : ℕ) (d : X) → Falls (x ∷ xs) → j < length xs → begins (get_or xs j d) ≡ true → begins x ≡ true
  first_begins x [] j d f b h = absurd (omega arith)
  first_begins x (y ∷ ys) zero d f b h = (f.0 h).0
  first_begins x (y ∷ ys) (suc j) d f b h = (f.0 (first_begins y ys j d f.1 (omega arith) h)).0

  pub parted : (xs : List X) → Falls xs → IsPartitionedBy begins xs
  parted [] f i j d le b h = absurd (omega arith)
  parted (x ∷ xs) f zero zero d le b h = h
  parted (x ∷ xs) f zero (suc j) d le b h = first_begins x xs j d f (omega arith) h
  parted (x ∷ xs) f (suc i) zero d le b h = absurd (omega arith)
  parted (x ∷ xs) f (suc i) (suc j) d le b h = parted xs f.1 i j d (omega arith) (omega arith) h

  none_from : (xs : List X) → ((k : ℕ) (d : X) → k < length xs → begins (get_or xs k d) ≡ false) → list_any (λ x. begins x && reaches x) xs ≡ false
  none_from [] h = refl
  none_from (x ∷ xs) h = rw (h zero x (omega arith)) (none_from xs (λ k d b. h (suc k) d (omega arith)))

  -- none has begun
  pub none_begins : (xs : List X) → AllWithin (λ x. begins x ≡ false) xs 0 (length xs) → list_any (λ x. begins x && reaches x) xs ≡ false
  none_begins xs h = none_from xs (λ k d b. h k d (omega arith) b)

  last_from : (xs : List X) (n : ℕ) (d : X) → Falls xs → n < length xs → ((k : ℕ) (e : X) → k ≤ n → begins (get_or xs k e) ≡ true) → ((k : ℕ) (e : X) → n < k → k < length xs → begins (get_or xs k e) ≡ false) → list_any (λ x. begins x && reaches x) xs ≡ reaches (get_or xs n d)
  last_from [] n d f b lower upper = absurd (omega arith)
  last_from (x ∷ xs) zero d f b lower upper =
      let none = none_from xs (λ k e in'. upper (suc k) e (omega arith) (omega arith)) in
      rw (lower zero x (omega arith)) (ap (λ t. reaches x || t) none ∙ or_false (reaches x))
  last_from (x ∷ []) (suc n) d f b lower upper = absurd (omega arith)
  last_from (x ∷ y ∷ ys) (suc n) d f b lower upper =
      let ended = f.0 (lower (suc zero) y (omega arith)) in
      rw (ended.0, ended.1) (last_from (y ∷ ys) n d f.1 (omega arith) (λ k e le. lower (suc k) e (omega arith)) (λ k e lt in'. upper (suc k) e (omega arith) (omega arith)))

  -- the last that has begun is the only one that may reach the value
  pub last_begins : (xs : List X) (count : ℕ) (d : X) → Falls xs → (count ≡ 0 → ⊥) → count ≤ length xs → AllWithin (λ x. begins x ≡ true) xs 0 count → AllWithin (λ x. begins x ≡ false) xs count (length xs) → list_any (λ x. begins x && reaches x) xs ≡ reaches (get_or xs (count - 1) d)
  last_begins xs zero d f some b lower upper = absurd (some refl)
  last_begins xs (suc n) d f some b lower upper =
      let same : suc n - 1 ≡ n = omega arith in
      rw same (last_from xs n d f (omega arith) (λ k e le. lower k e (omega arith) (omega arith)) (λ k e lt in'. upper k e (omega arith) in'))

-- ### numbers

int_apart : (a b c z : ℤ) → int_le a b ≡ true → int_le c b ≡ false → int_le c z ≡ true → (int_le a z ≡ true) × (int_le z b ≡ false)
int_apart a b c z h g k = (yes (int_le a z) refl, no (int_le z b) refl)
  where
    yes : (t : Bool) → int_le a z ≡ t → t ≡ true
    yes true e = refl
    yes false e = absurd (omega (arith, ints))

    no : (t : Bool) → int_le z b ≡ t → t ≡ false
    no true e = absurd (omega (arith, ints))
    no false e = refl

follows : (z : ℤ) (s : Span) (ss : List Span) → int_le (integer s.low) (integer s.high) ≡ true → ends_below (interval s) (map interval ss) ≡ true → Follows (λ t. int_le (integer t.low) z) (λ t. int_le z (integer t.high)) s ss
follows z s [] h g = tt
follows z s (t ∷ ts) h g = λ k. int_apart (integer s.low) (integer s.high) (integer t.low) z h (not_true _ g) k

pub spans_fall : (z : ℤ) (ss : List Span) → ascend (map interval ss) ≡ true → Falls (λ t. int_le (integer t.low) z) (λ t. int_le z (integer t.high)) ss
spans_fall z [] h = tt
spans_fall z (s ∷ ss) h =
    let rest = and_right (int_le (integer s.low) (integer s.high)) _ h in
    (follows z s ss (and_left _ _ h) (and_left (ends_below (interval s) (map interval ss)) _ rest), spans_fall z ss (and_right (ends_below (interval s) (map interval ss)) _ rest))

pub among_spans : (z : ℤ) (ss : List Span) → are_among (map interval ss) z ≡ list_any (λ s. int_le (integer s.low) z && int_le z (integer s.high)) ss
among_spans z [] = refl
among_spans z (s ∷ ss) = ap (λ b. has z (interval s) || b) (among_spans z ss)
