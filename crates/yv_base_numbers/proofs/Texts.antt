-- Points and blanks in texts.
use Rattle.std.proofs.Common.{◌≡◌, ℕ, ◌+◌, ◌-◌, ◌<◌, ◌≤◌, ◌==◌, Bool, true, false, ◌&&◌, cond, List, [], ◌∷◌, drop, length, get_or, Option, Some, None, option_map, refl, sym, ◌∙◌, ap, arith}
use Rattle.std.proofs.lemmas.List.{drop_more, get_or-drop, length-drop}
use Rattle.yv_base_numbers.specs.Restrictions.{dots_at}

-- so many further on
abbrev pub shifted : ℕ → Option ℕ → Option ℕ
shifted k found = option_map (λ i. i + k) found

shifted_once : (k : ℕ) (o : Option ℕ) → shifted k (option_map (λ i. i + 1) o) ≡ shifted (k + 1) o
shifted_once k None = refl
shifted_once k (Some i) = ap Some (omega arith)

pub shifted_none : (o : Option ℕ) → o ≡ shifted 0 o
shifted_none None = refl
shifted_none (Some i) = ap Some (omega arith)

front : (xs : List ℕ) (k : ℕ) → k + 1 < length xs → dots_at (drop k xs) ≡ cond ((get_or xs k 0 == 46) && (get_or xs (k + 1) 0 == 46)) (Some 0) (option_map (λ i. i + 1) (dots_at (drop (k + 1) xs)))
front xs k b =
    ap dots_at (drop_more xs k 0 (omega arith))
    ∙ ap (λ (c : ℕ). cond ((get_or xs k 0 == 46) && (c == 46)) (Some 0) (option_map (λ i. i + 1) (dots_at (drop (k + 1) xs)))) (get_or-drop (k + 1) xs 0 0 ∙ ap (λ j. get_or xs j 0) (omega arith))

pub no_dots : (xs : List ℕ) (k : ℕ) → k + 1 < length xs → ((get_or xs k 0 == 46) && (get_or xs (k + 1) 0 == 46)) ≡ false → shifted k (dots_at (drop k xs)) ≡ shifted (k + 1) (dots_at (drop (k + 1) xs))
no_dots xs k b h =
    ap (shifted k) (front xs k b ∙ ap (λ (t : Bool). cond t (Some 0) (option_map (λ i. i + 1) (dots_at (drop (k + 1) xs)))) h)
    ∙ shifted_once k (dots_at (drop (k + 1) xs))

pub dots_here : (xs : List ℕ) (k : ℕ) → k + 1 < length xs → ((get_or xs k 0 == 46) && (get_or xs (k + 1) 0 == 46)) ≡ true → shifted k (dots_at (drop k xs)) ≡ Some k
dots_here xs k b h =
    ap (shifted k) (front xs k b ∙ ap (λ (t : Bool). cond t (Some 0) (option_map (λ i. i + 1) (dots_at (drop (k + 1) xs)))) h)
    ∙ ap Some (omega arith)

-- one byte is no two points
lone : (xs : List ℕ) → length xs ≤ 1 → dots_at xs ≡ None
lone [] h = refl
lone (c ∷ []) h = by_cases (c == 46)
  where
    by_cases : (t : Bool) → cond (t && false) (Some 0) (option_map (λ i. i + 1) None) ≡ None
    by_cases true = refl
    by_cases false = refl
lone (c ∷ d ∷ cs) h = absurd (omega (arith, h))

pub last_dots : (xs : List ℕ) (k : ℕ) → length xs ≤ k + 1 → shifted k (dots_at (drop k xs)) ≡ None
last_dots xs k h = ap (shifted k) (lone (drop k xs) (grind (arith, length-drop)))

moved : (xs : List ℕ) (j k : ℕ) → j ≡ k → shifted j (dots_at (drop j xs)) ≡ shifted k (dots_at (drop k xs))
moved xs j k e = ap (λ (i : ℕ). shifted i (dots_at (drop i xs))) e

-- the same with the place of the second byte
pub next_dots : (xs : List ℕ) (at : ℕ) → 1 ≤ at → at < length xs → ((get_or xs (at - 1) 0 == 46) && (get_or xs at 0 == 46)) ≡ false → dots_at xs ≡ shifted (at - 1) (dots_at (drop (at - 1) xs)) → dots_at xs ≡ shifted (at + 1 - 1) (dots_at (drop (at + 1 - 1) xs))
next_dots xs at low high h so_far =
    let e : at ≡ at - 1 + 1 = omega arith in
    let f : at - 1 + 1 ≡ at + 1 - 1 = omega arith in
    so_far ∙ no_dots xs (at - 1) (omega arith) (ap (λ (i : ℕ). (get_or xs (at - 1) 0 == 46) && (get_or xs i 0 == 46)) (sym e) ∙ h) ∙ moved xs (at - 1 + 1) (at + 1 - 1) f

pub found_dots : (xs : List ℕ) (at : ℕ) → 1 ≤ at → at < length xs → ((get_or xs (at - 1) 0 == 46) && (get_or xs at 0 == 46)) ≡ true → dots_at xs ≡ shifted (at - 1) (dots_at (drop (at - 1) xs)) → dots_at xs ≡ Some (at - 1)
found_dots xs at low high h so_far =
    let e : at ≡ at - 1 + 1 = omega arith in
    so_far ∙ dots_here xs (at - 1) (omega arith) (ap (λ (i : ℕ). (get_or xs (at - 1) 0 == 46) && (get_or xs i 0 == 46)) (sym e) ∙ h)
