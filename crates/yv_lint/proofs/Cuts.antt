-- The part of a text between two places.
use Rattle.std.proofs.Common.{◌≡◌, ℕ, ◌+◌, ◌-◌, ◌<◌, ◌≤◌, true, false, cond, List, [], ◌∷◌, ◌++◌, length, take, drop, get_or, nat_eq, sym, ◌∙◌, ap, refl, arith}
use Rattle.std.proofs.lemmas.List.{take_more, drop_more, get_or-drop, length-drop}
use Rattle.std.proofs.lemmas.Bool.{ne_eqb}
use Rattle.yv_lint.specs.FileNames.{last_part_after}

abbrev pub cut : ℕ → ℕ → List ℕ → List ℕ
cut from to xs = take (to - from) (drop from xs)

-- one more byte
pub cut_more : (xs : List ℕ) (from i d : ℕ) → from ≤ i → i < length xs → cut from (i + 1) xs ≡ cut from i xs ++ get_or xs i d ∷ []
cut_more xs from i d le lt =
    let count : i + 1 - from ≡ (i - from) + 1 = omega arith in
    let at : from + (i - from) ≡ i = omega arith in
    let short : i - from < length (drop from xs) = rw length-drop (omega arith) in
    ap (λ n. take n (drop from xs)) count ∙ take_more (drop from xs) (i - from) d short ∙ ap (λ b. cut from i xs ++ b ∷ []) (get_or-drop from xs (i - from) d ∙ ap (λ n. get_or xs n d) at)

-- a slash, or one more byte of a part
pub part_more : (xs : List ℕ) (part : List ℕ) (i : ℕ) → i < length xs → last_part_after part (drop i xs) ≡ cond (nat_eq (get_or xs i 0) 47) (last_part_after [] (drop (i + 1) xs)) (last_part_after (part ++ get_or xs i 0 ∷ []) (drop (i + 1) xs))
part_more xs part i lt = ap (last_part_after part) (drop_more xs i 0 lt)

pub none_of : (xs : List ℕ) (n : ℕ) → cut n n xs ≡ []
none_of xs n = let e : n - n ≡ 0 = omega arith in rw e refl

-- a part begins after a slash
pub slash_step : (xs : List ℕ) (start i : ℕ) → i < length xs → get_or xs i 0 ≡ 47 → last_part_after (cut (i + 1) (i + 1) xs) (drop (i + 1) xs) ≡ last_part_after (cut start i xs) (drop i xs)
slash_step xs start i lt e =
    let is : nat_eq (get_or xs i 0) 47 ≡ true = rw e refl in
    ap (λ part. last_part_after part (drop (i + 1) xs)) (none_of xs (i + 1))
    ∙ sym (part_more xs (cut start i xs) i lt ∙ rw is refl)

-- or goes on
pub byte_step : (xs : List ℕ) (start i : ℕ) → start ≤ i → i < length xs → (get_or xs i 0 ≡ 47 → ⊥) → last_part_after (cut start (i + 1) xs) (drop (i + 1) xs) ≡ last_part_after (cut start i xs) (drop i xs)
byte_step xs start i le lt other =
    let is : nat_eq (get_or xs i 0) 47 ≡ false = ne_eqb (get_or xs i 0) 47 other in
    ap (λ part. last_part_after part (drop (i + 1) xs)) (cut_more xs start i 0 le lt)
    ∙ sym (part_more xs (cut start i xs) i lt ∙ rw is refl)
