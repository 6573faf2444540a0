-- Names that are told apart are no more than those among which they are.
use Rattle.std.proofs.Common.{◌≡◌, ℕ, ◌<◌, ◌≤◌, Bool, true, false, not, ◌||◌, ◌&&◌, cond, List, [], ◌∷◌, length, filter, refl, sym, ◌∙◌, ap, arith}
use Rattle.std.specs.List.{list_all}
use Rattle.std.specs.Prelude.{Some, None}
use Rattle.std.specs.Str.{bytes_eq}
use Rattle.std.proofs.lemmas.Slice.Eq.{bytes_eq-Decides}
use Rattle.yv_values.specs.Texts.{is_named, are_distinct, words, bits_in, is_trimmed, choose}
use Rattle.yv_values.specs.Values.{bits}
use Rattle.yv_values.proofs.BitSets.{and_left, and_right}

abbrev without : List ℕ → List (List ℕ) → List (List ℕ)
without w ns = filter (λ n. not (bytes_eq n w)) ns

no_more : (w : List ℕ) (ns : List (List ℕ)) → length (without w ns) ≤ length ns
no_more w [] = omega arith
no_more w (n ∷ ns) = by (bytes_eq n w) (no_more w ns)
  where
    by : (b : Bool) → length (without w ns) ≤ length ns → length (cond (not b) (n ∷ without w ns) (without w ns)) ≤ length (n ∷ ns)
    by true h = omega (arith, h)
    by false h = omega (arith, h)

one_less : (w : List ℕ) (ns : List (List ℕ)) → is_named ns w ≡ true → length (without w ns) < length ns
one_less w [] h = absurd (cc)
one_less w (n ∷ ns) h = by (bytes_eq n w) (no_more w ns) (λ k. one_less w ns k) h
  where
    by : (b : Bool) → length (without w ns) ≤ length ns → (is_named ns w ≡ true → length (without w ns) < length ns) → (b || is_named ns w) ≡ true → length (cond (not b) (n ∷ without w ns) (without w ns)) < length (n ∷ ns)
    by true l later t = omega (arith, l)
    by false l later t = let k = later t in omega (arith, k)

or_first : (b : Bool) → (true || b) ≡ true
or_first b = refl

or_later : (a b : Bool) → b ≡ true → (a || b) ≡ true
or_later true b h = refl
or_later false b h = h

still_named : (w x : List ℕ) (ns : List (List ℕ)) → bytes_eq x w ≡ false → is_named ns x ≡ true → is_named (without w ns) x ≡ true
still_named w x [] ne h = absurd (cc)
still_named w x (n ∷ ns) ne h = by (bytes_eq n x) (bytes_eq n w) refl refl (λ k. still_named w x ns ne k) h
  where
    by : (b c : Bool) → bytes_eq n x ≡ b → bytes_eq n w ≡ c → (is_named ns x ≡ true → is_named (without w ns) x ≡ true) → (b || is_named ns x) ≡ true → is_named (cond (not c) (n ∷ without w ns) (without w ns)) x ≡ true
    by true true e f later t = let clash : true ≡ false = sym f ∙ ap (λ (m : List ℕ). bytes_eq m w) ((bytes_eq-Decides n x).0 e) ∙ ne in absurd (cc)
    by true false e f later t = ap (λ b. b || is_named (without w ns) x) e
    by false true e f later t = later t
    by false false e f later t = or_later (bytes_eq n x) (is_named (without w ns) x) (later t)

all_still : (w : List ℕ) (ns xs : List (List ℕ)) → is_named xs w ≡ false → list_all (is_named ns) xs ≡ true → list_all (is_named (without w ns)) xs ≡ true
all_still w ns [] ne h = refl
all_still w ns (x ∷ xs) ne h =
    let first = or_no (bytes_eq x w) (is_named xs w) ne in
    let all = both (is_named ns x) (list_all (is_named ns) xs) h in
    and_true (is_named (without w ns) x) (list_all (is_named (without w ns)) xs) (still_named w x ns first.0 all.0) (all_still w ns xs first.1 all.1)
  where
    or_no : (a b : Bool) → (a || b) ≡ false → (a ≡ false) × (b ≡ false)
    or_no true b e = absurd (cc)
    or_no false b e = (refl, e)

    both : (a b : Bool) → (a && b) ≡ true → (a ≡ true) × (b ≡ true)
    both true b e = (refl, e)
    both false b e = absurd (cc)

    and_true : (a b : Bool) → a ≡ true → b ≡ true → (a && b) ≡ true
    and_true true b e f = f
    and_true false b e f = absurd (cc)

pub no_more_than_names : (ns xs : List (List ℕ)) → list_all (is_named ns) xs ≡ true → are_distinct xs ≡ true → length xs ≤ length ns
no_more_than_names ns [] h d = omega arith
no_more_than_names ns (x ∷ xs) h d =
    let all = both (is_named ns x) (list_all (is_named ns) xs) h in
    let less = one_less x ns all.0 in
    let rest = no_more_than_names (without x ns) xs (all_still x ns xs (and_left (is_named xs x) _ d) all.1) (and_right (is_named xs x) _ d) in
    omega (arith, less, rest)
  where
    both : (a b : Bool) → (a && b) ≡ true → (a ≡ true) × (b ≡ true)
    both true b e = (refl, e)
    both false b e = absurd (cc)

-- a text of more words than there are names isn't a set of bits
pub too_many_words : (ns : List (List ℕ)) (s : List ℕ) → length ns < length (words s) → bits_in ns s ≡ None
too_many_words ns s more = by (is_trimmed s) (list_all (is_named ns) (words s)) (are_distinct (words s)) (λ h d. no_more_than_names ns (words s) h d)
  where
    by : (t a d : Bool) → (a ≡ true → d ≡ true → length (words s) ≤ length ns) → cond (t && (a && d)) (Some (bits (choose ns (words s)))) None ≡ None
    by false a d h = refl
    by true false d h = refl
    by true true false h = refl
    by true true true h = let l = h refl refl in absurd (omega (arith, l, more))
