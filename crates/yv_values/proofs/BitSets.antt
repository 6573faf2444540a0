-- Sets of bits, of words in the order of their bytes.
use Rattle.std.proofs.Common.{◌≡◌, ℕ, suc, ◌+◌, ◌<◌, ◌≤◌, Bool, true, false, not, ◌||◌, ◌&&◌, cond, List, [], ◌∷◌, ◌++◌, map, filter, drop, length, get_or, Bor, Ordering, Some, unwrap_or, add-one, refl, sym, ◌∙◌, ap, subst, arith}
use Rattle.std.specs.Cmp.Lexicographic.{slice_cmp}
use Rattle.std.specs.List.{list_all, list_any, sum_by, slice_get}
use Rattle.std.specs.List.Sorted.{IsPermutation}
use Rattle.std.specs.Ordering.{is_lt, nat_cmp}
use Rattle.std.specs.Str.{bytes_eq}
use Rattle.std.specs.declared.cmp.Ordering.TheVariants.{Less, Equal, Greater}
use Rattle.std.proofs.lemmas.Cmp.{nat_list_cmp_total, nat_list_eq_equiv, alike_right}
use Rattle.std.proofs.lemmas.List.Elements.{filter_agree}
use Rattle.std.proofs.lemmas.List.Sorted.{list_any-IsPermutation, sum_by-IsPermutation}
use Rattle.std.proofs.lemmas.List.Sums.{sum_by-cons}
use Rattle.std.proofs.Math.Seq.{drop-cons}
use Rattle.std.proofs.lemmas.Slice.Eq.{bytes_eq-Decides}
use Rattle.yv_values.specs.InnerBits.{bits_of}
use Rattle.yv_values.specs.InnerNames.{is_below, NoneBelow, Ascends, Arranges}
use Rattle.yv_values.specs.Texts.{is_named, are_distinct, choose, words, bits_in}
use Rattle.yv_values.proofs.Order.{back, apart_above, same_between}

is_less : (o : Ordering) → is_lt o ≡ true → o ≡ Less
is_less Less h = refl
is_less Equal h = absurd (cc)
is_less Greater h = absurd (cc)

below_upto : (w v n : List ℕ) → is_below w v ≡ true → is_below n v ≡ false → is_below w n ≡ true
below_upto w v n h g = by (slice_cmp nat_cmp v n) refl
  where
    by : (o : Ordering) → slice_cmp nat_cmp v n ≡ o → is_below w n ≡ true
    by Less e = ap is_lt (nat_list_cmp_total.trans w v n (is_less _ h) e)
    by Equal e = ap is_lt (sym (alike_right nat_list_cmp_total v n w e)) ∙ h
    by Greater e = let t : is_below n v ≡ true = rw (back n v, e) refl in let f : true ≡ false = sym t ∙ g in absurd (cc)

above_of : (v w : List ℕ) → is_below v w ≡ false → bytes_eq v w ≡ false → is_below w v ≡ true
above_of v w h e = by (is_below w v) refl
  where
    by : (b : Bool) → is_below w v ≡ b → b ≡ true
    by true g = refl
    by false g = let t : true ≡ false = sym (same_between v w h g) ∙ e in absurd (cc)

or_left : (a b : Bool) → (a || b) ≡ false → a ≡ false
or_left true b h = absurd (cc)
or_left false b h = refl

or_right : (a b : Bool) → (a || b) ≡ false → b ≡ false
or_right true b h = absurd (cc)
or_right false b h = h

pub and_left : (a b : Bool) → (not a && b) ≡ true → a ≡ false
and_left true b h = absurd (cc)
and_left false b h = refl

pub and_right : (a b : Bool) → (not a && b) ≡ true → b ≡ true
and_right true b h = absurd (cc)
and_right false b h = h

-- ### the first of texts in order

none_named : (w v : List ℕ) (vs : List (List ℕ)) → is_below w v ≡ true → NoneBelow v vs → is_named vs w ≡ false
none_named w v [] h g = refl
none_named w v (u ∷ us) h g = rw (apart_above u w (below_upto w v u h g.0)) (none_named w v us h g.1)

-- a text with none below it is the first of these, or it isn't among them
pub first_alone : (w v : List ℕ) (vs : List (List ℕ)) → NoneBelow w (v ∷ vs) → Ascends (v ∷ vs) → bytes_eq v w ≡ is_named (v ∷ vs) w
first_alone w v vs h up = by (bytes_eq v w) refl
  where
    by : (b : Bool) → bytes_eq v w ≡ b → b ≡ (b || is_named vs w)
    by true e = refl
    by false e = sym (none_named w v vs (above_of v w h.0 e) up.0)

-- ### the names that are words

run_done : (w n : List ℕ) (ns : List (List ℕ)) → is_below w n ≡ true → NoneBelow n ns → filter (λ m. bytes_eq m w) ns ≡ []
run_done w n [] h g = refl
run_done w n (m ∷ ms) h g = rw (apart_above m w (below_upto w n m h g.0)) (run_done w n ms h g.1)

strict : (w : List ℕ) (ws : List (List ℕ)) → NoneBelow w ws → is_named ws w ≡ false → (v : List ℕ) → is_named ws v ≡ true → is_below w v ≡ true
strict w [] h e v g = absurd (cc)
strict w (u ∷ us) h e v g = by (bytes_eq u v) refl (λ k. strict w us h.1 (or_right (bytes_eq u w) _ e) v k)
  where
    by : (b : Bool) → bytes_eq u v ≡ b → (is_named us v ≡ true → is_below w v ≡ true) → is_below w v ≡ true
    by true s later = subst (λ (x : List ℕ). is_below w x ≡ true) ((bytes_eq-Decides u v).0 s) (above_of u w h.0 (or_left (bytes_eq u w) _ e))
    by false s later = later (ap (λ b. b || is_named us v) (sym s) ∙ g)

joined : (w : List ℕ) (ws ns : List (List ℕ)) → Ascends ns → ((v : List ℕ) → is_named ws v ≡ true → is_below w v ≡ true) → filter (is_named (w ∷ ws)) ns ≡ filter (λ n. bytes_eq n w) ns ++ filter (is_named ws) ns
joined w ws [] up above = refl
joined w ws (n ∷ ns) up above = rw (nat_list_eq_equiv.symm w n) (by (bytes_eq n w) (is_named ws n) refl refl (joined w ws ns up.1 above))
  where
    by : (b c : Bool) → bytes_eq n w ≡ b → is_named ws n ≡ c
        → filter (is_named (w ∷ ws)) ns ≡ filter (λ m. bytes_eq m w) ns ++ filter (is_named ws) ns
        → cond (b || c) (n ∷ filter (is_named (w ∷ ws)) ns) (filter (is_named (w ∷ ws)) ns) ≡ cond b (n ∷ filter (λ m. bytes_eq m w) ns) (filter (λ m. bytes_eq m w) ns) ++ cond c (n ∷ filter (is_named ws) ns) (filter (is_named ws) ns)
    by true true e f h = let t : true ≡ false = sym e ∙ apart_above n w (above n f) in absurd (cc)
    by true false e f h = ap (λ ms. n ∷ ms) h
    by false true e f h =
        let done = run_done w n ns (above n f) up.0 in
        rw done (ap (λ ms. n ∷ ms) (h ∙ ap (λ ms. ms ++ filter (is_named ws) ns) done))
    by false false e f h = h

-- the names that are the first word, and those that are others
pub chosen_step : (names ws : List (List ℕ)) (w : List ℕ) → Ascends names → Ascends (w ∷ ws) → are_distinct (w ∷ ws) ≡ true → choose names (w ∷ ws) ≡ filter (λ n. bytes_eq n w) names ++ choose names ws
chosen_step names ws w up order distinct = joined w ws names up (strict w ws order.0 (and_left (is_named ws w) _ distinct))

pub chosen_none : (names : List (List ℕ)) → choose names [] ≡ []
chosen_none [] = refl
chosen_none (n ∷ ns) = chosen_none ns

-- ### words in another order

all_is_none : (p : List ℕ → Bool) (xs : List (List ℕ)) → list_all p xs ≡ not (list_any (λ x. not (p x)) xs)
all_is_none p [] = refl
all_is_none p (x ∷ xs) = by (p x) (all_is_none p xs)
  where
    by : (b : Bool) → list_all p xs ≡ not (list_any (λ y. not (p y)) xs) → (b && list_all p xs) ≡ not (not b || list_any (λ y. not (p y)) xs)
    by true h = h
    by false h = refl

abbrev count : List ℕ → List (List ℕ) → ℕ
count w xs = sum_by (λ x. cond (bytes_eq x w) 1 0) xs

count_cons : (w x : List ℕ) (xs : List (List ℕ)) → count w (x ∷ xs) ≡ cond (bytes_eq x w) 1 0 + count w xs
count_cons w x xs = sum_by-cons (λ y. cond (bytes_eq y w) 1 0) x xs

not_counted : (w : List ℕ) (xs : List (List ℕ)) → count w xs ≡ 0 → is_named xs w ≡ false
not_counted w [] h = refl
not_counted w (x ∷ xs) h = by (bytes_eq x w) (sym (count_cons w x xs) ∙ h) (λ k. not_counted w xs k)
  where
    by : (b : Bool) → cond b 1 0 + count w xs ≡ 0 → (count w xs ≡ 0 → is_named xs w ≡ false) → (b || is_named xs w) ≡ false
    by true e later = absurd (omega (arith, e))
    by false e later = later (omega (arith, e))

counted_none : (w : List ℕ) (xs : List (List ℕ)) → is_named xs w ≡ false → count w xs ≡ 0
counted_none w [] h = refl
counted_none w (x ∷ xs) h = count_cons w x xs ∙ by (bytes_eq x w) h (λ k. counted_none w xs k)
  where
    by : (b : Bool) → (b || is_named xs w) ≡ false → (is_named xs w ≡ false → count w xs ≡ 0) → cond b 1 0 + count w xs ≡ 0
    by true e later = absurd (cc)
    by false e later = let z = later e in omega (arith, z)

distinct_counts : (xs : List (List ℕ)) → are_distinct xs ≡ true → (w : List ℕ) → count w xs ≤ 1
distinct_counts [] h w = omega (arith, counted_none w [] refl)
distinct_counts (x ∷ xs) h w = by (bytes_eq x w) refl (distinct_counts xs (and_right (is_named xs x) _ h) w)
  where
    by : (b : Bool) → bytes_eq x w ≡ b → count w xs ≤ 1 → count w (x ∷ xs) ≤ 1
    by true e later =
        let same = (bytes_eq-Decides x w).0 e in
        let none = counted_none w xs (subst (λ (v : List ℕ). is_named xs v ≡ false) same (and_left (is_named xs x) _ h)) in
        let all = count_cons w x xs ∙ ap (λ b. cond b 1 0 + count w xs) e in
        omega (arith, none, all)
    by false e later = let all = count_cons w x xs ∙ ap (λ b. cond b 1 0 + count w xs) e in omega (arith, all, later)

counts_distinct : (xs : List (List ℕ)) → ((w : List ℕ) → count w xs ≤ 1) → are_distinct xs ≡ true
counts_distinct [] h = refl
counts_distinct (x ∷ xs) h =
    let one = count_cons x x xs ∙ ap (λ b. cond b 1 0 + count x xs) ((bytes_eq-Decides x x).1 refl) in
    let none = not_counted x xs (omega (arith, one, h x)) in
    rw none (counts_distinct xs (λ w. let all = count_cons w x xs in omega (arith, all, h w)))

both_ways : (a b : Bool) → (a ≡ true → b ≡ true) → (b ≡ true → a ≡ true) → a ≡ b
both_ways true b f g = sym (f refl)
both_ways false true f g = g refl
both_ways false false f g = refl

distinct_arranged : (xs ys : List (List ℕ)) → IsPermutation xs ys → are_distinct xs ≡ are_distinct ys
distinct_arranged xs ys h =
    let same : (w : List ℕ) → count w ys ≡ count w xs = λ w. sum_by-IsPermutation (λ x. cond (bytes_eq x w) 1 0) xs ys h in
    both_ways (are_distinct xs) (are_distinct ys) (λ e. counts_distinct ys (λ w. omega (arith, same w, distinct_counts xs e w))) (λ e. counts_distinct xs (λ w. omega (arith, same w, distinct_counts ys e w)))

all_arranged : (p : List ℕ → Bool) (xs ys : List (List ℕ)) → IsPermutation xs ys → list_all p xs ≡ list_all p ys
all_arranged p xs ys h = all_is_none p xs ∙ ap not (list_any-IsPermutation (λ x. not (p x)) xs ys h) ∙ sym (all_is_none p ys)

chosen_arranged : (names xs ys : List (List ℕ)) → IsPermutation xs ys → choose names xs ≡ choose names ys
chosen_arranged names xs ys h = filter_agree (is_named xs) (is_named ys) (λ n. list_any-IsPermutation (λ w. bytes_eq w n) xs ys h) names

pub bits_arranged : (names : List (List ℕ)) (s : List ℕ) (ws : List (List ℕ)) → Arranges (words s) ws → bits_in names s ≡ bits_of names s ws
bits_arranged names s ws h =
    rw (all_arranged (is_named names) (words s) ws h.0, distinct_arranged (words s) ws h.0, chosen_arranged names (words s) ws h.0) refl

-- ### the words of a loop

pub first_of : (ws : List (Bor (List ℕ))) (word : Bor (List ℕ)) (w : List ℕ) → Some word ≡ slice_get ws 0 → NoneBelow w (map (λ v. v.now) ws) → Ascends (map (λ v. v.now) ws) → bytes_eq word.now w ≡ is_named (map (λ v. v.now) ws) w
first_of [] word w e h up = absurd (cc)
first_of (v ∷ vs) word w e h up = ap (λ o. bytes_eq (unwrap_or o v).now w) e ∙ first_alone w v.now (map (λ u. u.now) vs) h up

pub rest_is : (ws : List (Bor (List ℕ))) (i : ℕ) (d : Bor (List ℕ)) (w : List ℕ) → i < length ws → w ≡ (get_or ws i d).now → map (λ v. v.now) (drop i ws) ≡ w ∷ map (λ v. v.now) (drop (i + 1) ws)
rest_is ws i d w b e = rw (add-one i) (ap (map (λ v. v.now)) (drop-cons ws i d b) ∙ ap (λ (x : List ℕ). x ∷ map (λ v. v.now) (drop (suc i) ws)) (sym e))

pub next_word : (names left rest : List (List ℕ)) (w : List ℕ) → left ≡ w ∷ rest → Ascends names → Ascends left → are_distinct left ≡ true → (choose names left ≡ filter (λ n. bytes_eq n w) names ++ choose names rest) × Ascends rest × (are_distinct rest ≡ true)
next_word names left rest w e up order distinct =
    let more : Ascends (w ∷ rest) = subst Ascends e order in
    let apart : are_distinct (w ∷ rest) ≡ true = ap are_distinct (sym e) ∙ distinct in
    (ap (choose names) e ∙ chosen_step names rest w up more apart, more.1, and_right (is_named rest w) _ apart)
