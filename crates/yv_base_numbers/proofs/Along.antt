-- Intervals that lie within others, both in ascending order.
use Rattle.std.proofs.Common.{◌≡◌, ℤ, pos, negsuc, Bool, true, false, ◌&&◌, ◌||◌, ◌⊎◌, inl, inr, List, [], ◌∷◌, ◌++◌, map, refl, sym, ◌∙◌, ap, subst, arith}
use Rattle.std.specs.Prelude.{int_le, ⊤}
use Rattle.std.specs.List.{list_any}
use Rattle.std.proofs.lemmas.Bool.{and_parts, or_cases, not-true, false_from_ne_true, both_ways, and_from, and_right, or_from, leb-true, leb-false, le-leb}
use Rattle.std.proofs.lemmas.List.{map-append}
use Rattle.yv_base_numbers.specs.declared.intervals.Span.{Span}
use Rattle.yv_base_numbers.specs.RestrictedIntervals.{Interval, ends_below, ascend, lies_in}

le_trans : (a b c : ℤ) → int_le a b ≡ true → int_le b c ≡ true → int_le a c ≡ true
le_trans (pos a) (pos b) (pos c) h k = le-leb a c (omega (arith, leb-true a b h, leb-true b c k))
le_trans (pos a) (pos b) (negsuc c) h k = absurd (cc)
le_trans (pos a) (negsuc b) c h k = absurd (cc)
le_trans (negsuc a) (pos b) (pos c) h k = refl
le_trans (negsuc a) (pos b) (negsuc c) h k = absurd (cc)
le_trans (negsuc a) (negsuc b) (pos c) h k = refl
le_trans (negsuc a) (negsuc b) (negsuc c) h k = le-leb c a (omega (arith, leb-true b a h, leb-true c b k))

-- of two numbers one is no higher
upto : (a b : ℤ) → int_le b a ≡ false → int_le a b ≡ true
upto (pos a) (pos b) e = le-leb a b (omega (arith, leb-false b a e))
upto (pos a) (negsuc b) e = absurd (cc)
upto (negsuc a) (pos b) e = refl
upto (negsuc a) (negsuc b) e = le-leb b a (omega (arith, leb-false a b e))

-- b ≤ c and a < b
below_low : (a b c : ℤ) → int_le b a ≡ false → int_le b c ≡ true → int_le c a ≡ false
below_low a b c h k = false_from_ne_true (int_le c a) (λ e. both_ways (int_le b a) h (le_trans b c a k e))

-- a ≤ b and b < c
below_high : (a b c : ℤ) → int_le a b ≡ true → int_le c b ≡ false → int_le c a ≡ false
below_high a b c h k = false_from_ne_true (int_le c a) (λ e. both_ways (int_le c b) k (le_trans c a b e h))

-- each begins above this number
abbrev AllAbove : ℤ → List Interval → Type 0
AllAbove z [] = ⊤
AllAbove z (i ∷ is) = (int_le i.low z ≡ false) × AllAbove z is

lower : (y z : ℤ) (is : List Interval) → int_le y z ≡ true → AllAbove z is → AllAbove y is
lower y z [] h k = tt
lower y z (i ∷ is) h k = (below_high y z i.low h k.0, lower y z is h k.1)

rest_ascends : (i : Interval) (is : List Interval) → ascend (i ∷ is) ≡ true → ascend is ≡ true
rest_ascends i is h = (and_parts (ends_below i is) (ascend is) (and_parts (int_le i.low i.high) (ends_below i is && ascend is) h).1).1

is_whole : (i : Interval) (is : List Interval) → ascend (i ∷ is) ≡ true → int_le i.low i.high ≡ true
is_whole i is h = (and_parts (int_le i.low i.high) (ends_below i is && ascend is) h).0

all_above : (i : Interval) (is : List Interval) → ascend (i ∷ is) ≡ true → AllAbove i.high is
all_above i [] h = tt
all_above i (j ∷ js) h =
    let next = not-true (int_le j.low i.high) (and_parts (ends_below i (j ∷ js)) (ascend (j ∷ js)) (and_parts (int_le i.low i.high) (ends_below i (j ∷ js) && ascend (j ∷ js)) h).1).0 in
    let more = rest_ascends i (j ∷ js) h in
    (next, lower i.high j.high js (le_trans i.high j.low j.high (upto i.high j.low next) (is_whole j js more)) (all_above j js more))

-- what lies in one of those that begin above begins above
above_one : (z : ℤ) (i : Interval) (bs : List Interval) → AllAbove z bs → list_any (lies_in i) bs ≡ true → int_le i.low z ≡ false
above_one z i [] k h = absurd (cc)
above_one z i (b ∷ bs) k h = by_cases (or_cases (lies_in i b) (list_any (lies_in i) bs) h) (above_one z i bs k.1)
  where
    by_cases : (lies_in i b ≡ true) ⊎ (list_any (lies_in i) bs ≡ true) → (list_any (lies_in i) bs ≡ true → int_le i.low z ≡ false) → int_le i.low z ≡ false
    by_cases (inl e) more = below_low z b.low i.low k.0 (and_parts (int_le b.low i.low) (int_le i.high b.high) e).0
    by_cases (inr e) more = more e

-- one among those that begin above this number
among_above : (z : ℤ) (xs : List Interval) (m : Interval) (ys : List Interval) → AllAbove z (xs ++ m ∷ ys) → int_le m.low z ≡ false
among_above z [] m ys k = k.0
among_above z (x ∷ xs) m ys k = among_above z xs m ys k.1

whole_at : (xs : List Interval) (m : Interval) (ys : List Interval) → ascend (xs ++ m ∷ ys) ≡ true → int_le m.low m.high ≡ true
whole_at [] m ys up = is_whole m ys up
whole_at (x ∷ xs) m ys up = whole_at xs m ys (rest_ascends x (xs ++ m ∷ ys) up)

-- the lower ones end below where it begins
lower_none : (i : Interval) (xs : List Interval) (m : Interval) (ys : List Interval) → ascend (xs ++ m ∷ ys) ≡ true → int_le i.low i.high ≡ true → int_le i.low m.high ≡ false → list_any (lies_in i) xs ≡ false
lower_none i [] m ys up whole h = refl
lower_none i (x ∷ xs) m ys up whole h =
    let rest = rest_ascends x (xs ++ m ∷ ys) up in
    let begins = among_above x.high xs m ys (all_above x (xs ++ m ∷ ys) up) in
    let ends = le_trans x.high m.low m.high (upto x.high m.low begins) (whole_at xs m ys rest) in
    let apart = below_low x.high i.low i.high (below_high x.high m.high i.low ends h) whole in
    or_from (lies_in i x) (list_any (lies_in i) xs)
    (and_right (int_le x.low i.low) (int_le i.high x.high) apart)
    (lower_none i xs m ys rest whole h)

-- the higher ones begin above where the middle one ends
higher_none : (i m : Interval) (ys : List Interval) → ascend (m ∷ ys) ≡ true → int_le i.low m.high ≡ true → list_any (lies_in i) ys ≡ false
higher_none i m ys up h = false_from_ne_true (list_any (lies_in i) ys) (λ e. both_ways (int_le i.low m.high) (above_one m.high i ys (all_above m ys up) e) h)

any_parts : (i : Interval) (xs : List Interval) (m : Interval) (ys : List Interval) → lies_in i m ≡ false → list_any (lies_in i) (xs ++ m ∷ ys) ≡ (list_any (lies_in i) xs || list_any (lies_in i) ys)
any_parts i [] m ys h = ap (λ (t : Bool). t || list_any (lies_in i) ys) h
any_parts i (x ∷ xs) m ys h = ap (λ (t : Bool). lies_in i x || t) (any_parts i xs m ys h) ∙ grouped (lies_in i x) (list_any (lies_in i) xs) (list_any (lies_in i) ys)
  where
    grouped : (a b c : Bool) → (a || (b || c)) ≡ ((a || b) || c)
    grouped true b c = refl
    grouped false b c = refl

nothing_more : (a b : Bool) → b ≡ false → (a || b) ≡ a
nothing_more true b h = refl
nothing_more false b h = h

front_ascends : (xs ys : List Interval) → ascend (xs ++ ys) ≡ true → ascend xs ≡ true
front_ascends [] ys up = refl
front_ascends (x ∷ xs) ys up =
    let parts = and_parts (int_le x.low x.high) (ends_below x (xs ++ ys) && ascend (xs ++ ys)) up in
    let more = and_parts (ends_below x (xs ++ ys)) (ascend (xs ++ ys)) parts.1 in
    and_from (int_le x.low x.high) (ends_below x xs && ascend xs) parts.0
    (and_from (ends_below x xs) (ascend xs) (shorter x xs ys more.0) (front_ascends xs ys more.1))
  where
    shorter : (i : Interval) (zs ws : List Interval) → ends_below i (zs ++ ws) ≡ true → ends_below i zs ≡ true
    shorter i [] ws h = refl
    shorter i (z ∷ zs) ws h = h

back_ascends : (xs ys : List Interval) → ascend (xs ++ ys) ≡ true → ascend ys ≡ true
back_ascends [] ys up = up
back_ascends (x ∷ xs) ys up = back_ascends xs ys (rest_ascends x (xs ++ ys) up)

pub parted : (f : Span → Interval) (rest lower higher : List Span) (middle : Span) → rest ≡ lower ++ middle ∷ higher → map f rest ≡ map f lower ++ f middle ∷ map f higher
parted f rest lower higher middle e = ap (map f) e ∙ map-append f lower (middle ∷ higher)

pub go_lower : (i : Interval) (rest xs : List Interval) (m : Interval) (ys : List Interval) → rest ≡ xs ++ m ∷ ys → ascend rest ≡ true → lies_in i m ≡ false → int_le i.low m.high ≡ true → (list_any (lies_in i) xs ≡ list_any (lies_in i) rest) × (ascend xs ≡ true)
go_lower i rest xs m ys e up off h =
    let all = subst (λ (zs : List Interval). ascend zs ≡ true) e up in (
      sym (ap (list_any (lies_in i)) e ∙ any_parts i xs m ys off ∙ nothing_more (list_any (lies_in i) xs) (list_any (lies_in i) ys) (higher_none i m ys (back_ascends xs (m ∷ ys) all) h)),
      front_ascends xs (m ∷ ys) all,
    )

pub go_higher : (i : Interval) (rest xs : List Interval) (m : Interval) (ys : List Interval) → rest ≡ xs ++ m ∷ ys → ascend rest ≡ true → lies_in i m ≡ false → int_le i.low i.high ≡ true → int_le i.low m.high ≡ false → (list_any (lies_in i) ys ≡ list_any (lies_in i) rest) × (ascend ys ≡ true)
go_higher i rest xs m ys e up off whole h =
    let all = subst (λ (zs : List Interval). ascend zs ≡ true) e up in (
      sym (ap (list_any (lies_in i)) e ∙ any_parts i xs m ys off ∙ ap (λ (t : Bool). t || list_any (lies_in i) ys) (lower_none i xs m ys all whole h)),
      rest_ascends m ys (back_ascends xs (m ∷ ys) all),
    )
