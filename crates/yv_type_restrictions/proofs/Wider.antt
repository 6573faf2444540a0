-- What lies in intervals within others lies in those; so a value of what is left is a value of the
-- type.
use Rattle.std.proofs.Common.{◌≡◌, ℕ, ℤ, pos, negsuc, Bool, true, false, ◌&&◌, ◌||◌, inl, inr, List, [], ◌∷◌, ◌++◌, length, codes, Option, Some, None, refl, sym, ◌∙◌, subst, arith}
use Rattle.std.specs.Prelude.{int_le, option_and_then, if◌then◌else◌, Ok, Err}
use Rattle.std.specs.List.{list_all, list_any}
use Rattle.std.specs.Str.{chars}
use Rattle.std.proofs.lemmas.Bool.{and_parts, and_from, or_cases, leb-true, le-leb}
use Rattle.std.proofs.lemmas.List.Folds.{list_all-append}
use Rattle.yv_text_statement.specs.Legal.{all_legal}
use Rattle.yv_text_statement.specs.Tree.{Tree}
use Rattle.yv_base_numbers.specs.Intervals.{Interval, has, are_among}
use Rattle.yv_base_numbers.specs.RestrictedIntervals.{lies_in, lie_within}
use Rattle.yv_base_numbers.specs.Numbers.{based_integer_of, scaled_of}
use Rattle.yv_values.specs.Reads.{whole_in, decimal_in}
use Rattle.yv_values.specs.Scopes.{Place, text_value}
use Rattle.yv_values.specs.Texts.{text_in, binary_in, passes}
use Rattle.yv_values.specs.Types.{Plain, Test, wholes, decimals, strings, booleans, names, flags, octets, identities, empties}
use Rattle.yv_values.specs.Values.{Val, whole, decimal, text, binary}
use Rattle.yv_type_restrictions.specs.Facets.{child, Leaves, Narrows}

le_trans : (a b c : ℤ) → int_le a b ≡ true → int_le b c ≡ true → int_le a c ≡ true
le_trans (pos a) (pos b) (pos c) h k = le-leb a c (omega (arith, leb-true a b h, leb-true b c k))
le_trans (pos a) (pos b) (negsuc c) h k = absurd (cc)
le_trans (pos a) (negsuc b) c h k = absurd (cc)
le_trans (negsuc a) (pos b) (pos c) h k = refl
le_trans (negsuc a) (pos b) (negsuc c) h k = absurd (cc)
le_trans (negsuc a) (negsuc b) (pos c) h k = refl
le_trans (negsuc a) (negsuc b) (negsuc c) h k = le-leb c a (omega (arith, leb-true b a h, leb-true c b k))

-- what lies in an interval that lies in another
has_wider : (z : ℤ) (i b : Interval) → lies_in i b ≡ true → has z i ≡ true → has z b ≡ true
has_wider z i b within h =
    let lies = and_parts (int_le b.low i.low) (int_le i.high b.high) within in
    let ends = and_parts (int_le i.low z) (int_le z i.high) h in
    and_from (int_le b.low z) (int_le z b.high) (le_trans b.low i.low z lies.0 ends.0) (le_trans z i.high b.high ends.1 lies.1)

-- a Bool that is true where either is
or_left : (a b : Bool) → a ≡ true → (a || b) ≡ true
or_left true b e = refl
or_left false b e = absurd (cc)

or_right : (a b : Bool) → b ≡ true → (a || b) ≡ true
or_right true b e = refl
or_right false b e = e

one_has : (z : ℤ) (i : Interval) (bs : List Interval) → list_any (lies_in i) bs ≡ true → has z i ≡ true → are_among bs z ≡ true
one_has z i [] e h = absurd (cc)
one_has z i (b ∷ bs) e h = elim (or_cases (lies_in i b) (list_any (lies_in i) bs) e) [
  | inl f ↦ or_left (has z b) (are_among bs z) (has_wider z i b f h)
  | inr g ↦ or_right (has z b) (are_among bs z) (one_has z i bs g h)
]

among_wider : (z : ℤ) (base is : List Interval) → lie_within base is ≡ true → are_among is z ≡ true → are_among base z ≡ true
among_wider z base [] w h = absurd (cc)
among_wider z base (i ∷ is) w h =
    let parts = and_parts (list_any (lies_in i) base) (lie_within base is) w in
    elim (or_cases (has z i) (are_among is z) h) [
      | inl f ↦ one_has z i base parts.0 f
      | inr g ↦ among_wider z base is parts.1 g
    ]

left_wider : (digits : Option ℕ) (base : List Interval) (c : Option Tree) (is : List Interval) (z : ℤ) → Leaves digits base c is → are_among is z ≡ true → are_among base z ≡ true
left_wider digits base None is z l h = subst (λ (js : List Interval). are_among js z ≡ true) l h
left_wider digits base (Some c) is z (inl r) h = among_wider z base is r.within h
left_wider digits base (Some c) is z (inr l) h = subst (λ (js : List Interval). are_among js z ≡ true) l.1 h

-- a value under one test stands under a wider one
if_wider : {X : Type 0} (a b : Bool) (x v : X) → (a ≡ true → b ≡ true) → (if a then Some x else None) ≡ Some v → (if b then Some x else None) ≡ Some v
if_wider true b x v f e = subst (λ (t : Bool). (if t then Some x else None) ≡ Some v) (sym (f refl)) e
if_wider false b x v f e = absurd (cc)

then_wider : {X : Type 0} (f g : X → Option Val) (o : Option X) (v : Val) → ((x : X) → f x ≡ Some v → g x ≡ Some v) → option_and_then f o ≡ Some v → option_and_then g o ≡ Some v
then_wider f g None v h e = e
then_wider f g (Some x) v h e = h x e

whole_wider : (base is : List Interval) → ((z : ℤ) → are_among is z ≡ true → are_among base z ≡ true) → (z : ℤ) (v : Val) → whole_in is z ≡ Some v → whole_in base z ≡ Some v
whole_wider base is f z v e = if_wider (are_among is z) (are_among base z) (whole z) v (f z) e

decimal_wider : (digits : ℕ) (base is : List Interval) → ((z : ℤ) → are_among is z ≡ true → are_among base z ≡ true) → (z : ℤ) (v : Val) → decimal_in digits is z ≡ Some v → decimal_in digits base z ≡ Some v
decimal_wider digits base is f z v e = if_wider (are_among is z) (are_among base z) (decimal digits z) v (f z) e

text_wider : (ls ms : List Interval) (ts us : List Test) → ((z : ℤ) → are_among ms z ≡ true → are_among ls z ≡ true) → (s : List ℕ) (v : Val) → text_in ms (ts ++ us) s ≡ Some v → text_in ls ts s ≡ Some v
text_wider ls ms ts us f s v e = if_wider (are_among ms (pos (length (chars s))) && (all_legal (chars s) && list_all (passes s) (ts ++ us))) (are_among ls (pos (length (chars s))) && (all_legal (chars s) && list_all (passes s) ts)) (text s) v fewer e
  where
    fewer : (are_among ms (pos (length (chars s))) && (all_legal (chars s) && list_all (passes s) (ts ++ us))) ≡ true → (are_among ls (pos (length (chars s))) && (all_legal (chars s) && list_all (passes s) ts)) ≡ true
    fewer h =
        let parts = and_parts (are_among ms (pos (length (chars s)))) (all_legal (chars s) && list_all (passes s) (ts ++ us)) h in
        let more = and_parts (all_legal (chars s)) (list_all (passes s) (ts ++ us)) parts.1 in
        let first = and_parts (list_all (passes s) ts) (list_all (passes s) us) (sym (list_all-append (passes s) ts us) ∙ more.1) in
        and_from (are_among ls (pos (length (chars s)))) (all_legal (chars s) && list_all (passes s) ts) (f (pos (length (chars s))) parts.0)
        (and_from (all_legal (chars s)) (list_all (passes s) ts) more.0 first.0)

binary_wider : (ls ms : List Interval) → ((z : ℤ) → are_among ms z ≡ true → are_among ls z ≡ true) → (o : _) (v : Val) → binary_in ms o ≡ Some v → binary_in ls o ≡ Some v
binary_wider ls ms f (Ok bytes) v e = if_wider (are_among ms (pos (length bytes))) (are_among ls (pos (length bytes))) (binary bytes) v (f (pos (length bytes))) e
binary_wider ls ms f (Err x) v e = e

pub value_of_type : (t : Tree) (p q : Plain) (s : List ℕ) (place : Place) (v : Val) → Narrows t p q → text_value q s place ≡ Some v → text_value p s place ≡ Some v
value_of_type t (wholes b is) q s place v n e =
    then_wider (whole_in n.0) (whole_in is) (based_integer_of s) v (λ z. whole_wider is n.0 (λ y. left_wider None is (child (codes "range") t) n.0 y n.1) z v)
    (subst (λ (x : Plain). text_value x s place ≡ Some v) n.2 e)
value_of_type t (decimals d is) q s place v n e =
    then_wider (decimal_in d n.0) (decimal_in d is) (scaled_of d s) v (λ z. decimal_wider d is n.0 (λ y. left_wider (Some d) is (child (codes "range") t) n.0 y n.1) z v)
    (subst (λ (x : Plain). text_value x s place ≡ Some v) n.2 e)
value_of_type t (strings ls ts) q s place v n e =
    text_wider ls n.0 ts n.1 (λ y. left_wider None ls (child (codes "length") t) n.0 y n.2) s v
    (subst (λ (x : Plain). text_value x s place ≡ Some v) n.4 e)
value_of_type t booleans q s place v n e = subst (λ (x : Plain). text_value x s place ≡ Some v) n e
value_of_type t (names ns) q s place v n e = subst (λ (x : Plain). text_value x s place ≡ Some v) n e
value_of_type t (flags ns) q s place v n e = subst (λ (x : Plain). text_value x s place ≡ Some v) n e
value_of_type t (octets ls) q s place v n e =
    binary_wider ls n.0 (λ y. left_wider None ls (child (codes "length") t) n.0 y n.1) _ v
    (subst (λ (x : Plain). text_value x s place ≡ Some v) n.2 e)
value_of_type t (identities ids) q s place v n e = subst (λ (x : Plain). text_value x s place ≡ Some v) n e
value_of_type t empties q s place v n e = subst (λ (x : Plain). text_value x s place ≡ Some v) n e
