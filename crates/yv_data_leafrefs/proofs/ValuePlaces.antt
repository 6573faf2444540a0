-- Where the values are that a walk meets: in which objects, by the numbers of these.
use Rattle.std.proofs.Common.{◌≡◌, ℕ, ◌+◌, ◌<◌, ◌≤◌, ◌⊎◌, inl, inr, List, [], ◌∷◌, ◌++◌, Bool, true, false, ◌==◌, ◌&&◌, ◌||◌, nat_le, Option, refl, sym, ap, subst, ◌∙◌, arith}
use Rattle.std.proofs.lemmas.Bool.Decides.{nat_tests}
use Rattle.std.proofs.lemmas.Grind.{flat_map-append}
use Rattle.std.proofs.lemmas.List.Sums.{sum_by-append, sum_by-cons}
use Rattle.std.specs.List.{AllByRecursion, flat_map}
use Rattle.serde_json.specs.Data.{Data, null, boolean, number, string, array, object, Members}
use Rattle.yv_values.specs.Values.{Val}
use Rattle.yv_nodes.specs.Rows.{Rows}
use Rattle.yv_nodes.specs.Tree.{Forest, Label}
use Rattle.yv_nodes.specs.declared.node.NodeId.{NodeId}
use Rattle.yv_data_leafrefs.specs.Meetings.{at, count_entered, entered_at, in_no_object, is_entered, Meeting, stand, at_value, at_end, at_node, Spot, Stand}
use Rattle.yv_data_leafrefs.specs.Values.{ValueAt, values_of_node, values_at, values_in}
use Rattle.yv_data_leafrefs.specs.Findings.{first_of}
use Rattle.yv_data_leafrefs.specs.References.{is_in}
use Rattle.yv_data_leafrefs.proofs.WalkInduction.{Closed, entered_stand, IsPlain}

-- ---- lists

pub all_append : {X : Type 0} (P : X → Type 0) (xs ys : List X) → AllByRecursion P xs → AllByRecursion P ys → AllByRecursion P (xs ++ ys)
all_append P [] ys p q = q
all_append P (x ∷ xs) ys p q = (p.0, all_append P xs ys p.1 q)

pub all_first : {X : Type 0} (P : X → Type 0) (xs ys : List X) → AllByRecursion P (xs ++ ys) → AllByRecursion P xs
all_first P [] ys p = tt
all_first P (x ∷ xs) ys p = (p.0, all_first P xs ys p.1)

pub all_rest : {X : Type 0} (P : X → Type 0) (xs ys : List X) → AllByRecursion P (xs ++ ys) → AllByRecursion P ys
all_rest P [] ys p = p
all_rest P (x ∷ xs) ys p = all_rest P xs ys p.1

pub all_weaker : {X : Type 0} (P Q : X → Type 0) (xs : List X) → ((x : X) → P x → Q x) → AllByRecursion P xs → AllByRecursion Q xs
all_weaker P Q [] f p = tt
all_weaker P Q (x ∷ xs) f p = (f x p.0, all_weaker P Q xs f p.1)

pub all_both : {X : Type 0} (P Q R : X → Type 0) (xs : List X) → ((x : X) → P x → Q x → R x) → AllByRecursion P xs → AllByRecursion Q xs → AllByRecursion R xs
all_both P Q R [] f p q = tt
all_both P Q R (x ∷ xs) f p q = (f x p.0 q.0, all_both P Q R xs f p.1 q.1)

pub values_append : (xs ys : List Meeting) → values_in (xs ++ ys) ≡ values_in xs ++ values_in ys
values_append xs ys = flat_map-append values_at xs ys

pub entered_append : (xs ys : List Meeting) → count_entered (xs ++ ys) ≡ count_entered xs + count_entered ys
entered_append xs ys = sum_by-append entered_at xs ys

-- ---- the objects that are entered, each with its number and the number of the last object in it

pub record End : Type 0 where
  pub number : ℕ
  pub last : ℕ

abbrev pub ends_of : Stand → Data → List End
ends_of m (object ms) = record { number = first_of m.spot.around; last = m.last } ∷ []
ends_of m _ = []

abbrev pub ends_at : Meeting → List End
ends_at (stand m) = ends_of m m.found
ends_at _ = []

abbrev pub ends_in : List Meeting → List End
ends_in ms = flat_map ends_at ms

pub ends_append : (xs ys : List Meeting) → ends_in (xs ++ ys) ≡ ends_in xs ++ ends_in ys
ends_append xs ys = flat_map-append ends_at xs ys

none_entered : (m : Stand) (d : Data) → is_entered d ≡ 0 → ends_of m d ≡ []
none_entered m (object ms) p = absurd (omega (arith, p))
none_entered m null p = refl
none_entered m (boolean x) p = refl
none_entered m (number x) p = refl
none_entered m (string x) p = refl
none_entered m (array x) p = refl

no_ends : (m : Meeting) (s : Rows) (spot : Spot) → IsPlain s spot m → ends_at m ≡ []
no_ends (stand m) s spot p = none_entered m m.found p
no_ends (at_value m) s spot p = refl
no_ends (at_end m) s spot p = refl
no_ends (at_node m) s spot p = refl

-- ---- what is around a value

-- these are the objects around something that is met at a spot, where the next object has this
-- number, and so many are entered
pub record IsNear (spot : Spot) (next size : ℕ) (around : List ℕ) : Type 0 where
  pub place : (first_of around ≡ first_of spot.around) ⊎ ((next ≤ first_of around) × (first_of around < next + size))
  pub outer : (n : ℕ) → n < next → is_in around n ≡ is_in spot.around n
  pub beyond : (n : ℕ) → next + size ≤ n → is_in around n ≡ false

-- all objects around the spot have lower numbers than the next
pub record IsBefore (spot : Spot) (next : ℕ) : Type 0 where
  pub first : first_of spot.around < next
  pub beyond : (n : ℕ) → next ≤ n → is_in spot.around n ≡ false

near_self : (spot : Spot) (next size : ℕ) → IsBefore spot next → IsNear spot next size spot.around
near_self spot next size b = record { place = inl refl; outer = λ n lt. refl; beyond = λ n le. b.beyond n (omega (arith, le)) }

near_part : (spot : Spot) (next size from less : ℕ) (around : List ℕ) → next ≤ from → from + less ≤ next + size → IsNear spot from less around → IsNear spot next size around
near_part spot next size from less around a b h = record {
  place = elim h.place [ inl e ↦ inl e | inr p ↦ inr (omega (arith, a, p.0), omega (arith, b, p.1)) ];
  outer = λ n lt. h.outer n (omega (arith, a, lt));
  beyond = λ n le. h.beyond n (omega (arith, b, le));
}

other : (n m : ℕ) → n < m → (m == n) ≡ false
other n m lt = grind (arith, nat_tests)

over : (n m : ℕ) → m < n → (m == n) ≡ false
over n m lt = grind (arith, nat_tests)

-- inside an object with the next number
near_inside : (spot inner : Spot) (next size : ℕ) (around : List ℕ) → inner.around ≡ next ∷ spot.around → IsNear inner (next + 1) size around → IsNear spot next (1 + size) around
near_inside spot inner next size around is h = record {
  place = elim h.place [
    | inl e ↦ let here : first_of around ≡ next = e ∙ ap first_of is in inr (omega (arith, here), omega (arith, here))
    | inr p ↦ inr (omega (arith, p.0), omega (arith, p.1))
  ];
  outer = λ n lt. h.outer n (omega (arith, lt)) ∙ ap (λ ns. is_in ns n) is ∙ ap (λ (b : Bool). b || is_in spot.around n) (other n next lt);
  beyond = λ n le. h.beyond n (omega (arith, le));
}

before_inside : (spot inner : Spot) (next : ℕ) → inner.around ≡ next ∷ spot.around → IsBefore spot next → IsBefore inner (next + 1)
before_inside spot inner next is b = record {
  first = let here : first_of inner.around ≡ next = ap first_of is in omega (arith, here);
  beyond = λ n le. ap (λ ns. is_in ns n) is ∙ ap (λ (c : Bool). c || is_in spot.around n) (over n next (omega (arith, le))) ∙ b.beyond n (omega (arith, le));
}

-- an object is around a value exactly where the value is between the object and the last one in it
abbrev pub Parts : End → ValueAt → Type 0
Parts e v = is_in v.spot.around e.number ≡ (nat_le e.number (first_of v.spot.around) && nat_le (first_of v.spot.around) e.last)

abbrev pub PartsAll : List ValueAt → End → Type 0
PartsAll vs e = AllByRecursion (Parts e) vs

-- what is met at a spot
pub record IsPlaced (spot : Spot) (next : ℕ) (ms : List Meeting) : Type 0 where
  pub ends : AllByRecursion (λ (e : End). (next ≤ e.number) × (e.number ≤ e.last) × (e.last < next + count_entered ms)) (ends_in ms)
  pub near : AllByRecursion (λ (v : ValueAt). IsNear spot next (count_entered ms) v.spot.around) (values_in ms)
  pub parted : AllByRecursion (PartsAll (values_in ms)) (ends_in ms)

abbrev pub Placed : Spot → ℕ → List Meeting → Type 0
Placed spot next ms = IsBefore spot next → IsPlaced spot next ms

-- ---- the parts

off_first : (c d : Bool) → c ≡ false → (c && d) ≡ false
off_first true d e = absurd (cc)
off_first false d e = refl

off_second : (c d : Bool) → d ≡ false → (c && d) ≡ false
off_second true d e = e
off_second false d e = refl

on_both : (c d : Bool) → c ≡ true → d ≡ true → true ≡ (c && d)
on_both true true e f = refl
on_both true false e f = absurd (cc)
on_both false d e f = absurd (cc)

low : (a b p : ℕ) → p < a → (nat_le a p && nat_le p b) ≡ false
low a b p lt = off_first (nat_le a p) (nat_le p b) (grind (arith, nat_tests))

high : (a b p : ℕ) → b < p → (nat_le a p && nat_le p b) ≡ false
high a b p lt = off_second (nat_le a p) (nat_le p b) (grind (arith, nat_tests))

pub within : (a b p : ℕ) → a ≤ p → p ≤ b → true ≡ (nat_le a p && nat_le p b)
within a b p le less = on_both (nat_le a p) (nat_le p b) (grind (arith, nat_tests)) (grind (arith, nat_tests))

pub same_number : (n : ℕ) → (n == n) ≡ true
same_number n = grind (arith, nat_tests)

or_true : (b c : Bool) → b ≡ true → (b || c) ≡ true
or_true true c e = refl
or_true false c e = absurd (cc)

-- an object, and a value after it
apart_behind : (spot : Spot) (next a c : ℕ) (e : End) (v : ValueAt) → IsBefore spot next → next ≤ e.number → e.number ≤ e.last → e.last < next + a → IsNear spot (next + a) c v.spot.around → Parts e v
apart_behind spot next a c e v b from order to near =
    (near.outer e.number (omega (arith, order, to)) ∙ b.beyond e.number from)
    ∙ sym (elim near.place [
      | inl same ↦ low e.number e.last (first_of v.spot.around) (let f = b.first in omega (arith, same, f, from))
      | inr p ↦ high e.number e.last (first_of v.spot.around) (omega (arith, p.0, to))
    ])

-- an object, and a value before it
apart_before : (spot : Spot) (next a : ℕ) (e : End) (v : ValueAt) → IsBefore spot next → next + a ≤ e.number → IsNear spot next a v.spot.around → Parts e v
apart_before spot next a e v b from near =
    near.beyond e.number from
    ∙ sym (elim near.place [
      | inl same ↦ low e.number e.last (first_of v.spot.around) (let f = b.first in omega (arith, same, f, from))
      | inr p ↦ low e.number e.last (first_of v.spot.around) (omega (arith, p.1, from))
    ])

-- a value in an object
parts_inside : (spot inner : Spot) (next size : ℕ) (v : ValueAt) → inner.around ≡ next ∷ spot.around → IsNear inner (next + 1) size v.spot.around
    → Parts (record { number = next; last = next + size }) v
parts_inside spot inner next size v is near =
    (near.outer next (omega arith) ∙ ap (λ ns. is_in ns next) is ∙ or_true (next == next) (is_in spot.around next) (same_number next))
    ∙ elim near.place [
      | inl e ↦ let here : first_of v.spot.around ≡ next = e ∙ ap first_of is in within next (next + size) (first_of v.spot.around) (omega (arith, here)) (omega (arith, here))
      | inr p ↦ within next (next + size) (first_of v.spot.around) (omega (arith, p.0)) (omega (arith, p.1))
    ]

abbrev pub AreWithin : ℕ → ℕ → End → Type 0
AreWithin next size e = (next ≤ e.number) × (e.number ≤ e.last) × (e.last < next + size)

none_placed : (spot : Spot) (next : ℕ) → Placed spot next []
none_placed spot next b = record { ends = tt; near = tt; parted = tt }

before_later : (spot : Spot) (next a : ℕ) → IsBefore spot next → IsBefore spot (next + a)
before_later spot next a b = record { first = let f = b.first in omega (arith, f); beyond = λ n le. b.beyond n (omega (arith, le)) }

both_placed : (spot : Spot) (next : ℕ) (xs ys : List Meeting) → Placed spot next xs → Placed spot (next + count_entered xs) ys → Placed spot next (xs ++ ys)
both_placed spot next xs ys f g b =
    let a : ℕ = count_entered xs in
    let c : ℕ = count_entered ys in
    let size : count_entered (xs ++ ys) ≡ a + c = entered_append xs ys in
    let p : IsPlaced spot next xs = f b in
    let q : IsPlaced spot (next + a) ys = g (before_later spot next a b) in
    let vs : values_in (xs ++ ys) ≡ values_in xs ++ values_in ys = values_append xs ys in
    let es : ends_in (xs ++ ys) ≡ ends_in xs ++ ends_in ys = ends_append xs ys in
    record {
      ends = subst (λ (zs : List End). AllByRecursion (AreWithin next (count_entered (xs ++ ys))) zs) (sym es)
          (all_append (AreWithin next (count_entered (xs ++ ys))) (ends_in xs) (ends_in ys)
          (all_weaker (AreWithin next a) (AreWithin next (count_entered (xs ++ ys))) (ends_in xs) (λ e h. (h.0, h.1, omega (arith, h.2, size))) p.ends)
          (all_weaker (AreWithin (next + a) c) (AreWithin next (count_entered (xs ++ ys))) (ends_in ys) (λ e h. (omega (arith, h.0), h.1, omega (arith, h.2, size))) q.ends));
      near = subst (λ (zs : List ValueAt). AllByRecursion (λ (v : ValueAt). IsNear spot next (count_entered (xs ++ ys)) v.spot.around) zs) (sym vs)
          (all_append (λ (v : ValueAt). IsNear spot next (count_entered (xs ++ ys)) v.spot.around) (values_in xs) (values_in ys)
          (all_weaker (λ (v : ValueAt). IsNear spot next a v.spot.around) (λ (v : ValueAt). IsNear spot next (count_entered (xs ++ ys)) v.spot.around) (values_in xs)
          (λ v h. near_part spot next (count_entered (xs ++ ys)) next a v.spot.around (omega arith) (omega (arith, size)) h) p.near)
          (all_weaker (λ (v : ValueAt). IsNear spot (next + a) c v.spot.around) (λ (v : ValueAt). IsNear spot next (count_entered (xs ++ ys)) v.spot.around) (values_in ys)
          (λ v h. near_part spot next (count_entered (xs ++ ys)) (next + a) c v.spot.around (omega arith) (omega (arith, size)) h) q.near));
      parted = subst (λ (zs : List ValueAt). AllByRecursion (PartsAll zs) (ends_in (xs ++ ys))) (sym vs)
          (subst (λ (zs : List End). AllByRecursion (PartsAll (values_in xs ++ values_in ys)) zs) (sym es)
          (all_append (PartsAll (values_in xs ++ values_in ys)) (ends_in xs) (ends_in ys)
          (all_both (AreWithin next a) (PartsAll (values_in xs)) (PartsAll (values_in xs ++ values_in ys)) (ends_in xs)
          (λ e h k. all_append (Parts e) (values_in xs) (values_in ys) k
          (all_weaker (λ (v : ValueAt). IsNear spot (next + a) c v.spot.around) (Parts e) (values_in ys) (λ v n. apart_behind spot next a c e v b h.0 h.1 h.2 n) q.near)) p.ends p.parted)
          (all_both (AreWithin (next + a) c) (PartsAll (values_in ys)) (PartsAll (values_in xs ++ values_in ys)) (ends_in ys)
          (λ e h k. all_append (Parts e) (values_in xs) (values_in ys)
          (all_weaker (λ (v : ValueAt). IsNear spot next a v.spot.around) (Parts e) (values_in xs) (λ v n. apart_before spot next a e v b h.0 n) p.near) k) q.ends q.parted)));
    }

all_valued : (P : ValueAt → Type 0) (n : NodeId) (l : Label) (spot : Spot) (vs : List Val) → ((v : ValueAt) → v.spot ≡ spot → P v) → AllByRecursion P (values_of_node n l spot vs)
all_valued P n l spot [] f = tt
all_valued P n l spot (v ∷ vs) f = (f (record { node = n.0; kind = l.defined.kind; value = v; spot = spot }) refl, all_valued P n l spot vs f)

values_here : (P : ValueAt → Type 0) (s : Rows) (spot : Spot) (m : Meeting) → IsPlain s spot m → ((v : ValueAt) → v.spot ≡ spot → P v) → AllByRecursion P (values_at m)
values_here P s spot (stand m) p f = tt
values_here P s spot (at_value m) p f = all_valued P m.node m.label m.spot _ (λ v e. f v (e ∙ p.0))
values_here P s spot (at_end m) p f = tt
values_here P s spot (at_node m) p f = all_valued P m.node m.label m.spot _ (λ v e. f v (e ∙ p.0))

plain_placed : (s : Rows) (spot : Spot) (next : ℕ) (m : Meeting) → IsPlain s spot m → Placed spot next (m ∷ [])
plain_placed s spot next m p b =
    let es : ends_in (m ∷ []) ≡ [] = ap (λ zs. zs ++ []) (no_ends m s spot p) in
    record {
      ends = subst (λ (zs : List End). AllByRecursion (AreWithin next (count_entered (m ∷ []))) zs) (sym es) tt;
      near = all_append (λ (v : ValueAt). IsNear spot next (count_entered (m ∷ [])) v.spot.around) (values_at m) []
          (values_here (λ (v : ValueAt). IsNear spot next (count_entered (m ∷ [])) v.spot.around) s spot m p
          (λ v e. subst (λ (at : Spot). IsNear spot next (count_entered (m ∷ [])) at.around) (sym e) (near_self spot next (count_entered (m ∷ [])) b))) tt;
      parted = subst (λ (zs : List End). AllByRecursion (PartsAll (values_in (m ∷ []))) zs) (sym es) tt;
    }

object_placed : (spot : Spot) (next entry : ℕ) (n : NodeId) (l : Label) (i : Option ℕ) (kids : Forest) (ms : Members) (xs : List Meeting)
    → Placed (record { path = at spot l i; around = next ∷ spot.around; entry = entry }) (next + 1) xs
    → Placed spot next (entered_stand n i kids (record { path = at spot l i; around = next ∷ spot.around; entry = entry }) next ms xs ∷ xs)
object_placed spot next entry n l i kids ms xs f b =
    let inner : Spot = record { path = at spot l i; around = next ∷ spot.around; entry = entry } in
    let m : Meeting = entered_stand n i kids inner next ms xs in
    let size : count_entered (m ∷ xs) ≡ 1 + count_entered xs = sum_by-cons entered_at m xs in
    let p : IsPlaced inner (next + 1) xs = f (before_inside spot inner next refl b) in
    record {
      ends = (
        (omega arith, omega arith, omega (arith, size)),
        all_weaker (AreWithin (next + 1) (count_entered xs)) (AreWithin next (count_entered (m ∷ xs))) (ends_in xs) (λ e h. (omega (arith, h.0), h.1, omega (arith, h.2, size))) p.ends,
      );
      near = all_weaker (λ (v : ValueAt). IsNear inner (next + 1) (count_entered xs) v.spot.around) (λ (v : ValueAt). IsNear spot next (count_entered (m ∷ xs)) v.spot.around) (values_in xs)
          (λ v h. subst (λ k. IsNear spot next k v.spot.around) (sym size) (near_inside spot inner next (count_entered xs) v.spot.around refl h)) p.near;
      parted = (
        all_weaker (λ (v : ValueAt). IsNear inner (next + 1) (count_entered xs) v.spot.around) (Parts (record { number = next; last = next + count_entered xs })) (values_in xs)
            (λ v h. parts_inside spot inner next (count_entered xs) v refl h) p.near,
        p.parted,
      );
    }

absent_placed : (spot : Spot) (next : ℕ) (l : Label) (xs : List Meeting) → Placed (in_no_object spot l) next xs → Placed spot next xs
absent_placed spot next l xs f b =
    let p : IsPlaced (in_no_object spot l) next xs = f (record { first = b.first; beyond = b.beyond }) in
    record {
      ends = p.ends;
      near = all_weaker (λ (v : ValueAt). IsNear (in_no_object spot l) next (count_entered xs) v.spot.around) (λ (v : ValueAt). IsNear spot next (count_entered xs) v.spot.around) (values_in xs)
          (λ v h. record { place = h.place; outer = h.outer; beyond = h.beyond }) p.near;
      parted = p.parted;
    }

pub placed : (s : Rows) → Closed s Placed
placed s = record {
  none = none_placed;
  both = both_placed;
  plain = plain_placed s;
  object = λ spot next entry n l i kids ms xs is p. object_placed spot next entry n l i kids ms xs p;
  absent = λ spot next l xs none p. absent_placed spot next l xs p;
}
