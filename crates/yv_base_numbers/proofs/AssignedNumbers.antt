-- Entries that aren't wrong have the numbers that are assigned to them.
use Rattle.std.proofs.Common.{◌≡◌, ℕ, zero, suc, ◌+◌, ◌-◌, ◌<◌, ◌≤◌, ℤ, pos, Bool, true, false, not, ◌||◌, cond, List, [], ◌∷◌, ◌++◌, take, length, map, Option, Some, None, refl, sym, ◌∙◌, ap, subst, add-one, length-append, nat_lt, arith}
use Rattle.std.specs.Prelude.{option_map, slice_get, is_some, ◌≤ℤ◌, ◌+ℤ◌}
use Rattle.std.specs.List.{list_any}
use Rattle.std.specs.Str.{bytes_eq}
use Rattle.std.specs.Ordering.{int_eq}
use Rattle.std.specs.Int.{int_max}
use Rattle.std.specs.Option.{unwrap_or}
use Rattle.std.proofs.lemmas.Bool.{and_from, and_parts, both_ways, not-true}
use Rattle.std.specs.Bool.{Decides}
use Rattle.std.proofs.lemmas.Bool.Decides.{Decides-int_eq, nat_tests}
use Rattle.std.proofs.lemmas.Int.{ints}
use Rattle.std.proofs.lemmas.Option.{slice_get_within, slice_get-map}
use Rattle.std.proofs.lemmas.List.{take-append-le, take-map, length-take}
use Rattle.std.proofs.lemmas.Slice.Eq.{bytes_eq-Decides}
use Rattle.std.proofs.Math.Seq.{take-length}
use Rattle.yv_base_numbers.specs.Assignment.{names_of, AreDistinct, IsHighest, IsAssigned, own_number, first, next, IsOfKind, AreNumbers, StatesNoOther, without_number, same_number, AreKept}
use Rattle.yv_base_numbers.specs.Numberings.{Pair, number_in, is_taken, highest, highest_from, next_number, number_from, number_of, pair_of, is_number, is_free, is_wrong, pair_in, agrees, is_wrong_in, pairs_behind, number_entries, keep_numbers, IsFirstWrong}
use Rattle.yv_base_numbers.specs.declared.numbering.NumberKind.{NumberKind}
use Rattle.yv_base_numbers.specs.declared.numbering.NumberKind.TheVariants.{Enumeration, Bits}
use Rattle.yv_base_numbers.specs.Entries.{Entry, StatedNumber, nothing, whole, no_number}
use Rattle.yv_base_numbers.proofs.First.{behind_pushed}

-- it stands at no place
abbrev IsNoneOf : {X : Type 0} → List X → X → Type 0
IsNoneOf xs x = (k : ℕ) → slice_get xs k ≡ Some x → ⊥

-- an entry of a new type behind others with these names and numbers
record IsNumbered (kind : NumberKind) (names : List (List ℕ)) (before : List ℤ) (e : Entry) (n : ℤ) : Type 0 where
  name : IsNoneOf names e.name
  number : IsNoneOf before n
  kind_has : IsOfKind kind n
  assigned : IsAssigned before e.stated n

-- an entry of a derived type behind others with these names
record IsKept (base : List ℕ → Option ℤ) (names : List (List ℕ)) (e : Entry) (n : ℤ) : Type 0 where
  name : IsNoneOf names e.name
  same : base e.name ≡ Some n
  own_number : StatesNoOther n e.stated

-- ### lists by place

found_at : {X : Type 0} (xs : List X) (i : ℕ) → i < length xs → (x : X) × (slice_get xs i ≡ Some x)
found_at [] i h = absurd (omega arith)
found_at (x ∷ xs) zero h = (x, refl)
found_at (x ∷ xs) (suc i) h = found_at xs i (omega arith)

one_more : {X : Type 0} (xs : List X) (i : ℕ) (x : X) → slice_get xs i ≡ Some x → take (suc i) xs ≡ take i xs ++ x ∷ []
one_more [] i x h = absurd (cc)
one_more (y ∷ ys) zero x h = let same : y ≡ x = cc in ap (λ z. z ∷ []) same
one_more (y ∷ ys) (suc i) x h = ap (λ zs. y ∷ zs) (one_more ys i x h)

same_end : {X : Type 0} (xs : List X) (x y : X) → xs ++ x ∷ [] ≡ xs ++ y ∷ [] → x ≡ y
same_end [] x y h = cc
same_end (z ∷ zs) x y h = same_end zs x y (tail h)
  where
    tail : {X : Type 0} {z : X} {xs ys : List X} → z ∷ xs ≡ z ∷ ys → xs ≡ ys
    tail h = cc

mapped_more : {X Y : Type 0} (f : X → Y) (xs : List X) (x : X) → map f (xs ++ x ∷ []) ≡ map f xs ++ f x ∷ []
mapped_more f [] x = refl
mapped_more f (y ∷ ys) x = ap (λ zs. f y ∷ zs) (mapped_more f ys x)

abbrev names : List Pair → List (List ℕ)
names ps = map (λ p. p.name) ps

abbrev numbers : List Pair → List ℤ
numbers ps = map (λ p. p.number) ps

or_false : (a b : Bool) → (a || b) ≡ false → (a ≡ false) × (b ≡ false)
or_false true b h = absurd (cc)
or_false false b h = (refl, h)

false_or : (a b : Bool) → a ≡ false → b ≡ false → (a || b) ≡ false
false_or a b h g = rw h g

some_only : {X : Type 0} (x y : X) → Some x ≡ Some y → x ≡ y
some_only x y h = cc

-- a test by equality passes nowhere exactly where the value is none of these
none_found : {X : Type 0} (t : X → Bool) (x : X) (d : (y : X) → Decides (t y) (y ≡ x)) (xs : List X) → list_any t xs ≡ false → IsNoneOf xs x
none_found t x d [] h = λ k e. absurd (cc)
none_found t x d (y ∷ ys) h =
    let parts = or_false (t y) (list_any t ys) h in
    λ k. at k parts.0 (none_found t x d ys parts.1)
  where
    at : (k : ℕ) → t y ≡ false → IsNoneOf ys x → slice_get (y ∷ ys) k ≡ Some x → ⊥
    at zero e rest same = both_ways (t y) e ((d y).1 (some_only y x same))
    at (suc k) e rest same = rest k same

none_passes : {X : Type 0} (t : X → Bool) (x : X) (d : (y : X) → Decides (t y) (y ≡ x)) (xs : List X) → IsNoneOf xs x → list_any t xs ≡ false
none_passes t x d [] h = refl
none_passes t x d (y ∷ ys) h = false_or (t y) (list_any t ys) (at (t y) refl) (none_passes t x d ys (λ k. h (suc k)))
  where
    at : (b : Bool) → t y ≡ b → t y ≡ false
    at true e = absurd (h zero (ap Some ((d y).0 e)))
    at false e = e

names_test : (ps : List Pair) (s : List ℕ) → is_some (number_in ps s) ≡ list_any (λ n. bytes_eq n s) (names ps)
names_test [] s = refl
names_test (p ∷ ps) s = at (bytes_eq p.name s) ∙ ap (λ b. bytes_eq p.name s || b) (names_test ps s)
  where
    at : (b : Bool) → is_some (cond b (Some p.number) (number_in ps s)) ≡ (b || is_some (number_in ps s))
    at true = refl
    at false = refl

numbers_test : (ps : List Pair) (n : ℤ) → is_taken ps n ≡ list_any (λ m. int_eq m n) (numbers ps)
numbers_test [] n = refl
numbers_test (p ∷ ps) n = ap (λ b. int_eq p.number n || b) (numbers_test ps n)

new_name : (ps : List Pair) (s : List ℕ) → is_some (number_in ps s) ≡ false → IsNoneOf (names ps) s
new_name ps s h = none_found (λ n. bytes_eq n s) s (λ n. bytes_eq-Decides n s) (names ps) (sym (names_test ps s) ∙ h)

name_new : (ps : List Pair) (s : List ℕ) → IsNoneOf (names ps) s → is_some (number_in ps s) ≡ false
name_new ps s h = names_test ps s ∙ none_passes (λ n. bytes_eq n s) s (λ n. bytes_eq-Decides n s) (names ps) h

new_number : (ps : List Pair) (n : ℤ) → is_taken ps n ≡ false → IsNoneOf (numbers ps) n
new_number ps n h = none_found (λ m. int_eq m n) n (λ m. Decides-int_eq m n) (numbers ps) (sym (numbers_test ps n) ∙ h)

number_new : (ps : List Pair) (n : ℤ) → IsNoneOf (numbers ps) n → is_taken ps n ≡ false
number_new ps n h = numbers_test ps n ∙ none_passes (λ m. int_eq m n) n (λ m. Decides-int_eq m n) (numbers ps) h

-- ### the highest number

higher_of : (h a m : ℤ) (ns : List ℤ) → IsHighest (int_max h a ∷ ns) m → IsHighest (h ∷ a ∷ ns) m
higher_of h a m ns g = record {
  place = (first_place g.place g.there).0;
  there = (first_place g.place g.there).1;
  above = bound;
}
  where
    either : (b : Bool) → cond b h a ≡ m → (k : ℕ) × (slice_get (h ∷ a ∷ ns) k ≡ Some m)
    either true e = (zero, ap Some e)
    either false e = (suc zero, ap Some e)

    first_place : (k : ℕ) → slice_get (int_max h a ∷ ns) k ≡ Some m → (j : ℕ) × (slice_get (h ∷ a ∷ ns) j ≡ Some m)
    first_place zero e = either _ (some_only _ _ e)
    first_place (suc k) e = (suc (suc k), e)

    top : int_max h a ≤ℤ m
    top = g.above zero (int_max h a) refl

    left : h ≤ℤ int_max h a
    left = grind (arith, ints)

    right : a ≤ℤ int_max h a
    right = grind (arith, ints)

    bound : (k : ℕ) (n : ℤ) → slice_get (h ∷ a ∷ ns) k ≡ Some n → n ≤ℤ m
    bound zero n e = let same : h ≡ n = some_only _ _ e in subst (λ x. x ≤ℤ m) same (omega (arith, ints, left, top))
    bound (suc zero) n e = let same : a ≡ n = some_only _ _ e in subst (λ x. x ≤ℤ m) same (omega (arith, ints, right, top))
    bound (suc (suc k)) n e = g.above (suc k) n e

at_least : (h : ℤ) → h ≤ℤ h
at_least h = omega (arith, ints)

alone_highest : (h : ℤ) → IsHighest (h ∷ []) h
alone_highest h = record { place = zero; there = refl; above = bound }
  where
    bound : (k : ℕ) (n : ℤ) → slice_get (h ∷ []) k ≡ Some n → n ≤ℤ h
    bound zero n e = subst (λ x. x ≤ℤ h) (some_only _ _ e) (at_least h)
    bound (suc k) n e = absurd (cc)

highest_found : (h : ℤ) (ps : List Pair) → (m : ℤ) × (highest_from (Some h) ps ≡ Some m) × IsHighest (h ∷ numbers ps) m
highest_found h [] = (h, refl, alone_highest h)
highest_found h (p ∷ ps) =
    let r = highest_found (int_max h p.number) ps in
    (r.0, r.1, higher_of h p.number r.0 (numbers ps) r.2)

one_highest : (ns : List ℤ) (h m : ℤ) → IsHighest ns h → IsHighest ns m → h ≡ m
one_highest ns h m g k =
    let up : h ≤ℤ m = k.above g.place h g.there in
    let down : m ≤ℤ h = g.above k.place m k.there in
    omega (arith, ints, up, down)

none_highest : (h : ℤ) → IsHighest [] h → ⊥
none_highest h g = let e = g.there in absurd (cc)

next_assigned : (ps : List Pair) → IsAssigned (numbers ps) nothing (next_number (highest ps))
next_assigned [] = first refl
next_assigned (p ∷ ps) =
    let r = highest_found p.number ps in
    subst (λ o. IsAssigned (numbers (p ∷ ps)) nothing (next_number o)) (sym r.1) (next r.2)

one_assigned : {before : List ℤ} {e : StatedNumber} {n m : ℤ} → IsAssigned before e n → IsAssigned before e m → n ≡ m
one_assigned own_number own_number = refl
one_assigned (first e) (first f) = refl
one_assigned (first e) (next {h} g) = absurd (none_highest h (subst (λ ns. IsHighest ns h) e g))
one_assigned (next {h} g) (first e) = absurd (none_highest h (subst (λ ns. IsHighest ns h) e g))
one_assigned {before} (next {h} g) (next {h = m} k) = ap (λ x. x +ℤ pos 1) (one_highest before h m g k)

assigned_from : (ps : List Pair) (s : StatedNumber) (n : ℤ) → number_from (next_number (highest ps)) s ≡ Some n → IsAssigned (numbers ps) s n
assigned_from ps nothing n h = subst (λ m. IsAssigned (numbers ps) nothing m) (some_only _ _ h) (next_assigned ps)
assigned_from ps (whole m) n h = subst (λ k. IsAssigned (numbers ps) (whole m) k) (some_only m n h) own_number
assigned_from ps no_number n h = absurd (cc)

number_is : (ps : List Pair) {s : StatedNumber} {n : ℤ} → IsAssigned (numbers ps) s n → number_from (next_number (highest ps)) s ≡ Some n
number_is ps own_number = refl
number_is ps (first e) = ap Some (one_assigned (next_assigned ps) (first e))
number_is ps (next g) = ap Some (one_assigned (next_assigned ps) (next g))

-- ### the kind

kind_found : (kind : NumberKind) (n : ℤ) → is_number kind n ≡ true → IsOfKind kind n
kind_found Enumeration n h = (grind (arith, ints), grind (arith, ints))
kind_found Bits n h = (grind (arith, ints), grind (arith, ints))

kind_passes : (kind : NumberKind) (n : ℤ) → IsOfKind kind n → is_number kind n ≡ true
kind_passes Enumeration n h = let low = h.0 in let high = h.1 in grind (arith, ints)
kind_passes Bits n h = let low = h.0 in let high = h.1 in grind (arith, ints)

not_false : (b : Bool) → not b ≡ false → b ≡ true
not_false true h = refl
not_false false h = absurd (cc)

free_found : (kind : NumberKind) (ps : List Pair) (o : Option ℤ) → is_free kind ps o ≡ true → (n : ℤ) × (o ≡ Some n) × (is_taken ps n ≡ false) × (is_number kind n ≡ true)
free_found kind ps None h = absurd (cc)
free_found kind ps (Some n) h =
    let p = and_parts (not (is_taken ps n)) (is_number kind n) h in
    (n, refl, not-true (is_taken ps n) p.0, p.1)

-- ### one entry

numbered_found : (kind : NumberKind) (ps : List Pair) (e : Entry) → is_wrong kind ps e ≡ false → IsNumbered kind (names ps) (numbers ps) e (unwrap_or (number_of ps e) (pos 0))
numbered_found kind ps e h =
    let p = or_false (is_some (number_in ps e.name)) (not (is_free kind ps (number_of ps e))) h in
    let f = free_found kind ps (number_of ps e) (not_false _ p.1) in
    subst (λ m. IsNumbered kind (names ps) (numbers ps) e m) (sym (ap (λ o. unwrap_or o (pos 0)) f.1)) (record {
      name = new_name ps e.name p.0;
      number = new_number ps f.0 f.2;
      kind_has = kind_found kind f.0 f.3;
      assigned = assigned_from ps e.stated f.0 f.1;
    })

free_passes : (kind : NumberKind) (ps : List Pair) (n : ℤ) → is_taken ps n ≡ false → is_number kind n ≡ true → not (is_free kind ps (Some n)) ≡ false
free_passes kind ps n h g = ap not (and_from (not (is_taken ps n)) (is_number kind n) (ap not h) g)

numbered_passes : (kind : NumberKind) (ps : List Pair) (e : Entry) (n : ℤ) → IsNumbered kind (names ps) (numbers ps) e n → (is_wrong kind ps e ≡ false) × (unwrap_or (number_of ps e) (pos 0) ≡ n)
numbered_passes kind ps e n h =
    let same : number_of ps e ≡ Some n = number_is ps h.assigned in
    (false_or _ _ (name_new ps e.name h.name) (ap (λ o. not (is_free kind ps o)) same ∙ free_passes kind ps n (number_new ps n h.number) (kind_passes kind n h.kind_has)), ap (λ o. unwrap_or o (pos 0)) same)

kept_found : (base : List ℕ → Option ℤ) (ps : List Pair) (e : Entry) → is_wrong_in base ps e ≡ false → IsKept base (names ps) e (unwrap_or (base e.name) (pos 0))
kept_found base ps e h =
    let p = or_false (is_some (number_in ps e.name)) (not (agrees e.stated (base e.name))) h in
    record {
      name = new_name ps e.name p.0;
      same = based (base e.name) (not_false _ p.1);
      own_number = said e.stated (base e.name) (not_false _ p.1);
    }
  where
    based : (o : Option ℤ) → agrees e.stated o ≡ true → o ≡ Some (unwrap_or o (pos 0))
    based None k = absurd (cc)
    based (Some n) k = refl

    said : (s : StatedNumber) (o : Option ℤ) → agrees s o ≡ true → StatesNoOther (unwrap_or o (pos 0)) s
    said s None k = absurd (cc)
    said nothing (Some n) k = without_number
    said (whole l) (Some n) k = subst (λ m. StatesNoOther m (whole l)) ((Decides-int_eq l n).0 k) same_number
    said no_number (Some n) k = absurd (cc)

kept_passes : (base : List ℕ → Option ℤ) (ps : List Pair) (e : Entry) (n : ℤ) → IsKept base (names ps) e n → (is_wrong_in base ps e ≡ false) × (unwrap_or (base e.name) (pos 0) ≡ n)
kept_passes base ps e n h =
    (false_or _ _ (name_new ps e.name h.name) (ap not (ap (agrees e.stated) h.same ∙ said h.own_number)), ap (λ o. unwrap_or o (pos 0)) h.same)
  where
    said : {s : StatedNumber} → StatesNoOther n s → agrees s (Some n) ≡ true
    said without_number = refl
    said same_number = (Decides-int_eq n n).1 refl

-- ### all entries

-- by a test of entries, the pair of one that passes, and what is to hold of it
module _ (wrong : List Pair → Entry → Bool) (pair : List Pair → Entry → Pair) (IsRight : List (List ℕ) → List ℤ → Entry → ℤ → Type 0) (named : (ps : List Pair) (e : Entry) → (pair ps e).name ≡ e.name) (found : (ps : List Pair) (e : Entry) → wrong ps e ≡ false → IsRight (names ps) (numbers ps) e (pair ps e).number) (passes : (ps : List Pair) (e : Entry) (n : ℤ) → IsRight (names ps) (numbers ps) e n → (wrong ps e ≡ false) × ((pair ps e).number ≡ n)) where
  abbrev right : List Entry → List Pair
  right es = pairs_behind wrong pair [] es

  abbrev AreRight : List Entry → List ℤ → Type 0
  AreRight es ns = (length es ≡ length ns) × ((i : ℕ) (e : Entry) (n : ℤ) → slice_get es i ≡ Some e → slice_get ns i ≡ Some n → IsRight (names_of (take i es)) (take i ns) e n)

  right_more : (es : List Entry) (i : ℕ) (e : Entry) → slice_get es i ≡ Some e → wrong (right (take i es)) e ≡ false → right (take (suc i) es) ≡ right (take i es) ++ pair (right (take i es)) e ∷ []
  right_more es i e h w =
      let ps = right (take i es) in
      ap right (one_more es i e h) ∙ behind_pushed wrong pair [] (take i es) e ∙ ap (λ b. cond b ps (ps ++ pair ps e ∷ [])) w

  names_more : (es : List Entry) (i : ℕ) (e : Entry) → slice_get es i ≡ Some e → wrong (right (take i es)) e ≡ false → names (right (take i es)) ≡ names_of (take i es) → names (right (take (suc i) es)) ≡ names_of (take (suc i) es)
  names_more es i e h w k =
      let ps = right (take i es) in
      ap names (right_more es i e h w) ∙ mapped_more (λ p. p.name) ps (pair ps e) ∙ ap (λ xs. xs ++ (pair ps e).name ∷ []) k ∙ ap (λ x. names_of (take i es) ++ x ∷ []) (named ps e) ∙ sym (ap names_of (one_more es i e h) ∙ mapped_more (λ f. f.name) (take i es) e)

  numbers_more : (es : List Entry) (i : ℕ) (e : Entry) → slice_get es i ≡ Some e → wrong (right (take i es)) e ≡ false → numbers (right (take (suc i) es)) ≡ numbers (right (take i es)) ++ (pair (right (take i es)) e).number ∷ []
  numbers_more es i e h w =
      let ps = right (take i es) in
      ap numbers (right_more es i e h w) ∙ mapped_more (λ p. p.number) ps (pair ps e)

  -- where all have such numbers
  pass_at : (es : List Entry) (ns : List ℤ) (i : ℕ) (e : Entry) (n : ℤ) → AreRight es ns → slice_get es i ≡ Some e → slice_get ns i ≡ Some n → names (right (take i es)) ≡ names_of (take i es) → numbers (right (take i es)) ≡ take i ns → (wrong (right (take i es)) e ≡ false) × ((pair (right (take i es)) e).number ≡ n)
  pass_at es ns i e n h g k p q =
      let ps = right (take i es) in
      passes ps e n (subst (λ xs. IsRight xs (numbers ps) e n) (sym p) (subst (λ xs. IsRight (names_of (take i es)) xs e n) (sym q) (h.1 i e n g k)))

  so_far : (es : List Entry) (ns : List ℤ) (i : ℕ) → AreRight es ns → i ≤ length es → (names (right (take i es)) ≡ names_of (take i es)) × (numbers (right (take i es)) ≡ take i ns)
  so_far es ns zero h b = (refl, refl)
  so_far es ns (suc i) h b =
      let length_same : length es ≡ length ns = h.0 in
      let before = so_far es ns i h (omega arith) in
      let e = found_at es i (omega arith) in
      let n = found_at ns i (omega arith) in
      let p = pass_at es ns i e.0 n.0 h e.1 n.1 before.0 before.1 in (
        names_more es i e.0 e.1 p.0 before.0,
        numbers_more es i e.0 e.1 p.0 ∙ ap (λ xs. xs ++ (pair (right (take i es)) e.0).number ∷ []) before.1 ∙ ap (λ x. take i ns ++ x ∷ []) p.1 ∙ sym (one_more ns i n.0 n.1),
      )

  pub none_wrong : (es : List Entry) (ns : List ℤ) → AreRight es ns → IsFirstWrong right wrong es None
  none_wrong es ns h = λ k w.
      let inside : k < length es = slice_get_within es k w.0 w.1 in
      let length_same : length es ≡ length ns = h.0 in
      let before = so_far es ns k h (omega arith) in
      let n = found_at ns k (omega arith) in
      both_ways _ (pass_at es ns k w.0 n.0 h w.1 n.1 before.0 before.1).0 w.2

  pub just_these : (es : List Entry) (ns : List ℤ) → AreRight es ns → (names (right es) ≡ names_of es) × (numbers (right es) ≡ ns)
  just_these es ns h =
      let all = so_far es ns (length es) h (omega arith) in
      let same = take-length es in (
        ap (λ xs. names (right xs)) (sym same) ∙ all.0 ∙ ap names_of same,
        ap (λ xs. numbers (right xs)) (sym same) ∙ all.1 ∙ ap (λ i. take i ns) h.0 ∙ take-length ns,
      )

  -- where none is wrong
  right_at : (es : List Entry) (i : ℕ) (e : Entry) → IsFirstWrong right wrong es None → slice_get es i ≡ Some e → wrong (right (take i es)) e ≡ false
  right_at es i e h g = at (wrong (right (take i es)) e) refl
    where
      at : (b : Bool) → wrong (right (take i es)) e ≡ b → b ≡ false
      at true k = absurd (h i (e, g, k))
      at false k = refl

  named_so_far : (es : List Entry) (i : ℕ) → IsFirstWrong right wrong es None → i ≤ length es → (names (right (take i es)) ≡ names_of (take i es)) × (length (numbers (right (take i es))) ≡ i)
  named_so_far es zero h b = (refl, refl)
  named_so_far es (suc i) h b =
      let before = named_so_far es i h (omega arith) in
      let count : length (numbers (right (take i es))) ≡ i = before.1 in
      let e = found_at es i (omega arith) in
      let w = right_at es i e.0 h e.1 in
      let more = ap length (numbers_more es i e.0 e.1 w) in (
        names_more es i e.0 e.1 w before.0,
        more ∙ longer (numbers (right (take i es))) (pair (right (take i es)) e.0).number i count,
      )
    where
      longer : (ns : List ℤ) (n : ℤ) (i : ℕ) → length ns ≡ i → length (ns ++ n ∷ []) ≡ suc i
      longer ns n i e = length-append ns (n ∷ []) ∙ ap (λ k. k + 1) e ∙ add-one i

  -- the numbers of the first entries are the first numbers
  begins : (es : List Entry) (j i : ℕ) → IsFirstWrong right wrong es None → i + j ≤ length es → take i (numbers (right (take (i + j) es))) ≡ numbers (right (take i es))
  begins es zero i h b =
      let count = (named_so_far es i h (omega arith)).1 in
      ap (λ k. take i (numbers (right (take k es)))) (same i) ∙ ap (λ k. take k (numbers (right (take i es)))) (sym count) ∙ take-length (numbers (right (take i es)))
    where
      same : (i : ℕ) → i + 0 ≡ i
      same i = omega arith
  begins es (suc j) i h b =
      let k = i + j in
      let inside : k < length es = omega arith in
      let e = found_at es k inside in
      let w = right_at es k e.0 h e.1 in
      let count = (named_so_far es k h (omega arith)).1 in
      let room : i ≤ length (numbers (right (take k es))) = omega (arith, count) in
      ap (λ l. take i (numbers (right (take l es)))) (next_place i j) ∙ ap (take i) (numbers_more es k e.0 e.1 w) ∙ take-append-le i (numbers (right (take k es))) _ room ∙ begins es j i h (omega arith)
    where
      next_place : (i j : ℕ) → i + suc j ≡ suc (i + j)
      next_place i j = omega arith

  first_numbers : (es : List Entry) (i : ℕ) → IsFirstWrong right wrong es None → i ≤ length es → take i (numbers (right es)) ≡ numbers (right (take i es))
  first_numbers es i h b =
      let all : take (i + (length es - i)) es ≡ es = ap (λ k. take k es) (rest i (length es) b) ∙ take-length es in
      ap (λ xs. take i (numbers (right xs))) (sym all) ∙ begins es (length es - i) i h (omega arith)
    where
      rest : (i n : ℕ) → i ≤ n → i + (n - i) ≡ n
      rest i n b = omega arith

  pub are_there : (es : List Entry) → IsFirstWrong right wrong es None → AreRight es (numbers (right es))
  are_there es h = (sym (ap (λ xs. length (numbers (right xs))) (sym (take-length es)) ∙ (named_so_far es (length es) h (omega arith)).1), each)
    where
      each : (i : ℕ) (e : Entry) (n : ℤ) → slice_get es i ≡ Some e → slice_get (numbers (right es)) i ≡ Some n → IsRight (names_of (take i es)) (take i (numbers (right es))) e n
      each i e n g k =
          let inside : i < length es = slice_get_within es i e g in
          let ps = right (take i es) in
          let w = right_at es i e h g in
          let before : take i (numbers (right es)) ≡ numbers ps = first_numbers es i h (omega arith) in
          let one : numbers ps ++ n ∷ [] ≡ numbers ps ++ (pair ps e).number ∷ [] = sym (one_more (numbers (right es)) i n k ∙ ap (λ xs. xs ++ n ∷ []) before) ∙ first_numbers es (suc i) h (omega arith) ∙ numbers_more es i e g w in
          let same : n ≡ (pair ps e).number = same_end (numbers ps) n (pair ps e).number one in
          subst (λ m. IsRight (names_of (take i es)) (take i (numbers (right es))) e m) (sym same) (subst (λ xs. IsRight (names_of (take i es)) xs e (pair ps e).number) (sym before) (subst (λ xs. IsRight xs (numbers ps) e (pair ps e).number) (named_so_far es i h (omega arith)).0 (found ps e w)))

-- ### distinct

kept_get : {X : Type 0} (xs : List X) (i k : ℕ) (x : X) → slice_get (take i xs) k ≡ Some x → slice_get xs k ≡ Some x
kept_get xs zero k x h = absurd (cc)
kept_get [] (suc i) k x h = absurd (cc)
kept_get (y ∷ ys) (suc i) zero x h = h
kept_get (y ∷ ys) (suc i) (suc k) x h = kept_get ys i k x h

get_kept : {X : Type 0} (xs : List X) (i k : ℕ) (x : X) → k < i → slice_get xs k ≡ Some x → slice_get (take i xs) k ≡ Some x
get_kept xs zero k x b h = absurd (omega arith)
get_kept [] (suc i) k x b h = absurd (cc)
get_kept (y ∷ ys) (suc i) zero x b h = h
get_kept (y ∷ ys) (suc i) (suc k) x b h = get_kept ys i k x (omega arith) h

none_before : {X : Type 0} (xs : List X) (i : ℕ) (x : X) → AreDistinct xs → slice_get xs i ≡ Some x → IsNoneOf (take i xs) x
none_before xs i x h g = λ k e.
    let inside : k < length (take i xs) = slice_get_within (take i xs) k x e in
    let same : k ≡ i = h k i x (kept_get xs i k x e) g in
    omega (arith, length-take i xs)

distinct : {X : Type 0} (xs : List X) → ((i : ℕ) (x : X) → slice_get xs i ≡ Some x → IsNoneOf (take i xs) x) → AreDistinct xs
distinct {X} xs h = λ i k x g e. equal i k (apart i k x g e (nat_lt i k) refl) (apart k i x e g (nat_lt k i) refl)
  where
    apart : (i k : ℕ) (x : X) → slice_get xs i ≡ Some x → slice_get xs k ≡ Some x → (b : Bool) → nat_lt i k ≡ b → b ≡ false
    apart i k x g e true l = let less : i < k = grind (arith, nat_tests) in absurd (h k x e i (get_kept xs k i x less g))
    apart i k x g e false l = refl

    equal : (i k : ℕ) → nat_lt i k ≡ false → nat_lt k i ≡ false → i ≡ k
    equal i k g h = grind (arith, nat_tests)

names_before : (es : List Entry) (i : ℕ) (e : Entry) → AreDistinct (names_of es) → slice_get es i ≡ Some e → IsNoneOf (names_of (take i es)) e.name
names_before es i e h g = subst (λ xs. IsNoneOf xs e.name) (take-map (λ f. f.name) i es) (none_before (names_of es) i e.name h (slice_get-map (λ f. f.name) es i ∙ ap (option_map (λ f. f.name)) g))

named_at : (es : List Entry) (i : ℕ) (s : List ℕ) → slice_get (names_of es) i ≡ Some s → (e : Entry) × (slice_get es i ≡ Some e) × (e.name ≡ s)
named_at [] i s h = absurd (cc)
named_at (e ∷ es) zero s h = (e, refl, some_only _ _ h)
named_at (e ∷ es) (suc i) s h = named_at es i s h

names_distinct : (es : List Entry) → ((i : ℕ) (e : Entry) → slice_get es i ≡ Some e → IsNoneOf (names_of (take i es)) e.name) → AreDistinct (names_of es)
names_distinct es h = distinct (names_of es) (λ i s g.
    let e = named_at es i s g in
    subst (λ t. IsNoneOf (take i (names_of es)) t) e.2 (subst (λ xs. IsNoneOf xs e.0.name) (sym (take-map (λ f. f.name) i es)) (h i e.0 e.1)))

entry_at : (es : List Entry) (ns : List ℤ) (i : ℕ) (n : ℤ) → length es ≡ length ns → slice_get ns i ≡ Some n → (e : Entry) × (slice_get es i ≡ Some e)
entry_at es ns i n same g = let inside : i < length ns = slice_get_within ns i n g in found_at es i (omega arith)

number_at : (es : List Entry) (ns : List ℤ) (i : ℕ) (e : Entry) → length es ≡ length ns → slice_get es i ≡ Some e → (n : ℤ) × (slice_get ns i ≡ Some n)
number_at es ns i e same g = let inside : i < length es = slice_get_within es i e g in found_at ns i (omega arith)

-- ### new types

abbrev AllNumbered : NumberKind → List Entry → List ℤ → Type 0
AllNumbered kind es ns = (length es ≡ length ns) × ((i : ℕ) (e : Entry) (n : ℤ) → slice_get es i ≡ Some e → slice_get ns i ≡ Some n → IsNumbered kind (names_of (take i es)) (take i ns) e n)

each_numbered : (kind : NumberKind) (es : List Entry) (ns : List ℤ) → AreNumbers kind es ns → AllNumbered kind es ns
each_numbered kind es ns h = (
  h.one_each,
  λ i e n g k. record {
    name = names_before es i e h.names_differ g;
    number = none_before ns i n h.numbers_differ k;
    kind_has = h.of_kind i n k;
    assigned = h.assigned i e n g k;
  },
)

all_numbered : (kind : NumberKind) (es : List Entry) (ns : List ℤ) → AllNumbered kind es ns → AreNumbers kind es ns
all_numbered kind es ns h = record {
  one_each = h.0;
  names_differ = names_distinct es (λ i e g. let n = number_at es ns i e h.0 g in (h.1 i e n.0 g n.1).name);
  numbers_differ = distinct ns (λ i n g. let e = entry_at es ns i n h.0 g in (h.1 i e.0 n e.1 g).number);
  of_kind = λ i n g. let e = entry_at es ns i n h.0 g in (h.1 i e.0 n e.1 g).kind_has;
  assigned = λ i e n g k. (h.1 i e n g k).assigned;
}

pub numbers_right : (kind : NumberKind) (es : List Entry) (ns : List ℤ) → AreNumbers kind es ns → IsFirstWrong (number_entries kind) (is_wrong kind) es None
numbers_right kind es ns h = none_wrong (is_wrong kind) pair_of (IsNumbered kind) (λ ps e. refl) (numbered_found kind) (numbered_passes kind) es ns (each_numbered kind es ns h)

pub numbers_same : (kind : NumberKind) (es : List Entry) (ns : List ℤ) → AreNumbers kind es ns → (names (number_entries kind es) ≡ names_of es) × (numbers (number_entries kind es) ≡ ns)
numbers_same kind es ns h = just_these (is_wrong kind) pair_of (IsNumbered kind) (λ ps e. refl) (numbered_found kind) (numbered_passes kind) es ns (each_numbered kind es ns h)

pub numbers_there : (kind : NumberKind) (es : List Entry) → IsFirstWrong (number_entries kind) (is_wrong kind) es None → AreNumbers kind es (numbers (number_entries kind es))
numbers_there kind es h = all_numbered kind es (numbers (number_entries kind es)) (are_there (is_wrong kind) pair_of (IsNumbered kind) (λ ps e. refl) (numbered_found kind) (numbered_passes kind) es h)

-- ### derived types

abbrev AllKept : (List ℕ → Option ℤ) → List Entry → List ℤ → Type 0
AllKept base es ns = (length es ≡ length ns) × ((i : ℕ) (e : Entry) (n : ℤ) → slice_get es i ≡ Some e → slice_get ns i ≡ Some n → IsKept base (names_of (take i es)) e n)

each_kept : (base : List ℕ → Option ℤ) (es : List Entry) (ns : List ℤ) → AreKept base es ns → AllKept base es ns
each_kept base es ns h = (
  h.one_each,
  λ i e n g k. record {
    name = names_before es i e h.names_differ g;
    same = h.same i e n g k;
    own_number = h.own_number i e n g k;
  },
)

all_kept : (base : List ℕ → Option ℤ) (es : List Entry) (ns : List ℤ) → AllKept base es ns → AreKept base es ns
all_kept base es ns h = record {
  one_each = h.0;
  names_differ = names_distinct es (λ i e g. let n = number_at es ns i e h.0 g in (h.1 i e n.0 g n.1).name);
  same = λ i e n g k. (h.1 i e n g k).same;
  own_number = λ i e n g k. (h.1 i e n g k).own_number;
}

pub kept_right : (base : List ℕ → Option ℤ) (es : List Entry) (ns : List ℤ) → AreKept base es ns → IsFirstWrong (keep_numbers base) (is_wrong_in base) es None
kept_right base es ns h = none_wrong (is_wrong_in base) (λ ps e. pair_in base e) (λ xs ms. IsKept base xs) (λ ps e. refl) (kept_found base) (kept_passes base) es ns (each_kept base es ns h)

pub kept_same : (base : List ℕ → Option ℤ) (es : List Entry) (ns : List ℤ) → AreKept base es ns → (names (keep_numbers base es) ≡ names_of es) × (numbers (keep_numbers base es) ≡ ns)
kept_same base es ns h = just_these (is_wrong_in base) (λ ps e. pair_in base e) (λ xs ms. IsKept base xs) (λ ps e. refl) (kept_found base) (kept_passes base) es ns (each_kept base es ns h)

pub kept_there : (base : List ℕ → Option ℤ) (es : List Entry) → IsFirstWrong (keep_numbers base) (is_wrong_in base) es None → AreKept base es (numbers (keep_numbers base es))
kept_there base es h = all_kept base es (numbers (keep_numbers base es)) (are_there (is_wrong_in base) (λ ps e. pair_in base e) (λ xs ms. IsKept base xs) (λ ps e. refl) (kept_found base) (kept_passes base) es h)
