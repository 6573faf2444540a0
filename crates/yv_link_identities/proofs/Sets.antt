-- Sets of numbers, and their keys in order.
use Rattle.std.proofs.Common.{◌≡◌, ℕ, ◌<◌, ◌==◌, ◌⊎◌, inl, inr, zero, suc, Bool, true, false, cond, List, [], ◌∷◌, length, get_or, refl, sym, ◌∙◌, ap, arith, eqb-true, eq-eqb}
use Rattle.std.specs.Bool.{one_answer}
use Rattle.std.specs.Ordering.{nat_cmp, is_eq}
use Rattle.std.specs.declared.cmp.Ordering.TheVariants.{Less, Equal}
use Rattle.std.specs.Cmp.{Equal-is, nat_cmp_is}
use Rattle.std.specs.BTreeMap.{is_at}
use Rattle.std.specs.List.{All, Contains, list_any}
use Rattle.std.specs.List.Sorted.{IsStrictlySortedBy}
use Rattle.std.specs.BTreeSet.{BTreeSet, UpdatesBy, contains}
use Rattle.std.proofs.lemmas.Cmp.{ranked}
use Rattle.std.proofs.lemmas.List.{get_or_default}
use Rattle.std.proofs.lemmas.List.Elements.{All-from_recursion}
use Rattle.std.proofs.lemmas.List.Folds.{Any-from_list_any, list_any-from_Any}
use Rattle.std.proofs.lemmas.Map.Keys.{sorted_head, sorted_tail}
use Rattle.std.proofs.lemmas.Map.Lookups.{exact_unsigned}
use Rattle.yv_link_identities.specs.References.{IsAscending}

is_eq_nat : (a b : ℕ) → is_eq (nat_cmp a b) ≡ (a == b)
is_eq_nat a b = one_answer (is_eq (nat_cmp a b)) (a == b)
    (λ h. exact_unsigned a b ((Equal-is (nat_cmp a b)).0 h), λ e. (Equal-is (nat_cmp a b)).1 (sym (nat_cmp_is a b Equal e)))
    (λ h. eqb-true a b h, λ e. eq-eqb a b e)

abbrev pub Has : BTreeSet ℕ → ℕ → Type 0
Has set a = contains nat_cmp set a ≡ true

-- what an update tells of one number
set_one : (old new : BTreeSet ℕ) (n : ℕ) (b : Bool) → UpdatesBy nat_cmp (nat_cmp n) old new b → (a : ℕ) → contains nat_cmp new a ≡ cond (n == a) b (contains nat_cmp old a)
set_one old new n b u a = u.0 a ∙ ap (λ t. cond t b (contains nat_cmp old a)) (is_eq_nat n a)

either : (t old : Bool) → cond t true old ≡ true → (t ≡ true) ⊎ (old ≡ true)
either true old h = inl refl
either false old h = inr h

kept : (t old : Bool) → old ≡ true → cond t true old ≡ true
kept true old h = refl
kept false old h = h

left : (t old : Bool) → cond t false old ≡ true → old ≡ true
left true old h = cc
left false old h = h

taken_or : (t old : Bool) → old ≡ true → (t ≡ true) ⊎ (cond t false old ≡ true)
taken_or true old h = inl refl
taken_or false old h = inr h

pub added_is : (old new : BTreeSet ℕ) (n a : ℕ) → UpdatesBy nat_cmp (nat_cmp n) old new true → Has new a → (n ≡ a) ⊎ Has old a
added_is old new n a u h = elim (either (n == a) (contains nat_cmp old a) (sym (set_one old new n true u a) ∙ h)) [
  | inl same ↦ inl (eqb-true n a same)
  | inr there ↦ inr there
]

pub added_keeps : (old new : BTreeSet ℕ) (n a : ℕ) → UpdatesBy nat_cmp (nat_cmp n) old new true → Has old a → Has new a
added_keeps old new n a u h = set_one old new n true u a ∙ kept (n == a) (contains nat_cmp old a) h

pub added_has : (old new : BTreeSet ℕ) (n a : ℕ) → UpdatesBy nat_cmp (nat_cmp n) old new true → n ≡ a → Has new a
added_has old new n a u e = set_one old new n true u a ∙ ap (λ t. cond t true (contains nat_cmp old a)) (eq-eqb n a e)

pub taken_was : (old new : BTreeSet ℕ) (n a : ℕ) → UpdatesBy nat_cmp (nat_cmp n) old new false → Has new a → Has old a
taken_was old new n a u h = left (n == a) (contains nat_cmp old a) (sym (set_one old new n false u a) ∙ h)

pub taken_is : (old new : BTreeSet ℕ) (n a : ℕ) → UpdatesBy nat_cmp (nat_cmp n) old new false → Has old a → (n ≡ a) ⊎ Has new a
taken_is old new n a u h = elim (taken_or (n == a) (contains nat_cmp old a) h) [
  | inl same ↦ inl (eqb-true n a same)
  | inr there ↦ inr (set_one old new n false u a ∙ there)
]

pub none_in : (set : BTreeSet ℕ) (a : ℕ) → set.keys ≡ [] → Has set a → ⊥
none_in set a e h = let bad : false ≡ true = sym (ap (list_any (is_at (nat_cmp a))) e) ∙ h in cc

-- the keys of a set are what it has
pub has_key : (set : BTreeSet ℕ) (a : ℕ) → Contains set.keys a → Has set a
has_key set a c = list_any-from_Any (is_at (nat_cmp a)) set.keys (c.0, a, c.1, c.2, is_eq_nat a a ∙ eq-eqb a a refl)

pub key_of : (set : BTreeSet ℕ) (a : ℕ) → Has set a → Contains set.keys a
key_of set a h =
    let (k, x, inside, at, is) = Any-from_list_any (is_at (nat_cmp a)) set.keys h in
    let same : a ≡ x = eqb-true a x (sym (is_eq_nat a x) ∙ is) in
    (k, inside, get_or_default set.keys k a x inside ∙ at ∙ sym same)

-- numbers that are sorted ascend
pub sorted_ascends : (xs : List ℕ) → IsStrictlySortedBy nat_cmp xs → IsAscending xs
sorted_ascends [] s i j l h = absurd (omega (arith, h))
sorted_ascends (x ∷ xs) s i zero l h = absurd (omega (arith, l))
sorted_ascends (x ∷ xs) s zero (suc j) l h =
    let above = All-from_recursion (λ y. nat_cmp x y ≡ Less) xs (sorted_head nat_cmp x xs s) in
    ranked x (get_or xs j 0) Less (sym (above j 0 (omega (arith, h))))
sorted_ascends (x ∷ xs) s (suc i) (suc j) l h = sorted_ascends xs (sorted_tail nat_cmp x xs s) i j (omega (arith, l)) (omega (arith, h))

-- the least number of a set, or another where there is none
abbrev pub least_or : ℕ → BTreeSet ℕ → ℕ
least_or n set = get_or set.keys 0 n

least_key : (keys : List ℕ) (n r : ℕ) → r < n → ((a : ℕ) → Contains keys a → r < a) → r < get_or keys 0 n
least_key [] n r h above = h
least_key (x ∷ xs) n r h above = above x (0, omega arith, refl)

pub least_above : (set : BTreeSet ℕ) (n r : ℕ) → r < n → ((a : ℕ) → Has set a → r < a) → r < least_or n set
least_above set n r h above = least_key set.keys n r h (λ a c. above a (has_key set a c))

pub all_above : (set : BTreeSet ℕ) (r : ℕ) → All (λ a. nat_cmp r a ≡ Less) set.keys → (a : ℕ) → Has set a → r < a
all_above set r above a h = let c = key_of set a h in ranked r a Less (sym (ap (nat_cmp r) (sym c.2) ∙ above c.0 a c.1))

pub no_keys : {A : Type 0} (keys : List A) → (0 < length keys → ⊥) → keys ≡ []
no_keys [] none = refl
no_keys (x ∷ xs) none = absurd (none (omega arith))
