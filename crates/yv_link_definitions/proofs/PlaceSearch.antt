-- Places that rise, and what a search among them meets.
use Rattle.std.proofs.Common.{◌≡◌, ℕ, ◌+◌, ◌-◌, ◌<◌, ◌≤◌, ◌==◌, ◌&&◌, ◌||◌, inl, inr, nat_lt, zero, suc, Bool, true, false, cond, List, [], ◌∷◌, ◌++◌, length, get_or, None, Some, refl, sym, ◌∙◌, ap, subst, arith}
use Rattle.std.specs.List.{find, slice_get}
use Rattle.std.specs.Option.{option_map}
use Rattle.std.proofs.lemmas.Bool.{cases_lt, false≢true}
use Rattle.std.proofs.lemmas.Bool.Decides.{nat_tests}
use Rattle.std.proofs.lemmas.Option.{same_Some, slice_get_within}
use Rattle.yv_link_definitions.specs.Lookups.{is_there, lookup_in}
use Rattle.yv_link_definitions.specs.InnerOrder.{Rise, is_before}
use Rattle.yv_link_definitions.specs.declared.place.Place.{Place}
use Rattle.yv_link_definitions.proofs.DefinitionGraph.{pushed_at}
use Rattle.yv_link_definitions.proofs.Words.{not_true}

chain : (a b c d e f : ℕ) → (nat_lt a c || ((a == c) && nat_lt b d)) ≡ true → (nat_lt c e || ((c == e) && nat_lt d f)) ≡ true → (nat_lt a e || ((a == e) && nat_lt b f)) ≡ true
chain a b c d e f h g = grind (arith, nat_tests)

apart : (a b c d : ℕ) → (nat_lt a c || ((a == c) && nat_lt b d)) ≡ true → ((a == c) && (b == d)) ≡ true → ⊥
apart a b c d h g = grind (arith, nat_tests)

same_place : (a b c d : ℕ) → ((a == c) && (b == d)) ≡ true → (a ≡ c) × (b ≡ d)
same_place a b c d h = (grind (arith, nat_tests), grind (arith, nat_tests))

pub before_all : (p q : Place) (f o : ℕ) → is_before p q.file q.offset ≡ true → is_before q f o ≡ true → is_before p f o ≡ true
before_all p q f o h g = chain p.file p.offset q.file q.offset f o h g

not_there : (p : Place) (f o : ℕ) → is_before p f o ≡ true → is_there f o p ≡ false
not_there p f o h = not_true (is_there f o p) (λ g. apart p.file p.offset f o h g)

-- a place that is after all
pub rise_more : (ps qs : List Place) (p : Place) → qs ≡ ps ++ p ∷ [] → Rise ps → ((k : ℕ) (q : Place) → slice_get ps k ≡ Some q → is_before q p.file p.offset ≡ true) → Rise qs
rise_more ps qs p now old before i j q s l at_i at_j = elim (pushed_at ps p s j (ap (λ xs. slice_get xs j) (sym now) ∙ at_j)) [
  | inl there ↦ elim (pushed_at ps p q i (ap (λ xs. slice_get xs i) (sym now) ∙ at_i)) [
    | inl first ↦ old i j q s l first there
    | inr (last, same) ↦ absurd (let w = slice_get_within ps j s there in omega (arith, l, last, w))
  ]
  | inr (end, this) ↦ elim (pushed_at ps p q i (ap (λ xs. slice_get xs i) (sym now) ∙ at_i)) [
    | inl first ↦ subst (λ (x : Place). is_before q x.file x.offset ≡ true) this (before i q first)
    | inr (last, same) ↦ absurd (omega (arith, l, last, end))
  ]
]

module _ (ps : List Place) (rise : Rise ps) (f o i : ℕ) (p : Place) (here : slice_get ps i ≡ Some p) where
  -- what is before one that is before
  pub below_more : is_before p f o ≡ true → (k : ℕ) (q : Place) → k < i + 1 → slice_get ps k ≡ Some q → is_before q f o ≡ true
  below_more is k q l at = elim (cases_lt k i) [
    | inl low ↦ before_all q p f o (rise k i q p low at here) is
    | inr up ↦
        let end : k ≡ i = omega (arith, l, up) in
        ap (λ (x : Place). is_before x f o) (same_Some q p (sym at ∙ ap (slice_get ps) end ∙ here)) ∙ is
  ]

  -- what is behind one that isn't
  pub above_more : is_before p f o ≡ false → (k : ℕ) (q : Place) → i ≤ k → slice_get ps k ≡ Some q → is_before q f o ≡ false
  above_more out k q l at = elim (cases_lt i k) [
    | inl low ↦ not_true (is_before q f o) (λ h. false≢true (sym out ∙ before_all p q f o (rise i k p q low here at) h))
    | inr up ↦
        let end : k ≡ i = omega (arith, l, up) in
        ap (λ (x : Place). is_before x f o) (same_Some q p (sym at ∙ ap (slice_get ps) end ∙ here)) ∙ out
  ]

  -- what is behind one that isn't before, nor there
  pub past : is_before p f o ≡ false → is_there f o p ≡ false → (k : ℕ) (q : Place) → i ≤ k → slice_get ps k ≡ Some q → is_there f o q ≡ false
  past out other k q l at = elim (cases_lt i k) [
    | inl low ↦ not_true (is_there f o q) (λ h.
        let same = same_place q.file q.offset f o h in
        false≢true (sym out ∙ ap (λ x. is_before p x o) (sym same.0) ∙ ap (is_before p q.file) (sym same.1) ∙ rise i k p q low here at))
    | inr up ↦
        let end : k ≡ i = omega (arith, l, up) in
        ap (is_there f o) (same_Some q p (sym at ∙ ap (slice_get ps) end ∙ here)) ∙ other
  ]

read_or : (ps : List Place) (i : ℕ) (d : Place) → i < length ps → slice_get ps i ≡ Some (get_or ps i d)
read_or [] i d h = absurd (omega (arith, h))
read_or (p ∷ ps) zero d h = refl
read_or (p ∷ ps) (suc i) d h = read_or ps i d (omega (arith, h))

-- the same of the one that is read
pub below_read : (ps : List Place) → Rise ps → (f o i : ℕ) (d : Place) → i < length ps → is_before (get_or ps i d) f o ≡ true → (k : ℕ) (q : Place) → k < i + 1 → slice_get ps k ≡ Some q → is_before q f o ≡ true
below_read ps rise f o i d h = below_more ps rise f o i (get_or ps i d) (read_or ps i d h)

pub above_read : (ps : List Place) → Rise ps → (f o i : ℕ) (d : Place) → i < length ps → is_before (get_or ps i d) f o ≡ false → (k : ℕ) (q : Place) → i ≤ k → slice_get ps k ≡ Some q → is_before q f o ≡ false
above_read ps rise f o i d h = above_more ps rise f o i (get_or ps i d) (read_or ps i d h)

-- all are before what the last is before
pub all_before : (ps : List Place) → Rise ps → (p : Place) (f o : ℕ) → slice_get ps (length ps - 1) ≡ Some p → is_before p f o ≡ true → (k : ℕ) (q : Place) → slice_get ps k ≡ Some q → is_before q f o ≡ true
all_before ps rise p f o last is k q e = below_more ps rise f o (length ps - 1) p last is k q (let w = slice_get_within ps k q e in omega (arith, w)) e

find_none : (t : Place → Bool) (ps : List Place) → ((k : ℕ) (p : Place) → slice_get ps k ≡ Some p → t p ≡ false) → find t ps ≡ None
find_none t [] h = refl
find_none t (p ∷ ps) h = ap (λ b. cond b (Some p) (find t ps)) (h 0 p refl) ∙ find_none t ps (λ k q e. h (suc k) q e)

find_at : (t : Place → Bool) (ps : List Place) (i : ℕ) (p : Place) → slice_get ps i ≡ Some p → t p ≡ true → ((k : ℕ) (q : Place) → k < i → slice_get ps k ≡ Some q → t q ≡ false) → find t ps ≡ Some p
find_at t [] i p at is h = cc
find_at t (q ∷ ps) zero p at is h =
    let same : q ≡ p = same_Some q p at in
    ap (λ b. cond b (Some q) (find t ps)) (ap t same ∙ is) ∙ ap Some same
find_at t (q ∷ ps) (suc i) p at is h =
    ap (λ b. cond b (Some q) (find t ps)) (h 0 q (omega arith) refl) ∙ find_at t ps i p at is (λ k s l e. h (suc k) s (omega (arith, l)) e)

module _ (ps : List Place) (f o count : ℕ) (below : (k : ℕ) (q : Place) → k < count → slice_get ps k ≡ Some q → is_before q f o ≡ true) where
  pub found : (p : Place) → slice_get ps count ≡ Some p → is_there f o p ≡ true → lookup_in ps f o ≡ Some p.number
  found p at is = ap (option_map (λ (q : Place). q.number)) (find_at (is_there f o) ps count p at is (λ k q l e. not_there q f o (below k q l e)))

  pub nothing : ((k : ℕ) (q : Place) → count ≤ k → slice_get ps k ≡ Some q → is_there f o q ≡ false) → lookup_in ps f o ≡ None
  nothing above = ap (option_map (λ (q : Place). q.number)) (find_none (is_there f o) ps (λ k q e. elim (cases_lt k count) [
    | inl low ↦ not_there q f o (below k q low e)
    | inr up ↦ above k q up e
  ]))

-- there is nothing behind the end
pub ended : (ps : List Place) (i : ℕ) → slice_get ps i ≡ None → (k : ℕ) (q : Place) → i ≤ k → slice_get ps k ≡ Some q → ⊥
ended [] i e k q l at = let bad : None ≡ Some q = at in cc
ended (p ∷ ps) zero e k q l at = let bad : Some p ≡ None = e in cc
ended (p ∷ ps) (suc i) e zero q l at = omega (arith, l)
ended (p ∷ ps) (suc i) e (suc k) q l at = ended ps i e k q (omega (arith, l)) at
