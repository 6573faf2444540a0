-- The first node of each key.
use Rattle.std.proofs.Common.{◌≡◌, ◌⊎◌, inl, inr, ℕ, ◌==◌, ◌&&◌, Bool, true, false, cond, is_some, refl, sym, ◌∙◌, ap, Option, Some, None, eqb-true, eq-eqb}
use Rattle.std.specs.Bool.{one_answer}
use Rattle.std.specs.Ordering.{nat_cmp, ordering_then, is_eq}
use Rattle.std.specs.declared.cmp.Ordering.{Ordering}
use Rattle.std.specs.declared.cmp.Ordering.TheVariants.{Less, Equal, Greater}
use Rattle.std.specs.Cmp.{Equal-is, nat_cmp_is}
use Rattle.std.specs.BTreeMap.{BTreeMap, UpdatesBy}
use Rattle.std.proofs.lemmas.Bool.{false≢true}
use Rattle.std.proofs.lemmas.Map.Lookups.{exact_unsigned}
use Rattle.yv_node_leafrefs.specs.InnerIndex.{Key, lookup_in, is_same, kept_first}

is_eq_then : (p q : Ordering) → is_eq (ordering_then p q) ≡ (is_eq p && is_eq q)
is_eq_then Less q = refl
is_eq_then Equal q = refl
is_eq_then Greater q = refl

is_eq_nat : (a b : ℕ) → is_eq (nat_cmp a b) ≡ (a == b)
is_eq_nat a b = one_answer (is_eq (nat_cmp a b)) (a == b)
    (λ h. exact_unsigned a b ((Equal-is (nat_cmp a b)).0 h), λ e. (Equal-is (nat_cmp a b)).1 (sym (nat_cmp_is a b Equal e)))
    (λ h. eqb-true a b h, λ e. eq-eqb a b e)

same_key : (j k : Key) → is_eq (ordering_then (ordering_then (nat_cmp j.0 k.0) (nat_cmp j.1 k.1)) (nat_cmp j.2 k.2)) ≡ is_same j k
same_key j k =
    is_eq_then (ordering_then (nat_cmp j.0 k.0) (nat_cmp j.1 k.1)) (nat_cmp j.2 k.2)
    ∙ ap (λ b. b && is_eq (nat_cmp j.2 k.2)) (is_eq_then (nat_cmp j.0 k.0) (nat_cmp j.1 k.1))
    ∙ ap (λ b. (b && is_eq (nat_cmp j.1 k.1)) && is_eq (nat_cmp j.2 k.2)) (is_eq_nat j.0 k.0)
    ∙ ap (λ b. ((j.0 == k.0) && b) && is_eq (nat_cmp j.2 k.2)) (is_eq_nat j.1 k.1)
    ∙ ap (λ b. ((j.0 == k.0) && (j.1 == k.1)) && b) (is_eq_nat j.2 k.2)

both_true : (a b : Bool) → (a && b) ≡ true → (a ≡ true) × (b ≡ true)
both_true true b h = (refl, h)
both_true false b h = absurd (false≢true h)

pub key_is : (j k : Key) → is_same j k ≡ true → j ≡ k
key_is j k h =
    let all = both_true ((j.0 == k.0) && (j.1 == k.1)) (j.2 == k.2) h in
    let two = both_true (j.0 == k.0) (j.1 == k.1) all.0 in
    let a : j.0 ≡ k.0 = eqb-true j.0 k.0 two.0 in
    let b : j.1 ≡ k.1 = eqb-true j.1 k.1 two.1 in
    let d : j.2 ≡ k.2 = eqb-true j.2 k.2 all.1 in
    three a b d
  where
    three : {a x b y d z : ℕ} → a ≡ x → b ≡ y → d ≡ z → ◌≡◌ {A = Key} (a, b, d) (x, y, z)
    three p q r = cc

pub is_same_self : (k : Key) → is_same k k ≡ true
is_same_self k = rw (eq-eqb k.0 k.0 refl, eq-eqb k.1 k.1 refl, eq-eqb k.2 k.2 refl) refl

none_of : (o : Option ℕ) → is_some o ≡ false → o ≡ None
none_of None h = refl
none_of (Some x) h = absurd (false≢true (sym h))

some_of : (o : Option ℕ) → is_some o ≡ true → (x : ℕ) × (o ≡ Some x)
some_of None h = absurd (false≢true h)
some_of (Some x) h = (x, refl)

chosen : (b : Bool) (old : Option ℕ) (j k : Key) (number : ℕ) → b ≡ is_same j k → (b ≡ true → old ≡ None) → cond b (Some number) old ≡ kept_first j number old k
chosen b None j k number e h = ap (λ t. cond t (Some number) None) e
chosen false (Some x) j k number e h = refl
chosen true (Some x) j k number e h = absurd (let c = h refl in let g : Some x ≡ None = c in cc)

stays : (old : Option ℕ) (j k : Key) (number x : ℕ) → (is_same j k ≡ true → old ≡ Some x) → old ≡ kept_first j number old k
stays (Some y) j k number x h = refl
stays None j k number x h = elim (true_or (is_same j k)) [
  | inl same ↦ absurd (let g : None ≡ Some x = h same in cc)
  | inr other ↦ ap (λ b. cond b (Some number) None) (sym other)
]
  where
    true_or : (b : Bool) → (b ≡ true) ⊎ (b ≡ false)
    true_or true = inl refl
    true_or false = inr refl

-- a key that is new
pub put_new : (old new : BTreeMap Key ℕ) (j : Key) (number : ℕ) → is_some (lookup_in old j) ≡ false
    → UpdatesBy (λ (x y : Key). ordering_then (ordering_then (nat_cmp x.0 y.0) (nat_cmp x.1 y.1)) (nat_cmp x.2 y.2)) (λ (y : Key). ordering_then (ordering_then (nat_cmp j.0 y.0) (nat_cmp j.1 y.1)) (nat_cmp j.2 y.2)) old new (Some number)
    → (k : Key) → lookup_in new k ≡ kept_first j number (lookup_in old k) k
put_new old new j number absent u k =
    u.0 k
    ∙ ap (λ b. cond b (Some number) (lookup_in old k)) (same_key j k)
    ∙ chosen (is_same j k) (lookup_in old k) j k number refl (λ h. ap (lookup_in old) (sym (key_is j k h)) ∙ none_of (lookup_in old j) absent)

-- a key that is there
pub put_old : (old : BTreeMap Key ℕ) (j : Key) (number : ℕ) → is_some (lookup_in old j) ≡ true → (k : Key) → lookup_in old k ≡ kept_first j number (lookup_in old k) k
put_old old j number there k =
    let found = some_of (lookup_in old j) there in
    stays (lookup_in old k) j k number found.0 (λ h. ap (lookup_in old) (sym (key_is j k h)) ∙ found.1)
