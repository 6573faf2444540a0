-- Which leafs the keys and `unique` statements of lists name.
use Rattle.std.proofs.Common.{◌≡◌, ℕ, zero, suc, ◌<◌, ◌==◌, List, [], ◌∷◌, length, Bool, true, false, cond, ◌||◌, ◌⊎◌, inl, inr, Option, refl, sym, ap, ◌∙◌, arith, eqb-true, eq-eqb, BTreeSet}
use Rattle.std.specs.Bool.{one_answer}
use Rattle.std.specs.BTreeSet.{contains}
use Rattle.std.specs.Cmp.{Equal-is, nat_cmp_is}
use Rattle.std.specs.List.{slice_index_or}
use Rattle.std.specs.Ordering.{nat_cmp, is_eq}
use Rattle.std.specs.declared.cmp.Ordering.TheVariants.{Equal}
use Rattle.std.proofs.lemmas.Bool.{cases_Bool, true≢false}
use Rattle.std.proofs.lemmas.Map.Lookups.{exact_unsigned}
use Rattle.yv_nodes.specs.declared.node.NodeId.{NodeId}
use Rattle.yv_nodes.specs.Rows.{Rows}
use Rattle.yv_data_quiet.specs.NamedLeafs.{are_named, is_named, keys_at, list_names, named_before, some_named, uniques_at}

pub or_left : (a b : Bool) → a ≡ true → (a || b) ≡ true
or_left true b e = refl
or_left false b e = absurd (true≢false (sym e))

pub or_right : (a b : Bool) → b ≡ true → (a || b) ≡ true
or_right true b e = refl
or_right false b e = e

pub or_neither : (a b : Bool) → (a || b) ≡ false → (a ≡ false) × (b ≡ false)
or_neither true b e = absurd (true≢false e)
or_neither false b e = (refl, e)

-- what is one of two, of three
pub or_turn : (a b c : Bool) → ((a || b) || c) ≡ (b || (a || c))
or_turn true true c = refl
or_turn true false c = refl
or_turn false b c = refl

pub or_apart : (a b c : Bool) → ((a || b) || c) ≡ (a || (b || c))
or_apart true b c = refl
or_apart false b c = refl

pub one_number : (p q : NodeId) → p.0 ≡ q.0 → p ≡ q
one_number p q e = λ i. record { 0 = e i }

last_or : (i n : ℕ) → i < suc n → (i < n) ⊎ (i ≡ n)
last_or i n lt = grind arith

-- one of the first nodes names it
before : (s : Rows) (many : ℕ) (p : NodeId) (n : ℕ) → p.0 < many → list_names s p n ≡ true → named_before s many n ≡ true
before s zero p n lt e = absurd (omega arith)
before s (suc i) p n lt e =
    let q : NodeId = record { 0 = i } in
    elim (last_or p.0 i lt) [
      | inl less ↦ or_right (list_names s q n) (named_before s i n) (before s i p n less e)
      | inr same ↦ or_left (list_names s q n) (named_before s i n) (ap (λ (m : NodeId). list_names s m n) (sym (one_number p q same)) ∙ e)
    ]

-- what the key of a list names
pub by_key : (s : Rows) (p : NodeId) (n : ℕ) → p.0 < length s.nodes → are_named (keys_at s p) n ≡ true → is_named s n ≡ true
by_key s p n lt e = before s (length s.nodes) p n lt (or_left (are_named (keys_at s p) n) (some_named (uniques_at s p) n) e)

some_at : (us : List (List (Option NodeId))) (i n : ℕ) → i < length us → are_named (slice_index_or us i []) n ≡ true → some_named us n ≡ true
some_at [] i n lt e = absurd (omega arith)
some_at (u ∷ us) zero n lt e = or_left (are_named u n) (some_named us n) e
some_at (u ∷ us) (suc i) n lt e = or_right (are_named u n) (some_named us n) (some_at us i n (omega arith) e)

-- what one of its `unique` statements names
pub by_unique : (s : Rows) (p : NodeId) (i n : ℕ) → p.0 < length s.nodes → i < length (uniques_at s p) → are_named (slice_index_or (uniques_at s p) i []) n ≡ true
    → is_named s n ≡ true
by_unique s p i n lt less e =
    before s (length s.nodes) p n lt (or_right (are_named (keys_at s p) n) (some_named (uniques_at s p) n) (some_at (uniques_at s p) i n less e))

-- what isn't named is another one
pub named_apart : (s : Rows) (a b : ℕ) → is_named s a ≡ false → is_named s b ≡ true → (a == b) ≡ false
named_apart s a b unnamed named = elim (cases_Bool (a == b)) [
  | inl e ↦ absurd (true≢false (sym named ∙ sym (ap (is_named s) (eqb-true a b e)) ∙ unnamed))
  | inr e ↦ e
]

-- ---- as they are gathered

pub is_eq_nat : (a b : ℕ) → is_eq (nat_cmp a b) ≡ (a == b)
is_eq_nat a b = one_answer (is_eq (nat_cmp a b)) (a == b)
    (λ h. exact_unsigned a b ((Equal-is (nat_cmp a b)).0 h), λ e. (Equal-is (nat_cmp a b)).1 (sym (nat_cmp_is a b Equal e)))
    (λ h. eqb-true a b h, λ e. eq-eqb a b e)

either : (a b : Bool) → cond a true b ≡ (a || b)
either true b = refl
either false b = refl

-- a set with one number more
pub one_more : (old new : BTreeSet ℕ) (a : ℕ) → ((q : ℕ) → contains nat_cmp new q ≡ cond (is_eq (nat_cmp a q)) true (contains nat_cmp old q))
    → (n : ℕ) → contains nat_cmp new n ≡ ((a == n) || contains nat_cmp old n)
one_more old new a u n = u n ∙ ap (λ (b : Bool). cond b true (contains nat_cmp old n)) (is_eq_nat a n) ∙ either (a == n) (contains nat_cmp old n)
