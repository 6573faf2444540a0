-- Sets of uses: one more, and those between two numbers.
use Rattle.std.proofs.Common.{◌≡◌, ℕ, ◌<◌, ◌≤◌, ◌==◌, ◌&&◌, ◌||◌, Bool, true, false, cond, List, [], ◌∷◌, sym, ◌∙◌, ap, refl, subst, arith, eqb-true, eq-eqb, is_gt, is_some, IsTrue, Option, Some, None, MatchOption, IfSome}
use Rattle.std.specs.Bool.{one_answer}
use Rattle.std.specs.Ordering.{nat_cmp, ordering_then, ordering_reverse, is_eq}
use Rattle.std.specs.List.{slice_get}
use Rattle.std.specs.declared.ops.Bound.{Bound}
use Rattle.std.specs.BTreeMap.Range.{IsInRange}
use Rattle.std.specs.declared.cmp.Ordering.{Ordering}
use Rattle.std.specs.declared.cmp.Ordering.TheVariants.{Less, Equal, Greater}
use Rattle.std.specs.Cmp.{Equal-is, nat_cmp_is}
use Rattle.std.specs.Cmp.Lexicographic.{slice_cmp}
use Rattle.std.specs.Str.{bytes_eq}
use Rattle.std.specs.BTreeSet.{UpdatesBy, IsKeyInRange, IsKeyRangeOf, contains}
use Rattle.std.proofs.lemmas.Bool.{false≢true}
use Rattle.std.proofs.lemmas.Map.Keys.{le_from_not_gt}
use Rattle.std.proofs.lemmas.Slice.Eq.{bytes_eq-Decides}
use Rattle.std.proofs.lemmas.Bool.Decides.{nat_tests}
use Rattle.std.proofs.lemmas.Map.Lookups.{exact_unsigned}
use Rattle.std.proofs.lemmas.Map.Text.{is_eq-slice_cmp}
use Rattle.std.proofs.lemmas.Cmp.{nat_list_cmp_total, tied_itself}
use denote.Ref.{Bor}
use Rattle.yv_lint.specs.InnerUses.{has_use}
use Rattle.yv_lint.specs.declared.use_set.UseSet.{UseSet}

is_eq_then : (p q : Ordering) → is_eq (ordering_then p q) ≡ (is_eq p && is_eq q)
is_eq_then Less q = refl
is_eq_then Equal q = refl
is_eq_then Greater q = refl

is_eq_nat : (a b : ℕ) → is_eq (nat_cmp a b) ≡ (a == b)
is_eq_nat a b = one_answer (is_eq (nat_cmp a b)) (a == b)
    (λ h. exact_unsigned a b ((Equal-is (nat_cmp a b)).0 h), λ e. (Equal-is (nat_cmp a b)).1 (sym (nat_cmp_is a b Equal e)))
    (λ h. eqb-true a b h, λ e. eq-eqb a b e)

test_is : (name n : List ℕ) (number k : ℕ) → is_eq (ordering_then (slice_cmp nat_cmp name n) (nat_cmp number k)) ≡ (bytes_eq name n && (number == k))
test_is name n number k =
    is_eq_then (slice_cmp nat_cmp name n) (nat_cmp number k)
    ∙ ap (λ b. b && is_eq (nat_cmp number k)) (is_eq-slice_cmp name n)
    ∙ ap (λ b. bytes_eq name n && b) (is_eq_nat number k)

one : (b old : Bool) → cond b true old ≡ (old || b)
one true true = refl
one true false = refl
one false true = refl
one false false = refl

pub use_added : (old new : UseSet) (name : Bor (List ℕ)) (number : ℕ) → UpdatesBy (λ x y. ordering_then (slice_cmp nat_cmp x.0.now y.0.now) (nat_cmp x.1 y.1)) (λ y. ordering_then (slice_cmp nat_cmp name.now y.0.now) (nat_cmp number y.1)) old.set new.set true → (n : List ℕ) (k : ℕ) → has_use new n k ≡ (has_use old n k || (bytes_eq name.now n && (number == k)))
use_added old new name number u n k =
    u.0 (record { ref_ptr = (0, 0); now = n }, k)
    ∙ ap (λ b. cond b true (has_use old n k)) (test_is name.now n number k)
    ∙ one (bytes_eq name.now n && (number == k)) (has_use old n k)

not_gt : (a b : ℕ) → a < b → is_gt (nat_cmp a b) ≡ false
not_gt a b lt = grind (arith, nat_tests)

pub forward : (name : List ℕ) (start end : ℕ) → start < end → is_gt (ordering_then (slice_cmp nat_cmp name name) (nat_cmp start end)) ≡ false
forward name start end lt = rw (tied_itself nat_list_cmp_total name) (not_gt start end lt)

-- ### between two numbers

at_or_after : (a b : ℕ) → a ≤ b → is_gt (nat_cmp a b) ≡ false
at_or_after a b le = grind (arith, nat_tests)

before : (a b : ℕ) → a < b → nat_cmp a b ≡ Less
before a b lt = grind (arith, nat_tests)

is_before : (a b : ℕ) → nat_cmp a b ≡ Less → a < b
is_before a b e = grind (arith, nat_tests)

-- the order of two names, both ways, if the one is in a range of the other
same_name : (o p : Ordering) (start k end : ℕ) → o ≡ ordering_reverse p → is_gt (ordering_then o (nat_cmp start k)) ≡ false → ordering_then p (nat_cmp k end) ≡ Less → (is_eq p ≡ true) × (start ≤ k) × (k < end)
same_name o Less start k end e low high = absurd (let g : is_gt (ordering_then Greater (nat_cmp start k)) ≡ false = subst (λ (x : Ordering). is_gt (ordering_then x (nat_cmp start k)) ≡ false) e low in false≢true (sym g))
same_name o Equal start k end e low high =
    let g : is_gt (nat_cmp start k) ≡ false = subst (λ (x : Ordering). is_gt (ordering_then x (nat_cmp start k)) ≡ false) e low in
    (refl, le_from_not_gt start k g, is_before k end high)
same_name o Greater start k end e low high = absurd cc

abbrev pub Between : UseSet → List ℕ → (start end : ℕ) → Type 0
Between s name start end = (k : ℕ) × (start ≤ k) × (k < end) × (has_use s name k ≡ true)

key_in : (s : UseSet) (name : Bor (List ℕ)) (start end : ℕ) (x : Bor (List ℕ) × ℕ) → IsKeyInRange (λ x y. ordering_then (slice_cmp nat_cmp x.0.now y.0.now) (nat_cmp x.1 y.1)) (Bound.Included (name, start)) (Bound.Excluded (name, end)) s.set x → Between s name.now start end
key_in s name start end x h =
    let p = same_name (slice_cmp nat_cmp name.now x.0.now) (slice_cmp nat_cmp x.0.now name.now) start x.1 end (nat_list_cmp_total.antisymm name.now x.0.now) h.0.0 h.0.1 in
    let same : x.0.now ≡ name.now = (bytes_eq-Decides x.0.now name.now).0 (sym (is_eq-slice_cmp x.0.now name.now) ∙ p.0) in
    (x.1, p.1, p.2, ap (λ (n : List ℕ). has_use s n x.1) (sym same) ∙ h.1)

first_in : (s : UseSet) (name : Bor (List ℕ)) (start end : ℕ) (r m : List (Bor (List ℕ) × ℕ)) (x : Bor (List ℕ) × ℕ) → IfSome (slice_get r 0) (IsKeyInRange (λ x y. ordering_then (slice_cmp nat_cmp x.0.now y.0.now) (nat_cmp x.1 y.1)) (Bound.Included (name, start)) (Bound.Excluded (name, end)) s.set) → r ≡ x ∷ m → Between s name.now start end
first_in s name start end r m x h e = key_in s name start end x (subst (λ (q : List (Bor (List ℕ) × ℕ)). IfSome (slice_get q 0) (IsKeyInRange (λ x y. ordering_then (slice_cmp nat_cmp x.0.now y.0.now) (nat_cmp x.1 y.1)) (Bound.Included (name, start)) (Bound.Excluded (name, end)) s.set)) e h)

none_in : (s : UseSet) (name : Bor (List ℕ)) (start end : ℕ) → ((q : Bor (List ℕ) × ℕ) → IsInRange (λ x y. ordering_then (slice_cmp nat_cmp x.0.now y.0.now) (nat_cmp x.1 y.1)) (Bound.Included (name, start)) (Bound.Excluded (name, end)) q → contains (λ x y. ordering_then (slice_cmp nat_cmp x.0.now y.0.now) (nat_cmp x.1 y.1)) s.set q ≡ false) → Between s name.now start end → ⊥
none_in s name start end h b =
    let itself : slice_cmp nat_cmp name.now name.now ≡ Equal = tied_itself nat_list_cmp_total name.now in
    let low : is_gt (ordering_then (slice_cmp nat_cmp name.now name.now) (nat_cmp start b.0)) ≡ false = rw itself (at_or_after start b.0 b.1) in
    let high : ordering_then (slice_cmp nat_cmp name.now name.now) (nat_cmp b.0 end) ≡ Less = rw itself (before b.0 end b.2) in
    false≢true (sym (h (name, b.0) (low, high)) ∙ b.3)

pub between_is : (s : UseSet) (name : Bor (List ℕ)) (start end : ℕ) (r m : List (Bor (List ℕ) × ℕ)) (o : Option (Bor (Bor (List ℕ) × ℕ))) (found : Bool) → IsKeyRangeOf (λ x y. ordering_then (slice_cmp nat_cmp x.0.now y.0.now) (nat_cmp x.1 y.1)) (Bound.Included (name, start)) (Bound.Excluded (name, end)) s.set r → MatchOption o ((r ≡ []) × (m ≡ [])) (λ x. r ≡ x.now ∷ m) → found ≡ is_some o → (IsTrue found → Between s name.now start end) × (Between s name.now start end → IsTrue found)
between_is s name start end r m None found range step e = (λ t. absurd (false≢true (sym e ∙ t)), λ b. absurd (none_in s name start end (range.5 step.0) b))
between_is s name start end r m (Some x) found range step e = (λ t. first_in s name start end r m x.now range.1 step, λ b. e)
