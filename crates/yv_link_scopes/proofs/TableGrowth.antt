-- One more name in a table.
use Rattle.std.proofs.Common.{◌≡◌, ℕ, ◌==◌, ◌&&◌, Bool, true, false, cond, List, Option, None, Some, refl, sym, ◌∙◌, ap, eqb-true, eq-eqb}
use Rattle.std.specs.Bool.{one_answer}
use Rattle.std.specs.Ordering.{nat_cmp, ordering_then, is_eq}
use Rattle.std.specs.declared.cmp.Ordering.{Ordering}
use Rattle.std.specs.declared.cmp.Ordering.TheVariants.{Less, Equal, Greater}
use Rattle.std.specs.Cmp.{Equal-is, nat_cmp_is}
use Rattle.std.specs.Cmp.Lexicographic.{slice_cmp}
use Rattle.std.specs.Str.{bytes_eq}
use Rattle.std.specs.BTreeMap.{BTreeMap, UpdatesBy}
use Rattle.std.proofs.lemmas.Map.Lookups.{exact_unsigned}
use Rattle.std.proofs.lemmas.Map.Text.{is_eq-slice_cmp}
use Rattle.std.proofs.lemmas.Slice.Eq.{bytes_eq-Decides}
use denote.Ref.{Bor}
use Rattle.yv_link_scopes.specs.Tables.{Table, lookup_in, is_same}
use Rattle.yv_link_scopes.specs.InnerPlaces.{keep_first, first_some}

is_eq_then : (p q : Ordering) → is_eq (ordering_then p q) ≡ (is_eq p && is_eq q)
is_eq_then Less q = refl
is_eq_then Equal q = refl
is_eq_then Greater q = refl

is_eq_nat : (a b : ℕ) → is_eq (nat_cmp a b) ≡ (a == b)
is_eq_nat a b = one_answer (is_eq (nat_cmp a b)) (a == b)
    (λ h. exact_unsigned a b ((Equal-is (nat_cmp a b)).0 h), λ e. (Equal-is (nat_cmp a b)).1 (sym (nat_cmp_is a b Equal e)))
    (λ h. eqb-true a b h, λ e. eq-eqb a b e)

test_is : (scope s : ℕ) (name n : List ℕ) → is_eq (ordering_then (nat_cmp scope s) (slice_cmp nat_cmp name n)) ≡ is_same s n scope name
test_is scope s name n = is_eq_then (nat_cmp scope s) (slice_cmp nat_cmp name n) ∙ ap (λ b. b && is_eq (slice_cmp nat_cmp name n)) (is_eq_nat scope s) ∙ ap (λ b. (scope == s) && b) (is_eq-slice_cmp name n)

both : (a b : Bool) → (a && b) ≡ true → (a ≡ true) × (b ≡ true)
both true b h = (refl, h)
both false b h = cc

pub same_parts : (s : ℕ) (n : List ℕ) (scope : ℕ) (name : List ℕ) → is_same s n scope name ≡ true → (scope ≡ s) × (name ≡ n)
same_parts s n scope name h = let p = both (scope == s) (bytes_eq name n) h in (eqb-true scope s p.0, (bytes_eq-Decides name n).0 p.1)

chosen : (b : Bool) (old : Option ℕ) (place : ℕ) → (b ≡ true → old ≡ None) → cond b (Some place) old ≡ first_some old (cond b (Some place) None)
chosen true old place h = ap (λ o. first_some o (Some place)) (sym (h refl))
chosen false None place h = refl
chosen false (Some x) place h = refl

pub kept_new : (old new : BTreeMap (ℕ × Bor (List ℕ)) ℕ) (scope : ℕ) (name : Bor (List ℕ)) (place : ℕ) → lookup_in old scope name.now ≡ None → UpdatesBy (λ x y. ordering_then (nat_cmp x.0 y.0) (slice_cmp nat_cmp x.1.now y.1.now)) (λ y. ordering_then (nat_cmp scope y.0) (slice_cmp nat_cmp name.now y.1.now)) old new (Some place) → (s : ℕ) (n : List ℕ) → lookup_in new s n ≡ keep_first (lookup_in old) scope name.now place s n
kept_new old new scope name place none u s n =
    u.0 (s, record { ref_ptr = (0, 0); now = n })
    ∙ ap (λ b. cond b (Some place) (lookup_in old s n)) (test_is scope s name.now n)
    ∙ chosen (is_same s n scope name.now) (lookup_in old s n) place (λ h. let p = same_parts s n scope name.now h in ap (λ k. lookup_in old k n) (sym p.0) ∙ ap (lookup_in old scope) (sym p.1) ∙ none)

back : (b : Bool) (old : Option ℕ) (place x : ℕ) → (b ≡ true → old ≡ Some x) → cond b (Some x) (cond b (Some place) old) ≡ first_some old (cond b (Some place) None)
back true old place x h = ap (λ o. first_some o (Some place)) (sym (h refl))
back false None place x h = refl
back false (Some y) place x h = refl

-- one that was there is put back
pub kept_back : (old mid new : BTreeMap (ℕ × Bor (List ℕ)) ℕ) (scope : ℕ) (name : Bor (List ℕ)) (place x : ℕ) → Some x ≡ lookup_in old scope name.now → UpdatesBy (λ x y. ordering_then (nat_cmp x.0 y.0) (slice_cmp nat_cmp x.1.now y.1.now)) (λ y. ordering_then (nat_cmp scope y.0) (slice_cmp nat_cmp name.now y.1.now)) old mid (Some place) → UpdatesBy (λ x y. ordering_then (nat_cmp x.0 y.0) (slice_cmp nat_cmp x.1.now y.1.now)) (λ y. ordering_then (nat_cmp scope y.0) (slice_cmp nat_cmp name.now y.1.now)) mid new (Some x) → (s : ℕ) (n : List ℕ) → lookup_in new s n ≡ keep_first (lookup_in old) scope name.now place s n
kept_back old mid new scope name place x some u v s n =
    v.0 (s, record { ref_ptr = (0, 0); now = n })
    ∙ ap (λ b. cond b (Some x) (lookup_in mid s n)) (test_is scope s name.now n)
    ∙ ap (λ o. cond (is_same s n scope name.now) (Some x) o) (u.0 (s, record { ref_ptr = (0, 0); now = n }) ∙ ap (λ b. cond b (Some place) (lookup_in old s n)) (test_is scope s name.now n))
    ∙ back (is_same s n scope name.now) (lookup_in old s n) place x (λ h. let p = same_parts s n scope name.now h in ap (λ k. lookup_in old k n) (sym p.0) ∙ ap (lookup_in old scope) (sym p.1) ∙ sym some)

-- a name that is there stays
pub kept_old : (table : Table) (scope : ℕ) (name : List ℕ) (place x : ℕ) → table scope name ≡ Some x → (s : ℕ) (n : List ℕ) → table s n ≡ keep_first table scope name place s n
kept_old table scope name place x some s n = stays (is_same s n scope name) (table s n) (λ h. let p = same_parts s n scope name h in (x, ap (λ k. table k n) (sym p.0) ∙ ap (table scope) (sym p.1) ∙ some))
  where
    stays : (b : Bool) (old : Option ℕ) → (b ≡ true → (y : ℕ) × (old ≡ Some y)) → old ≡ first_some old (cond b (Some place) None)
    stays true None h = absurd (let e = (h refl).1 in cc)
    stays true (Some y) h = refl
    stays false None h = refl
    stays false (Some y) h = refl
