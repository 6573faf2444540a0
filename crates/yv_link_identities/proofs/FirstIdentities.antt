-- The first identity at each place.
use Rattle.std.proofs.Common.{◌≡◌, ℕ, ◌+◌, ◌<◌, ◌==◌, ◌&&◌, zero, suc, Bool, true, false, cond, List, [], ◌∷◌, length, get_or, take, Option, None, Some, refl, sym, ◌∙◌, ap, arith, add-one, eqb-true, eq-eqb}
use Rattle.std.specs.Bool.{one_answer}
use Rattle.std.specs.Ordering.{nat_cmp, ordering_then, is_eq}
use Rattle.std.specs.declared.cmp.Ordering.{Ordering}
use Rattle.std.specs.declared.cmp.Ordering.TheVariants.{Less, Equal, Greater}
use Rattle.std.specs.Cmp.{Equal-is, nat_cmp_is}
use Rattle.std.specs.BTreeMap.{BTreeMap, UpdatesBy}
use Rattle.std.specs.List.{slice_get, position_from}
use Rattle.std.proofs.lemmas.Map.Lookups.{exact_unsigned}
use Rattle.std.proofs.lemmas.Option.{same_Some, slice_get_read}
use Rattle.yv_link_scopes.specs.Names.{first_where}
use Rattle.yv_link_identities.specs.References.{is_at}
use Rattle.yv_link_identities.specs.InnerPlaces.{lookup_in, keep_first}
use Rattle.yv_link_scopes.specs.InnerPlaces.{first_some}
use Rattle.yv_link_identities.specs.declared.references.IdentityRef.{IdentityRef}

is_eq_then : (p q : Ordering) → is_eq (ordering_then p q) ≡ (is_eq p && is_eq q)
is_eq_then Less q = refl
is_eq_then Equal q = refl
is_eq_then Greater q = refl

is_eq_nat : (a b : ℕ) → is_eq (nat_cmp a b) ≡ (a == b)
is_eq_nat a b = one_answer (is_eq (nat_cmp a b)) (a == b)
    (λ h. exact_unsigned a b ((Equal-is (nat_cmp a b)).0 h), λ e. (Equal-is (nat_cmp a b)).1 (sym (nat_cmp_is a b Equal e)))
    (λ h. eqb-true a b h, λ e. eq-eqb a b e)

test_is : (file f offset o : ℕ) → is_eq (ordering_then (nat_cmp file f) (nat_cmp offset o)) ≡ ((file == f) && (offset == o))
test_is file f offset o = is_eq_then (nat_cmp file f) (nat_cmp offset o) ∙ ap (λ b. b && is_eq (nat_cmp offset o)) (is_eq_nat file f) ∙ ap (λ b. (file == f) && b) (is_eq_nat offset o)

both : (a b : Bool) → (a && b) ≡ true → (a ≡ true) × (b ≡ true)
both true b h = (refl, h)
both false b h = cc

pub same_place : (file f offset o : ℕ) → ((file == f) && (offset == o)) ≡ true → (file ≡ f) × (offset ≡ o)
same_place file f offset o h = let p = both (file == f) (offset == o) h in (eqb-true file f p.0, eqb-true offset o p.1)

chosen : (b : Bool) (old : Option ℕ) (node : ℕ) → (b ≡ true → old ≡ None) → cond b (Some node) old ≡ first_some old (cond b (Some node) None)
chosen true old node h = ap (λ o. first_some o (Some node)) (sym (h refl))
chosen false None node h = refl
chosen false (Some x) node h = refl

pub kept_new : (old new : BTreeMap (ℕ × ℕ) ℕ) (ref : IdentityRef) (node : ℕ) → lookup_in old ref.file ref.offset ≡ None → UpdatesBy (λ x y. ordering_then (nat_cmp x.0 y.0) (nat_cmp x.1 y.1)) (λ y. ordering_then (nat_cmp ref.file y.0) (nat_cmp ref.offset y.1)) old new (Some node) → (f o : ℕ) → lookup_in new f o ≡ keep_first (lookup_in old) ref node f o
kept_new old new ref node none u f o =
    u.0 (f, o)
    ∙ ap (λ b. cond b (Some node) (lookup_in old f o)) (test_is ref.file f ref.offset o)
    ∙ chosen ((ref.file == f) && (ref.offset == o)) (lookup_in old f o) node (λ h. let p = same_place ref.file f ref.offset o h in ap (λ k. lookup_in old k o) (sym p.0) ∙ ap (lookup_in old ref.file) (sym p.1) ∙ none)

-- the first of a list, as the list grows
first_cond : (b : Bool) (k : ℕ) (o q : Option ℕ) → cond b (Some k) (first_some o q) ≡ first_some (cond b (Some k) o) q
first_cond true k o q = refl
first_cond false k o q = refl

at_zero : (b : Bool) (k : ℕ) → cond b (Some k) None ≡ cond b (Some (k + 0)) None
at_zero b k = ap (λ n. cond b (Some n) None) (omega arith)

module _ {X : Type 0} (p : X → Bool) where
  position_more : (k i : ℕ) (xs : List X) (x : X) → slice_get xs i ≡ Some x → position_from p k (take (suc i) xs) ≡ first_some (position_from p k (take i xs)) (cond (p x) (Some (k + i)) None)
  position_more k i [] x at = cc
  position_more k zero (y ∷ xs) x at = ap (λ (z : X). cond (p z) (Some k) None) (same_Some y x at) ∙ at_zero (p x) k
  position_more k (suc i) (y ∷ xs) x at =
      let count : k + 1 + i ≡ k + suc i = omega arith in
      ap (λ o. cond (p y) (Some k) o) (position_more (k + 1) i xs x at ∙ ap (λ n. first_some (position_from p (k + 1) (take i xs)) (cond (p x) (Some n) None)) count)
      ∙ first_cond (p y) k (position_from p (k + 1) (take i xs)) (cond (p x) (Some (k + suc i)) None)

  pub first_more : (i : ℕ) (xs : List X) (x : X) → slice_get xs i ≡ Some x → first_where p (take (i + 1) xs) ≡ first_some (first_where p (take i xs)) (cond (p x) (Some i) None)
  first_more i xs x at = ap (λ n. position_from p 0 (take n xs)) (add-one i) ∙ position_more 0 i xs x at ∙ ap (λ n. first_some (position_from p 0 (take i xs)) (cond (p x) (Some n) None)) (let e : 0 + i ≡ i = omega arith in e)

pub places_more : (refs : List IdentityRef) (i : ℕ) (x : IdentityRef) (old new : ℕ → ℕ → Option ℕ) → i < length refs → x ≡ get_or refs i x → ((f o : ℕ) → old f o ≡ first_where (is_at (record { file = f; offset = o })) (take i refs)) → ((f o : ℕ) → new f o ≡ keep_first old x i f o) → (f o : ℕ) → new f o ≡ first_where (is_at (record { file = f; offset = o })) (take (i + 1) refs)
places_more refs i x old new h e before now f o =
    let q : IdentityRef = record { file = f; offset = o } in
    now f o
    ∙ ap (λ b. first_some b (cond (is_at q x) (Some i) None)) (before f o)
    ∙ sym (first_more (is_at q) i refs x (slice_get_read refs (length refs) i x refl h e))
