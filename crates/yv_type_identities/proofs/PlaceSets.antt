-- Sets of places.
use Rattle.std.proofs.Common.{◌≡◌, ℕ, ◌+◌, ◌<◌, ◌==◌, ◌&&◌, ◌||◌, Bool, true, false, cond, List, [], ◌∷◌, length, get_or, take, refl, sym, ◌∙◌, ap, eqb-true}
use Rattle.std.specs.Ordering.{nat_cmp, ordering_then, is_eq}
use Rattle.std.specs.declared.cmp.Ordering.{Ordering}
use Rattle.std.specs.declared.cmp.Ordering.TheVariants.{Less, Equal, Greater}
use Rattle.std.specs.BTreeSet.{BTreeSet, UpdatesBy}
use Rattle.std.specs.List.{list_any}
use Rattle.std.proofs.lemmas.List.Folds.{list_any_more}
use Rattle.yv_link_identities.specs.References.{is_at}
use Rattle.yv_link_identities.specs.declared.references.IdentityRef.{IdentityRef}
use Rattle.yv_type_identities.specs.InnerSets.{has_key, is_key}
use Rattle.yv_type_identities.proofs.Numbers.{is_eq_nat, either}
use Rattle.yv_type_identities.proofs.RowLoop.{both}

is_eq_then : (p q : Ordering) → is_eq (ordering_then p q) ≡ (is_eq p && is_eq q)
is_eq_then Less q = refl
is_eq_then Equal q = refl
is_eq_then Greater q = refl

pub test_is : (file f offset o : ℕ) → is_eq (ordering_then (nat_cmp file f) (nat_cmp offset o)) ≡ ((file == f) && (offset == o))
test_is file f offset o = is_eq_then (nat_cmp file f) (nat_cmp offset o) ∙ ap (λ b. b && is_eq (nat_cmp offset o)) (is_eq_nat file f) ∙ ap (λ b. (file == f) && b) (is_eq_nat offset o)

pub added : (old new : BTreeSet (ℕ × ℕ)) (ref : IdentityRef) → UpdatesBy (λ x y. ordering_then (nat_cmp x.0 y.0) (nat_cmp x.1 y.1)) (λ y. ordering_then (nat_cmp ref.file y.0) (nat_cmp ref.offset y.1)) old new true → (place : IdentityRef) → has_key new place.file place.offset ≡ (has_key old place.file place.offset || is_at place ref)
added old new ref u place =
    u.0 (place.file, place.offset)
    ∙ ap (λ b. cond b true (has_key old place.file place.offset)) (test_is ref.file place.file ref.offset place.offset)
    ∙ either (is_at place ref) (has_key old place.file place.offset)

-- those of the first identities that are in a set
abbrev pub Narrowing : (IdentityRef → Bool) → List IdentityRef → ℕ → (IdentityRef → Bool) → Type 0
Narrowing left refs n both = (place : IdentityRef) → both place ≡ (left place && list_any (is_at place) (take n refs))

joined : (a b c : Bool) → (c ≡ true → a ≡ true) → (a && b || c) ≡ (a && (b || c))
joined true b c h = refl
joined false b false h = refl
joined false b true h = sym (h refl)

dropped : (a b c : Bool) → (c ≡ true → a ≡ false) → (a && b) ≡ (a && (b || c))
dropped false b c h = refl
dropped true true c h = refl
dropped true false false h = refl
dropped true false true h = sym (h refl)

pub same_at : (place ref : IdentityRef) → is_at place ref ≡ true → place ≡ ref
same_at place ref h =
    let p = both (ref.file == place.file) (ref.offset == place.offset) h in
    let file : ref.file ≡ place.file = eqb-true ref.file place.file p.0 in
    let offset : ref.offset ≡ place.offset = eqb-true ref.offset place.offset p.1 in
    let make : ℕ → ℕ → IdentityRef = λ f o. record { file = f; offset = o } in
    ap (λ f. make f place.offset) (sym file) ∙ ap (make ref.file) (sym offset)

-- one more identity that is in the set
pub narrowing_in : (left : IdentityRef → Bool) (refs : List IdentityRef) (n : ℕ) (ref : IdentityRef) (old new : IdentityRef → Bool) → n < length refs → ref ≡ get_or refs n ref → left ref ≡ true → Narrowing left refs n old → ((place : IdentityRef) → new place ≡ (old place || is_at place ref)) → Narrowing left refs (n + 1) new
narrowing_in left refs n ref old new within at is_in before now place =
    now place
    ∙ ap (λ b. b || is_at place ref) (before place)
    ∙ joined (left place) (list_any (is_at place) (take n refs)) (is_at place ref) (λ h. ap left (same_at place ref h) ∙ is_in)
    ∙ ap (λ r. left place && (list_any (is_at place) (take n refs) || is_at place r)) at
    ∙ sym (ap (λ b. left place && b) (list_any_more (is_at place) refs n ref within))

-- one more that isn't
pub narrowing_out : (left : IdentityRef → Bool) (refs : List IdentityRef) (n : ℕ) (ref : IdentityRef) (old : IdentityRef → Bool) → n < length refs → ref ≡ get_or refs n ref → left ref ≡ false → Narrowing left refs n old → Narrowing left refs (n + 1) old
narrowing_out left refs n ref old within at is_out before place =
    before place
    ∙ dropped (left place) (list_any (is_at place) (take n refs)) (is_at place ref) (λ h. ap left (same_at place ref h) ∙ is_out)
    ∙ ap (λ r. left place && (list_any (is_at place) (take n refs) || is_at place r)) at
    ∙ sym (ap (λ b. left place && b) (list_any_more (is_at place) refs n ref within))

-- one more identity
pub more_in : (refs : List IdentityRef) (n : ℕ) (ref : IdentityRef) (old new : IdentityRef → Bool) → n < length refs → ref ≡ get_or refs n ref → ((place : IdentityRef) → old place ≡ list_any (is_at place) (take n refs)) → ((place : IdentityRef) → new place ≡ (old place || is_at place ref)) → (place : IdentityRef) → new place ≡ list_any (is_at place) (take (n + 1) refs)
more_in refs n ref old new within at before now place =
    now place
    ∙ ap (λ b. b || is_at place ref) (before place)
    ∙ ap (λ r. list_any (is_at place) (take n refs) || is_at place r) at
    ∙ sym (list_any_more (is_at place) refs n ref within)

pub key_is : (place : IdentityRef) (k : ℕ × ℕ) → is_key place k ≡ is_eq (ordering_then (nat_cmp place.file k.0) (nat_cmp place.offset k.1))
key_is place k = sym (test_is place.file k.0 place.offset k.1)

-- the files and offsets in a set, one by one
pub keys_in : (place : IdentityRef) (keys : List (ℕ × ℕ)) → list_any (is_key place) keys ≡ list_any (λ k. is_eq (ordering_then (nat_cmp place.file k.0) (nat_cmp place.offset k.1))) keys
keys_in place [] = refl
keys_in place (k ∷ keys) =
    ap (λ b. b || list_any (is_key place) keys) (key_is place k)
    ∙ ap (λ b. is_eq (ordering_then (nat_cmp place.file k.0) (nat_cmp place.offset k.1)) || b) (keys_in place keys)
