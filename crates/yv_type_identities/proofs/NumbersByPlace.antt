-- Numbers by files and offsets.
use Rattle.std.proofs.Common.{◌≡◌, ◌↔◌, ℕ, ◌+◌, ◌<◌, ◌==◌, ◌&&◌, ◌||◌, ◌++◌, ◌∷◌, [], zero, suc, inl, inr, Bool, true, false, IsTrue, cond, List, length, get_or, take, Vec, Option, None, Some, Ordering, refl, sym, ◌∙◌, ap, arith, nat_eq, nat_lt, eqb-true}
use Rattle.std.proofs.lemmas.Bool.{cases_Bool}
use Rattle.std.proofs.lemmas.Bool.Decides.{nat_tests}
use Rattle.std.proofs.lemmas.List.Folds.{list_any-append, list_any_more}
use Rattle.std.proofs.lemmas.Option.{slice_get_within}
use Rattle.std.specs.BTreeMap.{get, is_at}
use Rattle.std.specs.List.{slice_get, list_any}
use Rattle.std.specs.Option.{option_map, unwrap_or}
use Rattle.std.specs.Ordering.{nat_cmp, ordering_then}
use Rattle.std.specs.declared.alloc.Global.{Global}
use Rattle.yv_link_identities.specs.declared.references.IdentityRef.{IdentityRef}
use Rattle.yv_type_identities.specs.InnerPlaces.{ArePlaced, is_kept, numbers_at, stands_at}
use Rattle.yv_type_identities.specs.InnerSets.{has, is_key, is_left}
use Rattle.yv_type_identities.specs.declared.candidates.Candidate.{Candidate}
use Rattle.yv_type_identities.specs.declared.places.CandidatePlaces.{CandidatePlaces}
use Rattle.yv_type_identities.specs.declared.sets.References.{References}
use Rattle.yv_type_identities.proofs.ListMembers.{any_one}
use Rattle.yv_type_identities.proofs.KeyLists.{same_pair}
use Rattle.yv_type_identities.proofs.PlaceSets.{key_is}
use Rattle.yv_type_identities.proofs.RowLoop.{both, found, finds}

abbrev pub order : ℕ × ℕ → ℕ × ℕ → Ordering
order x y = ordering_then (nat_cmp x.0 y.0) (nat_cmp x.1 y.1)

-- a number behind others
pub any_behind : {X : Type 0} (p : X → Bool) (xs : List X) (x : X) → list_any p (xs ++ x ∷ []) ≡ (list_any p xs || p x)
any_behind p xs x = list_any-append p xs (x ∷ []) ∙ ap (λ b. list_any p xs || b) (any_one p x)

same_key : (place : IdentityRef) (k : ℕ × ℕ) → is_key place k ≡ true → (place.file, place.offset) ≡ k
same_key place k h =
    let p = both (place.file == k.0) (place.offset == k.1) h in
    same_pair (place.file, place.offset) k (eqb-true place.file k.0 p.0) (eqb-true place.offset k.1 p.1)

when_is : (a b c : Bool) → b ≡ true → (a || c) ≡ (a || (b && c))
when_is a true c h = refl
when_is a false c h = cc

when_not : (a b c : Bool) → b ≡ false → a ≡ (a || (b && c))
when_not true b c h = refl
when_not false false c h = refl
when_not false true c h = cc

-- what is kept where a look-up finds nothing
pub first_items : (o : Option (Vec ℕ Global)) (d : Vec ℕ Global) → d.items ≡ [] → (unwrap_or o d).items ≡ unwrap_or (option_map (λ v. v.items) o) []
first_items None d e = e
first_items (Some v) d e = refl

-- one number more at a place
pub kept_more : (old new : CandidatePlaces) (place : IdentityRef) (number : ℕ) (w : Vec ℕ Global) → ((q : ℕ × ℕ) → get order new.map q ≡ cond (is_at (order (place.file, place.offset)) q) (Some w) (get order old.map q))
    → w.items ≡ numbers_at old (place.file, place.offset) ++ number ∷ [] → (k : ℕ × ℕ) (n : ℕ) → is_kept new k n ≡ (is_kept old k n || (is_key place k && (n == number)))
kept_more old new place number w updates more k n = elim (cases_Bool (is_key place k)) [
  | inl t ↦
      let at : is_at (order (place.file, place.offset)) k ≡ true = sym (key_is place k) ∙ t in
      let now : numbers_at new k ≡ numbers_at old k ++ number ∷ [] =
      ap (λ (o : Option (Vec ℕ Global)). unwrap_or (option_map (λ v. v.items) o) []) (updates k ∙ ap (λ b. cond b (Some w) (get order old.map k)) at)
      ∙ more ∙ ap (λ q. numbers_at old q ++ number ∷ []) (same_key place k t) in
      ap (list_any (nat_eq n)) now ∙ any_behind (nat_eq n) (numbers_at old k) number ∙ when_is (is_kept old k n) (is_key place k) (n == number) t
  | inr f ↦
      let at : is_at (order (place.file, place.offset)) k ≡ false = sym (key_is place k) ∙ f in
      let now : numbers_at new k ≡ numbers_at old k =
      ap (λ (o : Option (Vec ℕ Global)). unwrap_or (option_map (λ v. v.items) o) []) (updates k ∙ ap (λ b. cond b (Some w) (get order old.map k)) at) in
      ap (list_any (nat_eq n)) now ∙ when_not (is_kept old k n) (is_key place k) (n == number) f
]

-- the places of the first candidates are kept
abbrev pub PlacedFirst : List Candidate → ℕ → CandidatePlaces → Type 0
PlacedFirst cs n places = (k : ℕ × ℕ) (number : ℕ) → is_kept places k number ≡ (nat_lt number n && stands_at cs k number)

below_more : (number n : ℕ) → nat_lt number (n + 1) ≡ (nat_lt number n || (number == n))
below_more number n = grind (arith, nat_tests)

shared : (a b s i : Bool) → (b ≡ true → s ≡ i) → ((a && s) || (i && b)) ≡ ((a || b) && s)
shared true true true true h = refl
shared true true true false h = refl
shared true true false true h = sym (h refl)
shared true true false false h = refl
shared true false true i h = refl
shared true false false true h = refl
shared true false false false h = refl
shared false true s true h = sym (h refl)
shared false true s false h = sym (h refl)
shared false false s true h = refl
shared false false s false h = refl

pub placed_none : (cs : List Candidate) (places : CandidatePlaces) → ((k : ℕ × ℕ) (number : ℕ) → is_kept places k number ≡ false) → PlacedFirst cs 0 places
placed_none cs places none k number = none k number ∙ grind (arith, nat_tests)

pub placed_more : (cs : List Candidate) (n : ℕ) (c : Candidate) (old new : CandidatePlaces) → slice_get cs n ≡ Some c → ((k : ℕ × ℕ) (q : ℕ) → is_kept new k q ≡ (is_kept old k q || (is_key c.identity k && (q == n)))) → PlacedFirst cs n old → PlacedFirst cs (n + 1) new
placed_more cs n c old new at now before k q =
    let here : (q == n) ≡ true → stands_at cs k q ≡ is_key c.identity k =
    λ e. ap (λ o. unwrap_or (option_map (λ (d : Candidate). is_key d.identity k) o) false) (ap (slice_get cs) (eqb-true q n e) ∙ at) in
    now k q
    ∙ ap (λ b. b || (is_key c.identity k && (q == n))) (before k q)
    ∙ shared (nat_lt q n) (q == n) (stands_at cs k q) (is_key c.identity k) here
    ∙ ap (λ b. b && stands_at cs k q) (sym (below_more q n))

stands : (cs : List Candidate) (k : ℕ × ℕ) (number : ℕ) (o : Option Candidate) → slice_get cs number ≡ o → unwrap_or (option_map (λ (d : Candidate). is_key d.identity k) o) false ≡ true → (c : Candidate) × (slice_get cs number ≡ Some c) × (is_key c.identity k ≡ true)
stands cs k number None at h = cc
stands cs k number (Some c) at h = (c, at, h)

-- who stands there
pub standing : (cs : List Candidate) (k : ℕ × ℕ) (number : ℕ) → stands_at cs k number ≡ true → (c : Candidate) × (slice_get cs number ≡ Some c) × (is_key c.identity k ≡ true)
standing cs k number h = stands cs k number (slice_get cs number) refl h

pub stood : (cs : List Candidate) (k : ℕ × ℕ) (number : ℕ) (c : Candidate) → slice_get cs number ≡ Some c → stands_at cs k number ≡ is_key c.identity k
stood cs k number c at = ap (λ o. unwrap_or (option_map (λ (d : Candidate). is_key d.identity k) o) false) at

pub placed_all : (cs : List Candidate) (n : ℕ) (places : CandidatePlaces) → n ≡ length cs → PlacedFirst cs n places → ArePlaced cs places
placed_all cs n places e before k number = before k number ∙ elim (cases_Bool (stands_at cs k number)) [
  | inl t ↦
      let c = standing cs k number t in
      let below : nat_lt number n ≡ true = grind (arith, nat_tests, e, slice_get_within cs number c.0 c.1) in
      ap (λ b. b && stands_at cs k number) below
  | inr f ↦ none (nat_lt number n) (stands_at cs k number) f
]
  where
    none : (a s : Bool) → s ≡ false → (a && s) ≡ s
    none true s f = refl
    none false s f = sym f

-- the numbers at one more place
pub numbers_more : (places : CandidatePlaces) (keys : List (ℕ × ℕ)) (i : ℕ) (old here new : List ℕ) → i < length keys → here ≡ numbers_at places (get_or keys i (0, 0)) → new ≡ old ++ here
    → ((number : ℕ) → list_any (nat_eq number) old ≡ list_any (λ k. is_kept places k number) (take i keys))
    → (number : ℕ) → list_any (nat_eq number) new ≡ list_any (λ k. is_kept places k number) (take (i + 1) keys)
numbers_more places keys i old here new within at more before number =
    ap (list_any (nat_eq number)) more
    ∙ list_any-append (nat_eq number) old here
    ∙ ap (λ b. b || list_any (nat_eq number) here) (before number)
    ∙ ap (λ xs. list_any (λ k. is_kept places k number) (take i keys) || list_any (nat_eq number) xs) at
    ∙ sym (list_any_more (λ k. is_kept places k number) keys i (0, 0) within)

module _ (cs : List Candidate) (left : Option References) (numbers : List ℕ) where
  -- the numbers are those of the candidates that are left
  abbrev pub AreChosen : Type 0
  AreChosen = (number : ℕ) → IsTrue (list_any (nat_eq number) numbers) ↔ ((c : Candidate) × (slice_get cs number ≡ Some c) × (is_left left c.identity ≡ true))

  -- those at the places of a set
  pub chosen_in : (places : CandidatePlaces) (set : References) (keys : List (ℕ × ℕ)) → left ≡ Some set → ArePlaced cs places → ((place : IdentityRef) → list_any (is_key place) keys ≡ has set place)
      → ((number : ℕ) → list_any (nat_eq number) numbers ≡ list_any (λ k. is_kept places k number) keys) → AreChosen
  chosen_in places set keys is placed all each number = (
    λ h.
        let f = found (λ k. is_kept places k number) keys (sym (each number) ∙ h) in
        let c = standing cs f.1 number (sym (placed f.1 number) ∙ f.3) in
        (c.0, c.1, ap (λ o. is_left o c.0.identity) is ∙ sym (all c.0.identity) ∙ finds (is_key c.0.identity) keys f.0 f.1 f.2 c.2),
    λ h.
        let f = found (is_key h.0.identity) keys (all h.0.identity ∙ ap (λ o. is_left o h.0.identity) (sym is) ∙ h.2) in
        each number ∙ finds (λ k. is_kept places k number) keys f.0 f.1 f.2 (placed f.1 number ∙ stood cs f.1 number h.0 h.1 ∙ f.3),
  )

  there : {X : Type 0} (xs : List X) (k : ℕ) → k < length xs → (x : X) × (slice_get xs k ≡ Some x)
  there [] k l = absurd (omega (arith, l))
  there (x ∷ xs) zero l = (x, refl)
  there (x ∷ xs) (suc k) l = there xs k (omega (arith, l))

  -- all of them, where there is no set
  pub chosen_all : (n : ℕ) → left ≡ None → n ≡ length cs → ((number : ℕ) → list_any (nat_eq number) numbers ≡ nat_lt number n) → AreChosen
  chosen_all n is e each number = (
    λ h.
        let below : nat_lt number n ≡ true = sym (each number) ∙ h in
        let within : number < length cs = grind (arith, nat_tests, e, below) in
        let c = there cs number within in
        (c.0, c.1, ap (λ o. is_left o c.0.identity) is),
    λ h. each number ∙ grind (arith, nat_tests, e, slice_get_within cs number h.0 h.1),
  )
