-- A name means one thing.
use Rattle.std.proofs.Common.{◌≡◌, ℕ, zero, suc, ◌⊎◌, inl, inr, ◌+◌, ◌<◌, ◌≤◌, ◌==◌, ◌&&◌, nat_lt, cond, Bool, true, false, List, [], ◌∷◌, length, Option, Some, None, refl, sym, ◌∙◌, ap, subst, arith}
use Rattle.std.specs.List.{slice_get, position_from}
use Rattle.std.specs.Option.{option_and_then}
use Rattle.std.specs.Str.{bytes_eq}
use Rattle.std.proofs.lemmas.Option.{same_Some, slice_get_within}
use Rattle.std.proofs.lemmas.Bool.{cases_lt, lt-ltb, ltb-true}
use Rattle.yv_link_scopes.specs.Names.{prefix_of, local_of, first_where}
use Rattle.yv_link_scopes.specs.Files.{Brief, Briefs, file_named, module_file_at, has_word}
use Rattle.yv_link_scopes.specs.Rows.{Row, name_in}
use Rattle.yv_link_scopes.specs.Tables.{first_of, is_same, place_of_kind, word_of}
use Rattle.yv_link_scopes.specs.InnerPlaces.{lesser_of}
use Rattle.yv_link_scopes.specs.Scopes.{Encloses, itself, inside, IsNamed, IsVisible, IsFirst, Means, AreNested, module_of, start_at, start_of_prefix, start_of, MeansFrom, MeansIn}
use Rattle.yv_link_scopes.specs.declared.kind.NameKind.{NameKind}
use Rattle.yv_link_scopes.specs.declared.kind.NameKind.TheVariants.{Prefix}

-- the first numbers of two sets, and of both
pub first_same : (P Q : ℕ → Type 0) (o : Option ℕ) → ((d : ℕ) → P d → Q d) → ((d : ℕ) → Q d → P d) → IsFirst P o → IsFirst Q o
first_same P Q None to from h = λ d q. h d (from d q)
first_same P Q (Some d) to from h = (to d h.0, λ e q. h.1 e (from e q))

pub first_one : (P : ℕ → Type 0) (d e : Option ℕ) → IsFirst P d → IsFirst P e → d ≡ e
first_one P None None h g = refl
first_one P None (Some e) h g = absurd (h e g.0)
first_one P (Some d) None h g = absurd (g d h.0)
first_one P (Some d) (Some e) h g = let a = h.1 e g.0 in let b = g.1 d h.0 in let same : d ≡ e = omega (arith, a, b) in ap Some same

lesser_is : (a b : ℕ) → ((nat_lt b a ≡ true) × (b < a)) ⊎ ((nat_lt b a ≡ false) × (a ≤ b))
lesser_is a b = elim (cases_lt b a) [
  | inl l ↦ inl (lt-ltb b a l, l)
  | inr l ↦ inr (not_true (nat_lt b a) (λ t. let x = ltb-true b a t in omega arith), omega arith)
]
  where
    not_true : (t : Bool) → (t ≡ true → ⊥) → t ≡ false
    not_true true h = absurd (h refl)
    not_true false h = refl

pub first_both : (P Q : ℕ → Type 0) (a b : Option ℕ) → IsFirst P a → IsFirst Q b → IsFirst (λ d. P d ⊎ Q d) (lesser_of a b)
first_both P Q None None h g = λ d e. elim e [ inl p ↦ h d p | inr q ↦ g d q ]
first_both P Q None (Some b) h g = (inr g.0, λ e s. elim s [ inl p ↦ absurd (h e p) | inr q ↦ g.1 e q ])
first_both P Q (Some a) None h g = (inl h.0, λ e s. elim s [ inl p ↦ h.1 e p | inr q ↦ absurd (g e q) ])
first_both P Q (Some a) (Some b) h g = elim (lesser_is a b) [
  | inl l ↦ subst (λ t. IsFirst (λ d. P d ⊎ Q d) (Some (cond t b a))) (sym l.0) (inr g.0, λ e s. elim s [ inl p ↦ (let x = h.1 e p in let y = l.1 in omega arith) | inr q ↦ g.1 e q ])
  | inr l ↦ subst (λ t. IsFirst (λ d. P d ⊎ Q d) (Some (cond t b a))) (sym l.0) (inl h.0, λ e s. elim s [ inl p ↦ h.1 e p | inr q ↦ (let x = g.1 e q in let y = l.1 in omega arith) ])
]

-- the first that passes
abbrev Found : {X : Type 0} → (X → Bool) → ℕ → List X → ℕ → Type 0
Found {X} p k xs d = (i : ℕ) × (k + i ≡ d) × (x : X) × (slice_get xs i ≡ Some x) × (p x ≡ true)

module _ {X : Type 0} (p : X → Bool) where
  found_by : (k : ℕ) (x : X) (xs : List X) (d : ℕ) (b : Bool) → p x ≡ b → (position_from p (k + 1) xs ≡ Some d → Found p (k + 1) xs d) → cond b (Some k) (position_from p (k + 1) xs) ≡ Some d → Found p k (x ∷ xs) d
  found_by k x xs d true t further e = (0, omega (arith, same_Some k d e), x, refl, t)
  found_by k x xs d false t further e = let q = further e in (suc q.0, omega (arith, q.1), q.2, q.3, q.4)

  found_at : (k : ℕ) (xs : List X) (d : ℕ) → position_from p k xs ≡ Some d → Found p k xs d
  found_at k [] d e = absurd cc
  found_at k (x ∷ xs) d e = found_by k x xs d (p x) refl (found_at (k + 1) xs d) e

  -- one that passes isn't before it
  none_before : (k : ℕ) (xs : List X) (i : ℕ) (x : X) (o : Option ℕ) → slice_get xs i ≡ Some x → p x ≡ true → position_from p k xs ≡ o → (d : ℕ) × (o ≡ Some d) × (d ≤ k + i)
  none_before k [] i x o at t e = cc
  none_before k (y ∷ xs) zero x o at t e = (k, sym e ∙ ap (λ b. cond b (Some k) (position_from p (k + 1) xs)) (ap p (same_Some y x at) ∙ t), omega arith)
  none_before k (y ∷ xs) (suc i) x o at t e = further (p y) e (none_before (k + 1) xs i x (position_from p (k + 1) xs) at t refl)
    where
      further : (b : Bool) → cond b (Some k) (position_from p (k + 1) xs) ≡ o → ((d : ℕ) × (position_from p (k + 1) xs ≡ Some d) × (d ≤ k + 1 + i)) → (d : ℕ) × (o ≡ Some d) × (d ≤ k + suc i)
      further true e g = (k, sym e, omega arith)
      further false e g = (g.0, sym e ∙ g.1, omega (arith, g.2))

  pub first_passing : (xs : List X) (o : Option ℕ) → first_where p xs ≡ o → IsFirst (λ d. (x : X) × (slice_get xs d ≡ Some x) × (p x ≡ true)) o
  first_passing xs None e = λ d h. let g = none_before 0 xs d h.0 None h.1 h.2 e in absurd (let f = g.1 in cc)
  first_passing xs (Some d) e =
      let q = found_at 0 xs d e in
      let at : q.0 ≡ d = omega (arith, q.1) in
      ((q.2, ap (slice_get xs) (sym at) ∙ q.3, q.4), λ k h. let g = none_before 0 xs k h.0 (Some d) h.1 h.2 e in let same : d ≡ g.0 = same_Some d g.0 g.1 in omega (arith, same, g.2))

pub first_named : (kind : NameKind) (rows : List Row) (block : ℕ) (name : List ℕ) (o : Option ℕ) → first_of kind rows block name ≡ o → IsFirst (IsNamed kind rows block name) o
first_named kind rows block name o e = first_passing (λ (r : Row). has_word (word_of kind) r.head && is_same block name (place_of_kind kind r) (name_in r)) rows o e

-- what is visible in a block stands there, or is visible in the block in which that stands
visible_by : (kind : NameKind) (rows : List Row) (name : List ℕ) (d : ℕ) {outer block : ℕ} (r : Row) → slice_get rows block ≡ Some r → Encloses rows outer block → IsNamed kind rows outer name d → IsNamed kind rows block name d ⊎ IsVisible kind rows r.scope name d
visible_by kind rows name d r at itself n = inl n
visible_by kind rows name d {outer = outer} r at (inside {r = s} here e) n = inr (outer, subst (λ (x : Row). Encloses rows outer x.scope) (same_Some s r (sym here ∙ at)) e, n)

-- a root stands in no other block
root_alone : {rows : List Row} {outer block : ℕ} {root : ℕ} {r : Row} → slice_get rows root ≡ Some r → r.scope ≡ root → Encloses rows outer block → block ≡ root → outer ≡ root
root_alone at own itself e = e
root_alone {rows} {root = root} {r = r} at own (inside {r = s} here next) e = root_alone at own next (let same : s ≡ r = same_Some s r (sym here ∙ ap (slice_get rows) e ∙ at) in ap (λ (x : Row). x.scope) same ∙ own)

module _ (kind : NameKind) (rows : List Row) (name : List ℕ) where
  -- what a name means in a block, by what it means around it
  pub means_more : (block : ℕ) (r : Row) (here o : Option ℕ) → slice_get rows block ≡ Some r → IsFirst (IsNamed kind rows block name) here → Means kind rows r.scope name o → Means kind rows block name (lesser_of here o)
  means_more block r here o at h g =
      first_same (λ d. IsNamed kind rows block name d ⊎ IsVisible kind rows r.scope name d) (IsVisible kind rows block name) (lesser_of here o)
      (λ d s. elim s [ inl n ↦ (block, itself, n) | inr v ↦ (v.0, inside at v.1, v.2) ])
      (λ d v. visible_by kind rows name d r at v.1 v.2)
      (first_both (IsNamed kind rows block name) (IsVisible kind rows r.scope name) here o h g)

  pub means_root : (block : ℕ) (r : Row) (here : Option ℕ) → slice_get rows block ≡ Some r → r.scope ≡ block → IsFirst (IsNamed kind rows block name) here → Means kind rows block name here
  means_root block r here at own h =
      first_same (IsNamed kind rows block name) (IsVisible kind rows block name) here
      (λ d n. (block, itself, n))
      (λ d v. subst (λ b. IsNamed kind rows b name d) (root_alone at own v.1 refl) v.2)
      h

  -- nothing encloses what isn't there but itself
  pub means_outside : (block : ℕ) (here : Option ℕ) → slice_get rows block ≡ None → IsFirst (IsNamed kind rows block name) here → Means kind rows block name here
  means_outside block here gone h =
      first_same (IsNamed kind rows block name) (IsVisible kind rows block name) here
      (λ d n. (block, itself, n))
      (λ d v. alone d v.1 gone v.2)
      h
    where
      alone : (d : ℕ) {outer inner : ℕ} → Encloses rows outer inner → slice_get rows inner ≡ None → IsNamed kind rows outer name d → IsNamed kind rows inner name d
      alone d itself none n = n
      alone d (inside at next) none n = absurd (let h = sym at ∙ none in cc)

single : (o : Option ℕ) → IsFirst (λ d. o ≡ Some d) o
single None = λ d e. absurd (let h : None ≡ Some d = e in cc)
single (Some d) = (refl, λ e h. let same : d ≡ e = same_Some d e h in omega arith)

-- the least of three
pub lesser_again : (a b c : Option ℕ) → lesser_of (lesser_of a b) c ≡ lesser_of a (lesser_of b c)
lesser_again a b c =
    let A : ℕ → Type 0 = λ d. a ≡ Some d in
    let B : ℕ → Type 0 = λ d. b ≡ Some d in
    let C : ℕ → Type 0 = λ d. c ≡ Some d in
    first_one (λ d. A d ⊎ (B d ⊎ C d)) (lesser_of (lesser_of a b) c) (lesser_of a (lesser_of b c))
    (first_same (λ d. (A d ⊎ B d) ⊎ C d) (λ d. A d ⊎ (B d ⊎ C d)) (lesser_of (lesser_of a b) c)
    (λ d s. elim s [ inl p ↦ elim p [ inl x ↦ inl x | inr y ↦ inr (inl y) ] | inr z ↦ inr (inr z) ])
    (λ d s. elim s [ inl x ↦ inl (inl x) | inr p ↦ elim p [ inl y ↦ inl (inr y) | inr z ↦ inr z ] ])
    (first_both (λ d. A d ⊎ B d) C (lesser_of a b) c (first_both A B a b (single a) (single b)) (single c)))
    (first_both A (λ d. B d ⊎ C d) a (lesser_of b c) (single a) (first_both B C b c (single b) (single c)))

position_within : {X : Type 0} (p : X → Bool) (k : ℕ) (xs : List X) (d : ℕ) → position_from p k xs ≡ Some d → d < k + length xs
position_within p k [] d e = cc
position_within p k (x ∷ xs) d e = first (p x) (position_within p (k + 1) xs d) e
  where
    first : (b : Bool) → (position_from p (k + 1) xs ≡ Some d → d < k + 1 + length xs) → cond b (Some k) (position_from p (k + 1) xs) ≡ Some d → d < k + (suc (length xs))
    first true g h = let s : k ≡ d = same_Some k d h in omega arith
    first false g h = let r : d < k + 1 + length xs = g h in omega arith

pub named_within : (files : Briefs) (name : List ℕ) (d : ℕ) → file_named files name ≡ Some d → d < length files
named_within files name d e = let h : d < 0 + length files = position_within (λ (f : Brief). bytes_eq f.name name) 0 files d e in omega arith

then_some : {A B : Type 0} (f : A → Option B) (o : Option A) (b : B) → option_and_then f o ≡ Some b → (a : A) × (o ≡ Some a) × (f a ≡ Some b)
then_some f None b e = cc
then_some f (Some a) b e = (a, refl, e)

pub module_within : (files : Briefs) (rows : List Row) (file : ℕ) (p : List ℕ) (m : ℕ) → module_of files rows file p ≡ Some m → m < length files
module_within files rows file p m e =
    let one = then_some (λ k. option_and_then (λ (q : Row). option_and_then (λ (s : Row). file_named files (name_in s)) (slice_get rows q.scope)) (slice_get rows k)) (first_of Prefix rows file p) m e in
    let two = then_some (λ (q : Row). option_and_then (λ (s : Row). file_named files (name_in s)) (slice_get rows q.scope)) (slice_get rows one.0) m one.2 in
    let three = then_some (λ (s : Row). file_named files (name_in s)) (slice_get rows two.0.scope) m two.2 in
    named_within files (name_in three.0) m three.2

by_within : (files : Briefs) (rows : List Row) (r : Row) (p : Option (List ℕ)) (n block : ℕ) → length files ≤ n → r.scope < n → start_of_prefix files rows r p ≡ Some block → block < n
by_within files rows r None n block f l e = let s : r.scope ≡ block = same_Some r.scope block e in omega arith
by_within files rows r (Some p) n block f l e = from (module_of files rows r.file p) refl e
  where
    either : (b : Bool) (m : ℕ) → m < length files → cond b r.scope m ≡ block → block < n
    either true m h k = omega arith
    either false m h k = omega arith

    from : (o : Option ℕ) → module_of files rows r.file p ≡ o → start_at (module_file_at files r.file) r.scope o ≡ Some block → block < n
    from None g h = cc
    from (Some m) g h = either (m == module_file_at files r.file) m (module_within files rows r.file p m g) (same_Some (cond (m == module_file_at files r.file) r.scope m) block h)

-- a name is looked up first in one of the blocks
pub start_within : (files : Briefs) (rows : List Row) (number : ℕ) (name : List ℕ) (block : ℕ) → length files ≤ length rows → AreNested rows → start_of files rows number name ≡ Some block → block < length rows
start_within files rows number name block f nested e =
    let one = then_some (λ r. start_of_prefix files rows r (prefix_of name)) (slice_get rows number) block e in
    let le : one.0.scope ≤ number = nested number one.0 one.1 in
    let lt : number < length rows = slice_get_within rows number one.0 one.1 in
    by_within files rows one.0 (prefix_of name) (length rows) block f (omega arith) one.2

there : {X : Type 0} (xs : List X) (i : ℕ) → i < length xs → (x : X) × (slice_get xs i ≡ Some x)
there [] i h = absurd (omega arith)
there (x ∷ xs) zero h = (x, refl)
there (x ∷ xs) (suc i) h = there xs i (omega arith)

-- a name means something in each block, or is known to mean nothing
pub means_some : (kind : NameKind) (rows : List Row) (name : List ℕ) → AreNested rows → (n block : ℕ) → block < n → block < length rows → (d : Option ℕ) × Means kind rows block name d
means_some kind rows name nested zero block h l = absurd (omega arith)
means_some kind rows name nested (suc n) block h l = at (there rows block l) (λ k m. means_some kind rows name nested n k (omega arith) (omega arith))
  where
    here : IsFirst (IsNamed kind rows block name) (first_of kind rows block name)
    here = first_named kind rows block name (first_of kind rows block name) refl

    at : ((r : Row) × (slice_get rows block ≡ Some r)) → ((k : ℕ) → k < block → (d : Option ℕ) × Means kind rows k name d) → (d : Option ℕ) × Means kind rows block name d
    at r next = elim (cases_lt r.0.scope block) [
      | inl lt ↦ (let m = next r.0.scope lt in (lesser_of (first_of kind rows block name) m.0, means_more kind rows name block r.0 (first_of kind rows block name) m.0 r.1 here m.1))
      | inr ge ↦ (first_of kind rows block name, means_root kind rows name block r.0 (first_of kind rows block name) r.1 (let le : r.0.scope ≤ block = nested block r.0 r.1 in omega arith) here)
    ]

from_one : (kind : NameKind) (rows : List Row) (name : List ℕ) (o d e : Option ℕ) → MeansFrom kind rows name o d → MeansFrom kind rows name o e → d ≡ e
from_one kind rows name None d e p q = p ∙ sym q
from_one kind rows name (Some block) d e p q = first_one (IsVisible kind rows block name) d e p q

pub in_one : (files : Briefs) (rows : List Row) (kind : NameKind) (number : ℕ) (name : List ℕ) (d e : Option ℕ) → MeansIn files rows kind number name d → MeansIn files rows kind number name e → d ≡ e
in_one files rows kind number name d e = from_one kind rows (local_of name) (start_of files rows number name) d e

from_some : (kind : NameKind) (rows : List Row) (name : List ℕ) → AreNested rows → (o : Option ℕ) → ((block : ℕ) → o ≡ Some block → block < length rows) → (d : Option ℕ) × MeansFrom kind rows name o d
from_some kind rows name nested None h = (None, refl)
from_some kind rows name nested (Some block) h = means_some kind rows name nested (suc block) block (omega arith) (h block refl)

pub in_some : (files : Briefs) (rows : List Row) (kind : NameKind) (number : ℕ) (name : List ℕ) → length files ≤ length rows → AreNested rows → (d : Option ℕ) × MeansIn files rows kind number name d
in_some files rows kind number name f nested = from_some kind rows (local_of name) nested (start_of files rows number name) (λ block e. start_within files rows number name block f nested e)
