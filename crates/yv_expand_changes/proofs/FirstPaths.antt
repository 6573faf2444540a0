-- The first path that leads to an item.
use Rattle.std.proofs.Common.{◌≡◌, ◌≢◌, ℕ, ◌+◌, ◌<◌, zero, suc, Bool, true, false, cond, List, [], ◌∷◌, ◌++◌, map, take, drop, get_or, Option, Some, None, refl, sym, ◌∙◌, ap, arith, eqb-true, eq-eqb}
use Rattle.std.specs.List.{slice_get}
use Rattle.std.proofs.lemmas.Bool.{and_parts, ltb-true, ne_eqb, false≢true}
use Rattle.std.proofs.lemmas.List.{drop_more, map_push, take_more}
use Rattle.std.proofs.lemmas.Option.{same_Some, slice_get_within, get_or_from_slice_get}
use Rattle.yv_expand_changes.specs.Changes.{is_meant}
use Rattle.yv_expand_changes.specs.InnerAlike.{first_from}
use Rattle.yv_expand_changes.specs.InnerFirstPaths.{are_rising, is_after}

pub means : (item : ℕ) (t : Option ℕ) → is_meant item t ≡ true → t ≡ Some item
means item None h = absurd (false≢true h)
means item (Some i) h = ap (λ n. Some n) (eqb-true i item h)

pub is_meant_self : (item : ℕ) → is_meant item (Some item) ≡ true
is_meant_self item = eq-eqb item item refl

-- one path more, before the others
pub first_more : (targets : List (Option ℕ)) (k : ℕ) (t : Option ℕ) (old new : ℕ → Option ℕ) → slice_get targets k ≡ Some t → ((item : ℕ) → old item ≡ first_from (k + 1) (drop (k + 1) targets) item)
    → ((item : ℕ) → new item ≡ cond (is_meant item t) (Some k) (old item)) → (item : ℕ) → new item ≡ first_from k (drop k targets) item
first_more targets k t old new at before now item =
    now item
    ∙ ap (λ o. cond (is_meant item t) (Some k) o) (before item)
    ∙ ap (λ l. first_from k l item) (sym (drop_more targets k t (slice_get_within targets k t at) ∙ ap (λ x. x ∷ drop (k + 1) targets) (get_or_from_slice_get targets k t t at)))

-- it leads there
pub first_leads : (n : ℕ) (ts : List (Option ℕ)) (item p : ℕ) → first_from n ts item ≡ Some p → (k : ℕ) × (p ≡ n + k) × (slice_get ts k ≡ Some (Some item))
first_leads n [] item p e = absurd (let bad : None ≡ Some p = e in cc)
first_leads n (t ∷ ts) item p e = by (first_leads (n + 1) ts item p) (is_meant item t) refl e
  where
    by : (first_from (n + 1) ts item ≡ Some p → (k : ℕ) × (p ≡ n + 1 + k) × (slice_get ts k ≡ Some (Some item))) → (b : Bool) → is_meant item t ≡ b → cond b (Some n) (first_from (n + 1) ts item) ≡ Some p → (k : ℕ) × (p ≡ n + k) × (slice_get (t ∷ ts) k ≡ Some (Some item))
    by next true m h = (let same = same_Some n p h in (0, omega (arith, same), ap (λ x. Some x) (means item t m)))
    by next false m h = (let later = next h in (suc later.0, omega (arith, later.1), later.2))

pub first_leads_there : (ts : List (Option ℕ)) (item p : ℕ) → first_from 0 ts item ≡ Some p → slice_get ts p ≡ Some (Some item)
first_leads_there ts item p e = let l = first_leads 0 ts item p e in ap (slice_get ts) (omega (arith, l.1)) ∙ l.2

-- where a path leads to an item, one is the first
pub first_there : (n : ℕ) (ts : List (Option ℕ)) (k item : ℕ) → slice_get ts k ≡ Some (Some item) → first_from n ts item ≡ None → ⊥
first_there n [] k item at e = (let bad : None ≡ Some (Some item) = at in cc)
first_there n (t ∷ ts) zero item at e =
    (let m : is_meant item t ≡ true = ap (is_meant item) (same_Some t (Some item) at) ∙ is_meant_self item in
    let bad : Some n ≡ None = sym (ap (λ b. cond b (Some n) (first_from (n + 1) ts item)) m) ∙ e in cc)
first_there n (t ∷ ts) (suc k) item at e = by (first_there (n + 1) ts k item at) (is_meant item t) e
  where
    by : (first_from (n + 1) ts item ≡ None → ⊥) → (b : Bool) → cond b (Some n) (first_from (n + 1) ts item) ≡ None → ⊥
    by next true h = (let bad : Some n ≡ None = h in cc)
    by next false h = next h

pub read_some : (xs : List (Option ℕ)) (k j : ℕ) → get_or xs k None ≡ Some j → slice_get xs k ≡ Some (Some j)
read_some [] k j e = absurd (let bad : None ≡ Some j = e in cc)
read_some (x ∷ xs) zero j e = ap (λ o. Some o) e
read_some (x ∷ xs) (suc k) j e = read_some xs k j e

-- a path that leads to another item isn't the first to this one
pub leads_elsewhere : (ts : List (Option ℕ)) (p i j : ℕ) → slice_get ts p ≡ Some (Some i) → j ≢ i → is_meant p (first_from 0 ts j) ≡ false
leads_elsewhere ts p i j at other = by (first_from 0 ts j) refl
  where
    by : (o : Option ℕ) → first_from 0 ts j ≡ o → is_meant p o ≡ false
    by None e = refl
    by (Some q) e = ne_eqb q p (λ same. other (same_Some j i (same_Some (Some j) (Some i) (sym (first_leads_there ts j q e) ∙ ap (slice_get ts) same ∙ at))))

-- a path that isn't the first
pub leads_later : (ts : List (Option ℕ)) (p j : ℕ) → (slice_get ts p ≡ Some (Some j) → first_from 0 ts j ≡ Some p → ⊥) → is_meant p (first_from 0 ts j) ≡ false
leads_later ts p j later = by (first_from 0 ts j) refl
  where
    by : (o : Option ℕ) → first_from 0 ts j ≡ o → is_meant p o ≡ false
    by None e = refl
    by (Some q) e = ne_eqb q p (λ same. later (sym (ap (slice_get ts) same) ∙ first_leads_there ts j q e) (e ∙ ap (λ n. Some n) same))

-- items that rise come after the one before them
after : (a : ℕ) (t : Option ℕ) (item : ℕ) → is_after (Some a) t ≡ true → t ≡ Some item → a < item
after a None item h e = absurd (let bad : None ≡ Some item = e in cc)
after a (Some b) item h e = omega (arith, ltb-true a b h, same_Some b item e)

pub rises_above : (a : ℕ) (ts : List (Option ℕ)) (k item : ℕ) → are_rising (Some a) ts ≡ true → slice_get ts k ≡ Some (Some item) → a < item
rises_above a [] k item h at = absurd (let bad : None ≡ Some (Some item) = at in cc)
rises_above a (t ∷ ts) zero item h at = after a t item (and_parts (is_after (Some a) t) (are_rising t ts) h).0 (same_Some t (Some item) at)
rises_above a (None ∷ ts) (suc k) item h at = absurd (false≢true h)
rises_above a (Some b ∷ ts) (suc k) item h at =
    (let parts = and_parts (is_after (Some a) (Some b)) (are_rising (Some b) ts) h in
    omega (arith, ltb-true a b parts.0, rises_above b ts k item parts.1 at))

-- where items rise each path is the first to its item
pub first_of_rising : (n : ℕ) (last : Option ℕ) (ts : List (Option ℕ)) (k item : ℕ) → are_rising last ts ≡ true → slice_get ts k ≡ Some (Some item) → first_from n ts item ≡ Some (n + k)
first_of_rising n last [] k item h at = absurd (let bad : None ≡ Some (Some item) = at in cc)
first_of_rising n last (t ∷ ts) zero item h at =
    (let m : is_meant item t ≡ true = ap (is_meant item) (same_Some t (Some item) at) ∙ is_meant_self item in
    ap (λ b. cond b (Some n) (first_from (n + 1) ts item)) m ∙ ap (λ j. Some j) (omega arith))
first_of_rising n last (None ∷ ts) (suc k) item h at = absurd (false≢true ((and_parts (is_after last None) (are_rising None ts) h).0))
first_of_rising n last (Some a ∷ ts) (suc k) item h at =
    (let parts = and_parts (is_after last (Some a)) (are_rising (Some a) ts) h in
    let above : a < item = rises_above a ts k item parts.1 at in
    let m : is_meant item (Some a) ≡ false = ne_eqb a item (λ same. omega (arith, above, same)) in
    ap (λ b. cond b (Some n) (first_from (n + 1) ts item)) m ∙ first_of_rising (n + 1) (Some a) ts k item parts.1 at ∙ ap (λ j. Some j) (omega arith))

-- one path more, after the others
pub map_next : {B : Type 0} (f : Option ℕ → B) (xs : List (Option ℕ)) (i : ℕ) (x : Option ℕ) (y : B) (old new : List B) → slice_get xs i ≡ Some x → y ≡ f x
    → new ≡ old ++ y ∷ [] → old ≡ map f (take i xs) → new ≡ map f (take (i + 1) xs)
map_next f xs i x y old new at is now before =
    now ∙ ap (λ l. l ++ y ∷ []) before ∙ ap (λ z. map f (take i xs) ++ z ∷ []) is
    ∙ sym (map_push f (take i xs) x)
    ∙ ap (map f) (sym (take_more xs i x (slice_get_within xs i x at) ∙ ap (λ z. take i xs ++ z ∷ []) (get_or_from_slice_get xs i x x at)))
