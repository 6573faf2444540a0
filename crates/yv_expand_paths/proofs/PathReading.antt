-- Paths as they are read.
use Rattle.std.proofs.Common.{inl, inr, ◌≡◌, ◌≢◌, ℕ, ◌+◌, ◌<◌, ◌==◌, Bool, true, false, if◌then◌else◌, List, [], ◌∷◌, ◌++◌, length, map, take, get_or, Option, None, Some, refl, sym, ◌∙◌, ap, arith, eqb-true, zero, suc}
use Rattle.std.specs.List.{slice_get}
use Rattle.std.specs.Option.{option_map, option_and_then}
use Rattle.std.proofs.lemmas.List.{map_push, take_more, length-map}
use Rattle.std.proofs.lemmas.Bool.{cases_eq, cases_lt}
use Rattle.std.proofs.lemmas.Option.{slice_get_past, same_Some, slice_get-map, slice_get_within, slice_get_read, get_or_from_slice_get}
use Rattle.yv_link_scopes.specs.Rows.{Row}
use Rattle.yv_expand_statements.specs.Names.{node_name}
use Rattle.yv_expand_paths.specs.InnerNameNumbers.{own_names, number_of, number_at}
use Rattle.yv_expand_statements.specs.Paths.{behind_root}

-- a relative path stays
pub relative : (text : List ℕ) → ((rest : List ℕ) → text ≢ 47 ∷ rest) → text ≡ behind_root text
relative [] h = refl
relative (b ∷ bs) h = by (b == 47) refl
  where
    by : (t : Bool) → (b == 47) ≡ t → (let l : List ℕ = b ∷ bs in l ≡ (if t then bs else l))
    by true e = absurd (h bs (ap (λ c. c ∷ bs) (eqb-true b 47 e)))
    by false e = refl

-- the view of a list's item
pub row_read : {A B : Type 0} (f : A → B) (xs : List A) (ys : List B) (k : ℕ) (x : A) → map f xs ≡ ys → k < length xs → x ≡ get_or xs k x → slice_get ys k ≡ Some (f x)
row_read f xs ys k x e h is = ap (λ l. slice_get l k) (sym e) ∙ slice_get-map f xs k ∙ ap (option_map f) (slice_get_read xs (length xs) k x refl h is)

pub rows_count : {A B : Type 0} (f : A → B) (xs : List A) (ys : List B) → map f xs ≡ ys → length xs ≡ length ys
rows_count f xs ys e = sym (length-map xs f) ∙ ap length e

-- one more value of a list
pub mapped_more : {A B : Type 0} (f : A → B) (xs : List A) (i : ℕ) (x : A) (y : B) (old new : List B) → slice_get xs i ≡ Some x → y ≡ f x → new ≡ old ++ y ∷ [] → map f (take i xs) ≡ old → map f (take (i + 1) xs) ≡ new
mapped_more f xs i x y old new at is now before =
    ap (map f) (take_more xs i x (slice_get_within xs i x at) ∙ ap (λ z. take i xs ++ z ∷ []) (get_or_from_slice_get xs i x x at))
    ∙ map_push f (take i xs) x
    ∙ ap (λ l. l ++ f x ∷ []) before
    ∙ ap (λ z. old ++ z ∷ []) (sym is)
    ∙ sym now

-- the number of a statement's name
pub number_read : (rows : List Row) (numbers : List ℕ) (k : ℕ) → map (λ n. Some n) numbers ≡ map (number_of rows) (own_names rows) → slice_get numbers k ≡ number_at rows k
number_read rows numbers k e = by (slice_get numbers k) (slice_get rows k) both
  where
    both : option_map (λ n. Some n) (slice_get numbers k) ≡ option_map (number_of rows) (option_map (λ r. node_name r.head) (slice_get rows k))
    both =
        sym (slice_get-map (λ n. Some n) numbers k)
        ∙ ap (λ l. slice_get l k) e
        ∙ slice_get-map (number_of rows) (own_names rows) k
        ∙ ap (option_map (number_of rows)) (slice_get-map (λ r. node_name r.head) rows k)

    by : (o : Option ℕ) (r : Option Row) → option_map (λ n. Some n) o ≡ option_map (number_of rows) (option_map (λ r. node_name r.head) r) → o ≡ option_and_then (λ r. number_of rows (node_name r.head)) r
    by None None h = refl
    by None (Some r) h = absurd (let bad : None ≡ Some (number_of rows (node_name r.head)) = h in cc)
    by (Some n) None h = absurd (let bad : Some (Some n) ≡ None = h in cc)
    by (Some n) (Some r) h = same_Some (Some n) (number_of rows (node_name r.head)) h

push_old : {A : Type 0} (xs : List A) (v : A) (k : ℕ) → k < length xs → slice_get (xs ++ v ∷ []) k ≡ slice_get xs k
push_old [] v k h = absurd (omega (arith, h))
push_old (x ∷ xs) v zero h = refl
push_old (x ∷ xs) v (suc k) h = push_old xs v k (omega (arith, h))

push_new : {A : Type 0} (xs : List A) (v : A) → slice_get (xs ++ v ∷ []) (length xs) ≡ Some v
push_new [] v = refl
push_new (x ∷ xs) v = push_new xs v

-- what holds of each item of a list, and of one more
pub each_more : {A B : Type 0} (view : Option A → B) (want : ℕ → B) (old new : List A) (v : A) (i : ℕ) → length old ≡ i → new ≡ old ++ v ∷ [] → view (Some v) ≡ want i → ((k : ℕ) → k < i → view (slice_get old k) ≡ want k) → (k : ℕ) → k < i + 1 → view (slice_get new k) ≡ want k
each_more view want old new v i long now here before k h = elim (cases_eq k i) [
  | inl e ↦ ap (λ l. view (slice_get l k)) now ∙ ap (λ n. view (slice_get (old ++ v ∷ []) n)) (e ∙ sym long) ∙ ap view (push_new old v) ∙ here ∙ ap want (sym e)
  | inr ne ↦ ap (λ l. view (slice_get l k)) now ∙ ap view (push_old old v k (omega (arith, long, h, ne))) ∙ before k (omega (arith, h, ne))
]

-- and of all numbers, where there are no more items
pub each_all : {A C B : Type 0} (view : Option A → B) (want : Option C → B) (xs : List A) (ys : List C) → length xs ≡ length ys → view None ≡ want None → ((k : ℕ) → k < length xs → view (slice_get xs k) ≡ want (slice_get ys k)) → (k : ℕ) → view (slice_get xs k) ≡ want (slice_get ys k)
each_all view want xs ys long none each k = elim (cases_lt k (length xs)) [
  | inl h ↦ each k h
  | inr h ↦ ap view (slice_get_past xs k h) ∙ none ∙ sym (ap want (slice_get_past ys k (omega (arith, h, long))))
]
