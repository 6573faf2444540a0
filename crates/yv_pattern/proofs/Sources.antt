-- The sources of the patterns that are built, in their map.
use Rattle.std.proofs.Common.{◌≡◌, ℕ, ◌+◌, ◌-◌, ◌<◌, Bool, true, false, cond, List, [], ◌∷◌, length, map, drop, get_or, Option, Some, None, Ordering, refl, sym, ◌∙◌, ap, arith, rules, zero, suc, length-drop}
use Rattle.std.specs.BTreeMap.{insert_entry, is_at}
use Rattle.std.specs.Cmp.Lexicographic.{slice_cmp}
use Rattle.std.specs.List.{AllByRecursion, Contains}
use Rattle.std.specs.List.Sorted.{IsPermutation}
use Rattle.std.specs.Map.{lookup}
use Rattle.std.specs.Ordering.{is_eq, match_ordering, nat_cmp}
use Rattle.std.specs.String.{string_bytes, string_cmp}
use Rattle.std.specs.declared.cmp.Ordering.TheVariants.{Less, Equal, Greater}
use Rattle.std.specs.declared.string.String.{String}
use Rattle.yv_pattern.specs.Store.{StoreView, IsKept, first, charge, tried_limits}
use Rattle.std.proofs.lemmas.List.{get_or-drop}
use Rattle.std.proofs.lemmas.List.Elements.{Contains-append_right}
use Rattle.std.proofs.lemmas.List.Sorted.{IsPermutation-refl, IsPermutation-sym, IsPermutation-trans, IsPermutation-cons, IsPermutation-middle}
use Rattle.std.proofs.lemmas.Map.Text.{is_eq-slice_cmp}
use Rattle.std.proofs.lemmas.Slice.Eq.{bytes_eq-Decides}

-- texts that compare equal are the same
same_at : (xs ys : List ℕ) → is_eq (slice_cmp nat_cmp xs ys) ≡ true → xs ≡ ys
same_at xs ys h = grind (arith, is_eq-slice_cmp xs ys, bytes_eq-Decides xs ys)

equal_at : (xs : List ℕ) → is_eq (slice_cmp nat_cmp xs xs) ≡ true
equal_at xs = grind (arith, is_eq-slice_cmp xs xs, bytes_eq-Decides xs xs)

-- what is among the last of a list is among the list
pub of_last : {A : Type 0} (k : ℕ) (xs : List A) (x : A) → Contains (drop k xs) x → Contains xs x
of_last {A} k xs x h = (k + h.0, omega (arith, length-drop k xs), sym (get_or-drop k xs h.0 x) ∙ h.2)

-- a source that wasn't there before is kept, and its pattern charged a limit of those given
pub kept_first : (old new : StoreView) (source value : List ℕ) (given : List ℕ) (taken : ℕ) → (Contains old.sources source → ⊥) → IsPermutation (source ∷ old.sources) new.sources → value ≡ source
    → (limit : ℕ) × Contains given limit × (taken ≡ charge old.room limit) → ((limit : ℕ) → Contains given limit → Contains tried_limits limit) → new.room ≡ old.room - taken → IsKept old value new
kept_first old new source value given taken absent joined is charged tried room =
    rw is (first absent (record { sources = joined; limit = charged.0; is_tried = tried charged.0 charged.1; room = omega (arith, charged.2) }))

-- a look-up in one more entry that finds nothing
none_at : {X : Type 0} (b : Bool) (x : X) (o : Option X) → cond b (Some x) o ≡ None → (b ≡ false) × (o ≡ None)
none_at true x o h = absurd (cc)
none_at false x o h = (refl, h)

module _ {Y X : Type 0} where
  -- the sources by which a map keeps patterns
  abbrev pub sources : List (String Y × X) → List (List ℕ)
  sources es = map (λ e. string_bytes e.0) es

  -- each pattern, whose source is f's, is kept by it
  abbrev pub AreKept : (X → List ℕ) → List (String Y × X) → Type 0
  AreKept f = AllByRecursion (λ e. f e.1 ≡ string_bytes e.0)

  in_others : (e : String Y × X) (es : List (String Y × X)) (bs : List ℕ) → Contains (sources es) bs → Contains (sources (e ∷ es)) bs
  in_others e es bs h = Contains-append_right (string_bytes e.0 ∷ []) (sources es) bs h

  joins_at : (o : Ordering) (k : String Y) (v : X) (e : String Y × X) (es rest : List (String Y × X)) → (is_eq o ≡ true → ⊥)
      → IsPermutation (string_bytes k ∷ sources es) (sources rest)
      → IsPermutation (string_bytes k ∷ string_bytes e.0 ∷ sources es) (sources (match_ordering o ((k, v) ∷ e ∷ es) ((e.0, v) ∷ es) (e ∷ rest)))
  joins_at Less k v e es rest new h = IsPermutation-refl (string_bytes k ∷ string_bytes e.0 ∷ sources es)
  joins_at Equal k v e es rest new h = absurd (new refl)
  joins_at Greater k v e es rest new h =
      IsPermutation-trans (string_bytes k ∷ string_bytes e.0 ∷ sources es) (string_bytes e.0 ∷ string_bytes k ∷ sources es) (string_bytes e.0 ∷ sources rest)
      (IsPermutation-sym (string_bytes e.0 ∷ string_bytes k ∷ sources es) (string_bytes k ∷ string_bytes e.0 ∷ sources es) (IsPermutation-middle (string_bytes e.0 ∷ []) (string_bytes k) (sources es)))
      (IsPermutation-cons (string_bytes e.0) (string_bytes k ∷ sources es) (sources rest) h)

  -- a new source joins the others
  pub joins : (k : String Y) (v : X) (es : List (String Y × X)) → (Contains (sources es) (string_bytes k) → ⊥) → IsPermutation (string_bytes k ∷ sources es) (sources (insert_entry string_cmp es k v))
  joins k v [] new = IsPermutation-refl (string_bytes k ∷ [])
  joins k v (e ∷ es) new =
      joins_at (string_cmp k e.0) k v e es (insert_entry string_cmp es k v)
      (λ h. new (0, search rules, sym (same_at (string_bytes k) (string_bytes e.0) h)))
      (joins k v es (λ h. new (in_others e es (string_bytes k) h)))

  keeps_at : (f : X → List ℕ) (o : Ordering) (k : String Y) (v : X) (e : String Y × X) (es rest : List (String Y × X)) → (is_eq o ≡ true → string_bytes k ≡ string_bytes e.0)
      → f v ≡ string_bytes k → AreKept f (e ∷ es) → AreKept f rest
      → AreKept f (match_ordering o ((k, v) ∷ e ∷ es) ((e.0, v) ∷ es) (e ∷ rest))
  keeps_at f Less k v e es rest same is h more = (is, h)
  keeps_at f Equal k v e es rest same is h more = (is ∙ same refl, h.1)
  keeps_at f Greater k v e es rest same is h more = (h.0, more)

  -- each is kept by its source, after one more is
  pub keeps : (f : X → List ℕ) (k : String Y) (v : X) (es : List (String Y × X)) → f v ≡ string_bytes k → AreKept f es → AreKept f (insert_entry string_cmp es k v)
  keeps f k v [] is h = (is, tt)
  keeps f k v (e ∷ es) is h = keeps_at f (string_cmp k e.0) k v e es (insert_entry string_cmp es k v) (same_at (string_bytes k) (string_bytes e.0)) is h (keeps f k v es is h.1)

  -- a look-up that finds nothing
  absent_from : (bs : List ℕ) (es : List (String Y × X)) → lookup (is_at (λ k. slice_cmp nat_cmp bs (string_bytes k))) es ≡ None → (j : ℕ) → j < length (sources es) → get_or (sources es) j bs ≡ bs → ⊥
  absent_from bs [] h j within is = absurd (omega arith)
  absent_from bs (e ∷ es) h zero within is =
      let found : is_eq (slice_cmp nat_cmp bs (string_bytes e.0)) ≡ true = ap (λ s. is_eq (slice_cmp nat_cmp bs s)) is ∙ equal_at bs in
      let none = (none_at (is_eq (slice_cmp nat_cmp bs (string_bytes e.0))) e.1 (lookup (is_at (λ k. slice_cmp nat_cmp bs (string_bytes k))) es) h).0 in
      absurd (cc)
  absent_from bs (e ∷ es) h (suc j) within is =
      absent_from bs es (none_at (is_eq (slice_cmp nat_cmp bs (string_bytes e.0))) e.1 (lookup (is_at (λ k. slice_cmp nat_cmp bs (string_bytes k))) es) h).1 j (omega arith) is

  pub absent : (bs : List ℕ) (es : List (String Y × X)) → lookup (is_at (λ k. slice_cmp nat_cmp bs (string_bytes k))) es ≡ None → Contains (sources es) bs → ⊥
  absent bs es h among = absent_from bs es h among.0 among.1 among.2

  -- a look-up that finds a pattern: it is of that source
  found_at : (f : X → List ℕ) (bs : List ℕ) (e : String Y × X) (es : List (String Y × X)) (v : X) (b : Bool) → (b ≡ true → bs ≡ string_bytes e.0) → f e.1 ≡ string_bytes e.0
      → (lookup (is_at (λ k. slice_cmp nat_cmp bs (string_bytes k))) es ≡ Some v → (f v ≡ bs) × Contains (sources es) bs)
      → cond b (Some e.1) (lookup (is_at (λ k. slice_cmp nat_cmp bs (string_bytes k))) es) ≡ Some v → (f v ≡ bs) × Contains (sources (e ∷ es)) bs
  found_at f bs e es v true same is later h =
      let value : e.1 ≡ v = cc in
      (ap f (sym value) ∙ is ∙ sym (same refl), (0, search rules, sym (same refl)))
  found_at f bs e es v false same is later h = ((later h).0, in_others e es bs (later h).1)

  pub found : (f : X → List ℕ) (bs : List ℕ) (es : List (String Y × X)) (v : X) → AreKept f es → lookup (is_at (λ k. slice_cmp nat_cmp bs (string_bytes k))) es ≡ Some v → (f v ≡ bs) × Contains (sources es) bs
  found f bs [] v kept h = absurd (cc)
  found f bs (e ∷ es) v kept h = found_at f bs e es v (is_eq (slice_cmp nat_cmp bs (string_bytes e.0))) (same_at bs (string_bytes e.0)) kept.0 (found f bs es v kept.1) h
