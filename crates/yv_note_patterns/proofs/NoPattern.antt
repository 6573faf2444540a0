-- Statements that are looked at one by one, of which none is a pattern.
use Rattle.std.proofs.Common.{◌≡◌, ℕ, ◌+◌, ◌<◌, inl, inr, List, [], ◌∷◌, length, map, get_or, refl, sym, ◌∙◌, ap, suc, subst, arith, Option, Some, None, Result, Ok, Err}
use Rattle.std.specs.List.{slice_get, AllZip}
use Rattle.std.specs.Prelude.{IfNone, IfOk}
use Rattle.std.specs.Option.{option_map}
use Rattle.std.proofs.lemmas.Bool.{cases_lt}
use Rattle.std.proofs.lemmas.Option.{slice_get-map, slice_get_read, slice_get_within}
use Rattle.yv_link_scopes.specs.Rows.{Row}
use Rattle.yv_note_patterns.specs.PatternFailure.{AreNoPatterns, IsNoPattern}

-- what the view of a list has at a place
pub get_view : {A B : Type 0} (f : A → B) (xs : List A) (ys : List B) (i : ℕ) (x : A) → map f xs ≡ ys → i < length xs → x ≡ get_or xs i x → slice_get ys i ≡ Some (f x)
get_view f xs ys i x same h is =
    ap (λ zs. slice_get zs i) (sym same) ∙ (slice_get-map f xs i ∙ ap (option_map f) (slice_get_read xs (length xs) i x refl h is))

same_row : (r q : Row) → Some r ≡ Some q → r ≡ q
same_row r q e = cc

-- one more
pub none_more : (rows : List Row) (i : ℕ) (r : Row) → slice_get rows i ≡ Some r → IsNoPattern r
    → ((k : ℕ) (q : Row) → k < i → slice_get rows k ≡ Some q → IsNoPattern q)
    → (k : ℕ) (q : Row) → k < i + 1 → slice_get rows k ≡ Some q → IsNoPattern q
none_more rows i r at none before k q lt here = elim (cases_lt k i) [
  | inl w ↦ before k q w here
  | inr w ↦ (let same : k ≡ i = omega (arith, lt, w) in subst IsNoPattern (same_row r q (sym at ∙ ap (slice_get rows) (sym same) ∙ here)) none)
]

-- all of them
pub none_all : (rows : List Row) (i : ℕ) → length rows ≡ i
    → ((k : ℕ) (q : Row) → k < i → slice_get rows k ≡ Some q → IsNoPattern q) → AreNoPatterns rows
none_all rows i long before k q here = before k q (subst (λ n. k < n) long (slice_get_within rows k q here)) here

-- lists that are read from one another have one length
pub same_length : {A B : Type 0} (R : A → B → Type 0) (xs : List A) (ys : List B) → AllZip R xs ys → length xs ≡ length ys
same_length R [] [] h = refl
same_length R [] (y ∷ ys) h = absurd h
same_length R (x ∷ xs) [] h = absurd h
same_length R (x ∷ xs) (y ∷ ys) h = ap suc (same_length R xs ys h.1)

-- if there is none, this is so, and therefore that
pub none_then : {A E : Type 0} (r : Result (Option A) E) (P Q : Type 0) → (P → Q) → IfOk r (λ found. IfNone found P) → IfOk r (λ found. IfNone found Q)
none_then (Ok None) P Q then h = then h
none_then (Ok (Some x)) P Q then h = tt
none_then (Err e) P Q then h = tt
