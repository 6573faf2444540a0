-- Keywords, and the statements as they are read.
use Rattle.std.proofs.Common.{◌≡◌, ℕ, ◌+◌, ◌<◌, ◌&&◌, Bool, true, false, zero, suc, List, [], ◌∷◌, ◌++◌, length, map, get_or, refl, sym, ◌∙◌, ap, arith, Some, ◌⊎◌, inl, inr}
use Rattle.std.specs.List.{slice_get}
use Rattle.std.specs.Option.{option_map}
use Rattle.std.proofs.lemmas.List.{length-map}
use Rattle.std.proofs.lemmas.Option.{same_Some, slice_get-map, slice_get_read}
use Rattle.std.proofs.lemmas.Slice.Eq.{bytes_eq-Decides}
use Rattle.yv_text_statement.specs.Tree.{Head}
use Rattle.yv_link_scopes.specs.Files.{has_word}

-- a statement has one keyword
pub word_once : (head : Head) (u v : List ℕ) → has_word u head ≡ true → has_word v head ≡ true → u ≡ v
word_once head u v h g = sym ((bytes_eq-Decides head.keyword u).0 h) ∙ (bytes_eq-Decides head.keyword v).0 g

-- the view of a list's item
pub row_read : {A B : Type 0} (f : A → B) (xs : List A) (ys : List B) (k : ℕ) (x : A) → map f xs ≡ ys → k < length xs → x ≡ get_or xs k x → slice_get ys k ≡ Some (f x)
row_read f xs ys k x e h is = ap (λ l. slice_get l k) (sym e) ∙ slice_get-map f xs k ∙ ap (option_map f) (slice_get_read xs (length xs) k x refl h is)

pub rows_count : {A B : Type 0} (f : A → B) (xs : List A) (ys : List B) → map f xs ≡ ys → length xs ≡ length ys
rows_count f xs ys e = sym (length-map xs f) ∙ ap length e

pub both_true : (a b : Bool) → (a && b) ≡ true → (a ≡ true) × (b ≡ true)
both_true true b h = (refl, h)
both_true false b h = cc

pub true_both : (a b : Bool) → a ≡ true → b ≡ true → (a && b) ≡ true
true_both true b h g = g
true_both false b h g = cc

pub last_of : {A : Type 0} (xs : List A) (y d : A) → get_or (xs ++ y ∷ []) (length xs) d ≡ y
last_of [] y d = refl
last_of (x ∷ xs) y d = last_of xs y d

pub longer : {A : Type 0} (xs : List A) (y : A) → length (xs ++ y ∷ []) ≡ length xs + 1
longer [] y = refl
longer (x ∷ xs) y = omega (arith, longer xs y)

pub pushed_at : {A : Type 0} (xs : List A) (y r : A) (a : ℕ) → slice_get (xs ++ y ∷ []) a ≡ Some r → (slice_get xs a ≡ Some r) ⊎ ((a ≡ length xs) × (y ≡ r))
pushed_at [] y r zero h = inr (refl, same_Some y r h)
pushed_at [] y r (suc a) h = cc
pushed_at (x ∷ xs) y r zero h = inl h
pushed_at (x ∷ xs) y r (suc a) h = elim (pushed_at xs y r a h) [ inl old ↦ inl old | inr (e, same) ↦ inr (omega (arith, e), same) ]
