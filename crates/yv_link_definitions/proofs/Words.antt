-- Keywords, and the statements as they are read.
use Rattle.std.proofs.Common.{◌≡◌, ℕ, ◌<◌, Bool, true, false, List, length, map, get_or, refl, sym, ◌∙◌, ap, Some}
use Rattle.std.specs.List.{slice_get}
use Rattle.std.specs.Option.{option_map}
use Rattle.std.proofs.lemmas.List.{length-map}
use Rattle.std.proofs.lemmas.Option.{slice_get-map, slice_get_read}
use Rattle.std.proofs.lemmas.Slice.Eq.{bytes_eq-Decides}
use Rattle.yv_text_statement.specs.Tree.{Head}
use Rattle.yv_link_scopes.specs.Files.{has_word}

-- a statement has one keyword
pub word_once : (head : Head) (u v : List ℕ) → has_word u head ≡ true → has_word v head ≡ true → u ≡ v
word_once head u v h g = sym ((bytes_eq-Decides head.keyword u).0 h) ∙ (bytes_eq-Decides head.keyword v).0 g

-- the view of a list's item
pub row_read : {A B : Type 0} (f : A → B) (xs : List A) (ys : List B) (k : ℕ) (x : A) → map f xs ≡ ys → k < length xs → x ≡ get_or xs k x → slice_get ys k ≡ Some (f x)
row_read f xs ys k x e h is = ap (λ l. slice_get l k) (sym e) ∙ slice_get-map f xs k ∙ ap (option_map f) (slice_get_read xs (length xs) k x refl h is)

pub rows_count : {A B : Type 0} (f : A → B) (xs : List A) (ys : List B) → map f xs ≡ ys → length xs ≡ length ys
rows_count f xs ys e = sym (length-map xs f) ∙ ap length e

pub not_true : (b : Bool) → (b ≡ true → ⊥) → b ≡ false
not_true true h = absurd (h refl)
not_true false h = refl
