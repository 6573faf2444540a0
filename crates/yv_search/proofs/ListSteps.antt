-- Lists that grow by one item.
use Rattle.std.proofs.Common.{◌≡◌, ◌<◌, ◌+◌, ◌∙◌, ℕ, List, [], ◌∷◌, ◌++◌, map, take, length, get_or, Some, sym, ap}
use Rattle.std.specs.List.{slice_get, flat_map}
use Rattle.std.specs.Option.{option_map}
use Rattle.std.proofs.lemmas.List.{take_more, flat_map_more}
use Rattle.std.proofs.lemmas.Option.{slice_get-map, slice_get_read, slice_get_within, get_or_from_slice_get}

-- an item that was read, as clauses see it
pub get_map : {A B : Type 0} (f : A → B) (xs : List A) (i : ℕ) (x : A) → i < length xs → x ≡ get_or xs i x → slice_get (map f xs) i ≡ Some (f x)
get_map f xs i x h is = slice_get-map f xs i ∙ ap (option_map f) (slice_get_read xs (length xs) i x (λ _. length xs) h is)

pub take_next : {A : Type 0} (xs : List A) (i : ℕ) (x : A) → slice_get xs i ≡ Some x → take (i + 1) xs ≡ take i xs ++ x ∷ []
take_next xs i x at = take_more xs i x (slice_get_within xs i x at) ∙ ap (λ y. take i xs ++ y ∷ []) (get_or_from_slice_get xs i x x at)

-- an item of a list that equals another
pub get_same : {A : Type 0} (xs ys : List A) (i : ℕ) (x : A) → xs ≡ ys → i < length xs → x ≡ get_or xs i x → slice_get ys i ≡ Some x
get_same xs ys i x e h is = ap (λ l. slice_get l i) (sym e) ∙ slice_get_read xs (length xs) i x (λ _. length xs) h is

-- what one more item of a list adds to another
pub flat_more : {A B : Type 0} (f : A → List B) (xs : List A) (i : ℕ) (x : A) (start old new : List B) → slice_get xs i ≡ Some x → old ≡ start ++ flat_map f (take i xs) → new ≡ old ++ f x → new ≡ start ++ flat_map f (take (i + 1) xs)
flat_more f xs i x start old new at before now =
    now ∙ ap (λ l. l ++ f x) before ∙ flat_map_more f start (take i xs) x ∙ ap (λ l. start ++ flat_map f l) (sym (take_next xs i x at))
