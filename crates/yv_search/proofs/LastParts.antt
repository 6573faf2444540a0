-- The last part of a path, found from its end.
use Rattle.std.proofs.Common.{◌≡◌, ◌<◌, ◌==◌, ◌||◌, ◌∙◌, ℕ, List, [], ◌∷◌, ◌++◌, Bool, true, false, refl, sym, ap, if◌then◌else◌, take, drop, length, get_or, suc, drop-cons}
use Rattle.std.specs.List.{list_any}
use Rattle.std.proofs.lemmas.List.{take-append-drop}
use Rattle.yv_search.specs.Listing.{slash}
use Rattle.yv_search.specs.FileNames.{last_part}

-- a path without `/` is its last part
pub last_part_clean : (xs : List ℕ) → list_any (λ c. c == slash) xs ≡ false → last_part xs ≡ xs
last_part_clean [] h = refl
last_part_clean (b ∷ bs) h = ap (λ (v : Bool). if v then last_part bs else b ∷ bs) h

any_slash : (xs ys : List ℕ) → list_any (λ c. c == slash) (xs ++ slash ∷ ys) ≡ true
any_slash [] ys = refl
any_slash (x ∷ xs) ys = ap (λ v. (x == slash) || v) (any_slash xs ys) ∙ or_true (x == slash)
  where
    or_true : (b : Bool) → (b || true) ≡ true
    or_true true = refl
    or_true false = refl

-- what is before a `/` doesn't count
last_part_behind : (xs ys : List ℕ) → last_part (xs ++ slash ∷ ys) ≡ last_part ys
last_part_behind [] ys = refl
last_part_behind (x ∷ xs) ys = ap (λ (v : Bool). if v then last_part (xs ++ slash ∷ ys) else x ∷ (xs ++ slash ∷ ys)) (any_slash (x ∷ xs) ys) ∙ last_part_behind xs ys

-- what comes after a `/` and has none is the last part
pub last_part_at : (path : List ℕ) (k : ℕ) → k < length path → get_or path k 0 ≡ slash → list_any (λ c. c == slash) (drop (suc k) path) ≡ false → last_part path ≡ drop (suc k) path
last_part_at path k h e clean =
    let split : path ≡ take k path ++ slash ∷ drop (suc k) path =
    sym (take-append-drop k path) ∙ ap (λ l. take k path ++ l) (drop-cons path k 0 h ∙ ap (λ b. b ∷ drop (suc k) path) e) in
    ap last_part split ∙ last_part_behind (take k path) (drop (suc k) path) ∙ last_part_clean (drop (suc k) path) clean
