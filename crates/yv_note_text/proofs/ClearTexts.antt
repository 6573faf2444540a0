-- What is clear: bytes as they are shown, and texts one after the other.
use Rattle.std.proofs.Common.{◌≡◌, ℕ, ◌==◌, ◌||◌, Bool, true, false, List, [], ◌∷◌, ◌++◌, map, refl, ◌∙◌}
use Rattle.std.proofs.lemmas.List.Folds.{list_all-append}
use Rattle.yv_note_text.specs.Clear.{is_clear, is_clear_byte, is_visible, visible_byte}

-- what is shown of a byte is visible
pub byte_visible : (b : ℕ) → is_visible (visible_byte b) ≡ true
byte_visible b = cases (is_visible b) refl
  where
    cases : (v : Bool) → is_visible b ≡ v → is_visible (visible_byte b) ≡ true
    cases true e = let same : visible_byte b ≡ b = rw e refl in rw same e
    cases false e = let same : visible_byte b ≡ 46 = rw e refl in rw same refl

-- one of two that holds
pub either : (a b : Bool) → b ≡ true → (a || b) ≡ true
either true b e = refl
either false b e = e

-- what is visible is clear
pub bytes_clear : (xs : List ℕ) → is_clear (map visible_byte xs) ≡ true
bytes_clear [] = refl
bytes_clear (b ∷ xs) = rw (either (visible_byte b == 10) (is_visible (visible_byte b)) (byte_visible b)) (bytes_clear xs)

-- two clear texts, one after the other, are clear
pub both_clear : (xs ys : List ℕ) → is_clear xs ≡ true → is_clear ys ≡ true → is_clear (xs ++ ys) ≡ true
both_clear xs ys p q = list_all-append is_clear_byte xs ys ∙ rw p q
