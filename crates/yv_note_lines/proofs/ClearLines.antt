-- What texts of notes have in common: they are clear, and lines are short.
use Rattle.std.proofs.Common.{◌≡◌, ℕ, zero, suc, ◌==◌, ◌||◌, ◌&&◌, ◌≤◌, Bool, true, false, List, [], ◌∷◌, ◌++◌, length, map, take, replicate, nat_le, refl, sym, ap, ◌∙◌, append_assoc, arith}
use Rattle.std.specs.List.{filter, slice_range}
use Rattle.std.proofs.lemmas.List.{append-nil, length-append, length-map, length-take}
use Rattle.yv_note_text.specs.Clear.{is_clear, is_clear_byte, visible_byte}
use Rattle.yv_note_text.specs.Excerpt.{ShowsPlace, ascii_text, begins_character, excerpt_text, shown_byte}
use Rattle.yv_note_text.proofs.ClearTexts.{both_clear, bytes_clear, either}
use Rattle.yv_note_lines.specs.Lines.{cleared_line, join_texts, visible_text}

-- ### lines

-- a line has nothing that drives a terminal
pub line_clear : (said : List ℕ) → is_clear (cleared_line said) ≡ true
line_clear said = both_clear (visible_text (take 1400 said)) (10 ∷ []) (bytes_clear (take 1400 said)) refl

-- a line has at most 1,401 bytes
pub line_short : (said : List ℕ) → length (cleared_line said) ≤ 1401
line_short said =
    omega (arith, length-append (visible_text (take 1400 said)) (10 ∷ []), length-map (take 1400 said) visible_byte, length-take 1400 said)

-- one text more
pub joined_more : (texts : List (List ℕ)) (text : List ℕ) → join_texts (texts ++ text ∷ []) ≡ join_texts texts ++ text
joined_more [] text = append-nil text
joined_more (t ∷ ts) text = ap (λ (s : List ℕ). t ++ s) (joined_more ts text) ∙ sym (append_assoc t (join_texts ts) text)

-- ### lines of files

byte_shown : (b : ℕ) → is_clear_byte (shown_byte b) ≡ true
byte_shown b = cases (nat_le 32 b && nat_le b 126) refl (b == 9 || b == 13) refl
  where
    cases : (v : Bool) → (nat_le 32 b && nat_le b 126) ≡ v → (w : Bool) → (b == 9 || b == 13) ≡ w → is_clear_byte (shown_byte b) ≡ true
    cases true e w f = let same : shown_byte b ≡ b = rw e refl in rw same (either (b == 10) (nat_le 32 b && nat_le b 126) e)
    cases false e true f = let same : shown_byte b ≡ 32 = rw (e, f) refl in rw same refl
    cases false e false f = let same : shown_byte b ≡ 46 = rw (e, f) refl in rw same refl

both : (a b : Bool) → a ≡ true → b ≡ true → (a && b) ≡ true
both a b e f = rw e f

shown_clear : (xs : List ℕ) → is_clear (map shown_byte xs) ≡ true
shown_clear [] = refl
shown_clear (b ∷ xs) = both (is_clear_byte (shown_byte b)) (is_clear (map shown_byte xs)) (byte_shown b) (shown_clear xs)

-- what is shown of a text is clear
pub ascii_clear : (xs : List ℕ) → is_clear (ascii_text xs) ≡ true
ascii_clear xs = shown_clear (filter begins_character xs)

blanks_clear : (n : ℕ) → is_clear (replicate n 32) ≡ true
blanks_clear zero = refl
blanks_clear (suc n) = blanks_clear n

excerpt_clear : (line before : List ℕ) → is_clear (excerpt_text line before) ≡ true
excerpt_clear line before =
    let blanks : List ℕ = replicate (length (ascii_text before)) 32 in
    both_clear (ascii_text line ++ (10 ∷ blanks)) (94 ∷ 10 ∷ []) (both_clear (ascii_text line) (10 ∷ blanks) (ascii_clear line) (blanks_clear (length (ascii_text before)))) refl

-- a place that is shown is clear
pub place_clear : (bytes : List ℕ) (offset : ℕ) (text : List ℕ) → ShowsPlace bytes offset text → is_clear text ≡ true
place_clear bytes offset text (start, end, at, is) = ap is_clear is ∙ excerpt_clear (slice_range bytes start end) (slice_range bytes start offset)
