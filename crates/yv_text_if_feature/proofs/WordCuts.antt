-- How the words of a text begin.
use Rattle.std.proofs.Common.{◌≡◌, ℕ, suc, ◌<◌, ◌≤◌, Bool, true, false, not, ◌||◌, cond, List, [], ◌∷◌, length, take, drop, get_or, filter, nat_eq, ◌-◌, length-take, sym, ◌∙◌, ap, refl, arith}
use Rattle.std.specs.List.{onto_first}
use Rattle.std.proofs.lemmas.Bool.Decides.{nat_tests}
use Rattle.std.proofs.lemmas.Bool.{eqb-true}
use Rattle.std.proofs.lemmas.List.{take_rest}
use Rattle.yv_text_if_feature.specs.Bytes.{is_blank, is_parenthesis}
use Rattle.yv_text_if_feature.specs.Tokens.{is_empty, pieces, words}
use Rattle.yv_text_if_feature.specs.InnerWords.{first_len, word_len}

unempty : (m : ℕ) → 0 < m → nat_eq m 0 ≡ false
unempty m h = grind (arith, nat_tests)

kept : (w : List ℕ) (qs : List (List ℕ)) → 0 < length w → filter (λ word. not (is_empty word)) (w ∷ qs) ≡ w ∷ filter (λ word. not (is_empty word)) qs
kept w qs h = rw (unempty (length w) h) refl

skip_one : (text : List ℕ) → 0 < length text → is_blank (get_or text 0 0) ≡ true → words (drop 1 text) ≡ words text
unfolding words
skip_one [] h e = absurd (omega arith)
skip_one (b ∷ bs) h e = rw e refl

-- a blank at the front is no part of a word
pub skip_rest : (text : List ℕ) → 0 < length text → is_blank (get_or text 0 0) ≡ true → words (take (length text - 1) (drop 1 text)) ≡ words text
skip_rest text h e = ap (words) (take_rest text 1) ∙ skip_one text h e

-- a parenthesis at the front is a word
parenthesis_word : (text : List ℕ) → 0 < length text → is_blank (get_or text 0 0) ≡ false → is_parenthesis (get_or text 0 0) ≡ true → words text ≡ take 1 text ∷ words (drop 1 text)
unfolding words
parenthesis_word [] h e p = absurd (omega arith)
parenthesis_word (b ∷ bs) h e p = rw (e, p) refl

-- the first piece ends at the first blank or parenthesis
Front : List ℕ → Type 0
Front text = (qs : List (List ℕ)) × (pieces text ≡ take (word_len text) text ∷ qs) × (pieces (drop (word_len text) text) ≡ [] ∷ qs)

front : (text : List ℕ) → Front text
unfolding Front
front [] = ([], refl, refl)
front (b ∷ bs) =
    let before = front bs in
    let inside : (s t : Bool) → is_blank b ≡ s → is_parenthesis b ≡ t → Front (b ∷ bs) = λ s t e f.
    elim s as (λ s. is_blank b ≡ s → Front (b ∷ bs)) [
      | true ↦ λ g. (pieces bs, rw g refl, rw g (rw g refl))
      | false ↦ λ g. elim t as (λ t. is_parenthesis b ≡ t → Front (b ∷ bs)) [
        | true ↦ λ i. ((b ∷ []) ∷ pieces bs, rw (g, i) refl, rw (g, i) (rw (g, i) refl))
        | false ↦ λ i. (before.0, rw (g, i) (ap (onto_first b) before.1), rw (g, i) before.2)
      ] f
    ] e in
    inside (is_blank b) (is_parenthesis b) refl refl

word_len_le : (text : List ℕ) → word_len text ≤ length text
word_len_le [] = omega arith
word_len_le (b ∷ bs) =
    let cases : (t : Bool) → cond t 0 (suc (word_len bs)) ≤ suc (length bs) =
    λ t. elim t as (λ t. cond t 0 (suc (word_len bs)) ≤ suc (length bs)) [ true ↦ omega arith | false ↦ omega (arith, word_len_le bs) ] in
    cases (is_blank b || is_parenthesis b)

word_at : (text : List ℕ) → 0 < word_len text → words text ≡ take (word_len text) text ∷ words (drop (word_len text) text)
unfolding words Front
word_at text h =
    let q = front text in
    let long : 0 < length (take (word_len text) text) = simp length-take (omega (arith, word_len_le text)) in
    ap (filter (λ word. not (is_empty word))) q.1 ∙ kept (take (word_len text) text) q.0 long ∙ ap (λ ws. take (word_len text) text ∷ ws) (sym (ap (filter (λ word. not (is_empty word))) q.2))

len_of_plain : (text : List ℕ) → 0 < length text → is_blank (get_or text 0 0) ≡ false → is_parenthesis (get_or text 0 0) ≡ false → 0 < word_len text
len_of_plain [] h e p = absurd (omega arith)
len_of_plain (b ∷ bs) h e p = rw (e, p) (omega arith)

-- no text, no words
pub no_words : (text : List ℕ) → nat_eq (length text) 0 ≡ true → words text ≡ []
unfolding words
no_words [] h = refl
no_words (b ∷ bs) h = absurd (omega (arith, eqb-true (length (b ∷ bs)) 0 h))

-- a text that begins with a word, cut behind it
pub word_cut : (text : List ℕ) → 0 < length text → is_blank (get_or text 0 0) ≡ false → words text ≡ take (first_len text) text ∷ words (drop (first_len text) text)
word_cut [] h e = absurd (omega arith)
word_cut (b ∷ bs) h e =
    let at : (t : Bool) → is_parenthesis b ≡ t → words (b ∷ bs) ≡ take (first_len (b ∷ bs)) (b ∷ bs) ∷ words (drop (first_len (b ∷ bs)) (b ∷ bs)) = λ t.
    elim t as (λ t. is_parenthesis b ≡ t → words (b ∷ bs) ≡ take (first_len (b ∷ bs)) (b ∷ bs) ∷ words (drop (first_len (b ∷ bs)) (b ∷ bs))) [
      | true ↦ λ p. let n : first_len (b ∷ bs) ≡ 1 = rw p refl in rw n (parenthesis_word (b ∷ bs) h e p)
      | false ↦ λ p. let n : first_len (b ∷ bs) ≡ word_len (b ∷ bs) = rw p refl in rw n (word_at (b ∷ bs) (len_of_plain (b ∷ bs) h e p))
    ] in
    at (is_parenthesis b) refl
