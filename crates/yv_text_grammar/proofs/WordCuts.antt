-- How the words of a text begin.
use Rattle.std.proofs.Common.{◌≡◌, ℕ, suc, ◌<◌, ◌≤◌, Bool, true, false, not, cond, List, [], ◌∷◌, length, take, drop, get_or, filter, nat_eq, ◌-◌, length-take, sym, ◌∙◌, ap, refl, arith}
use Rattle.std.specs.List.{onto_first}
use Rattle.std.proofs.lemmas.Bool.Decides.{nat_tests}
use Rattle.std.proofs.lemmas.Bool.{eqb-true}
use Rattle.std.proofs.lemmas.List.{take_rest}
use Rattle.yv_text_if_feature.specs.Bytes.{is_blank}
use Rattle.yv_text_grammar.specs.Words.{pieces, words}
use Rattle.yv_text_if_feature.specs.Tokens.{is_empty}
use Rattle.yv_text_grammar.specs.InnerWords.{word_len}

unempty : (m : ℕ) → 0 < m → nat_eq m 0 ≡ false
unempty m h = grind (arith, nat_tests)

kept : (w : List ℕ) (qs : List (List ℕ)) → 0 < length w → filter (λ word. not (is_empty word)) (w ∷ qs) ≡ w ∷ filter (λ word. not (is_empty word)) qs
kept w qs h = rw (unempty (length w) h) refl

skip_one : (text : List ℕ) → 0 < length text → is_blank (get_or text 0 0) ≡ true → words (drop 1 text) ≡ words text
unfolding words
skip_one [] h e = absurd (omega arith)
skip_one (b ∷ bs) h e = rw e refl

-- a blank at the front is no part of a word
pub skip_rest : (text : List ℕ) → 0 < length text → is_blank (get_or text 0 0) ≡ true → words (take (length text - 1) (drop 1 text)) ≡ words text
skip_rest text h e = ap words (take_rest text 1) ∙ skip_one text h e

-- the first piece ends at the first blank
Front : List ℕ → Type 0
Front text = (qs : List (List ℕ)) × (pieces text ≡ take (word_len text) text ∷ qs) × (pieces (drop (word_len text) text) ≡ [] ∷ qs)

front : (text : List ℕ) → Front text
unfolding Front
front [] = ([], refl, refl)
front (b ∷ bs) =
    let before = front bs in
    let inside : (s : Bool) → is_blank b ≡ s → Front (b ∷ bs) = λ s. elim s as (λ s. is_blank b ≡ s → Front (b ∷ bs)) [
      | true ↦ λ g. (pieces bs, rw g refl, rw g (rw g refl))
      | false ↦ λ g. (before.0, rw g (ap (onto_first b) before.1), rw g before.2)
    ] in
    inside (is_blank b) refl

word_len_le : (text : List ℕ) → word_len text ≤ length text
word_len_le [] = omega arith
word_len_le (b ∷ bs) =
    let cases : (t : Bool) → cond t 0 (suc (word_len bs)) ≤ suc (length bs) =
    λ t. elim t as (λ t. cond t 0 (suc (word_len bs)) ≤ suc (length bs)) [ true ↦ omega arith | false ↦ omega (arith, word_len_le bs) ] in
    cases (is_blank b)

word_at : (text : List ℕ) → 0 < word_len text → words text ≡ take (word_len text) text ∷ words (drop (word_len text) text)
unfolding words Front
word_at text h =
    let q = front text in
    let long : 0 < length (take (word_len text) text) = simp length-take (omega (arith, word_len_le text)) in
    ap (filter (λ word. not (is_empty word))) q.1 ∙ kept (take (word_len text) text) q.0 long ∙ ap (λ ws. take (word_len text) text ∷ ws) (sym (ap (filter (λ word. not (is_empty word))) q.2))

len_of_plain : (text : List ℕ) → 0 < length text → is_blank (get_or text 0 0) ≡ false → 0 < word_len text
len_of_plain [] h e = absurd (omega arith)
len_of_plain (b ∷ bs) h e = rw e (omega arith)

-- no text, no words
pub no_words : (text : List ℕ) → nat_eq (length text) 0 ≡ true → words text ≡ []
unfolding words
no_words [] h = refl
no_words (b ∷ bs) h = absurd (omega (arith, eqb-true (length (b ∷ bs)) 0 h))

-- a text that begins with a word, cut behind it
pub word_cut : (text : List ℕ) → 0 < length text → is_blank (get_or text 0 0) ≡ false → words text ≡ take (word_len text) text ∷ words (drop (word_len text) text)
word_cut text h e = word_at text (len_of_plain text h e)
