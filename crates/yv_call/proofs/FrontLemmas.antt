-- A text that is put into a buffer piece by piece.
use Rattle.std.proofs.Common.{◌≡◌, ◌∙◌, ℕ, ◌≤◌, List, [], ◌∷◌, ◌++◌, length, take, drop, refl, ap, sym, arith, inl, inr, append-nil, length-append}
use Rattle.std.proofs.lemmas.Bool.{cases_lt}
use Rattle.std.proofs.lemmas.List.{take-append-le}
use Rattle.std.specs.Prelude.{min}
use Rattle.std.proofs.lemmas.Grind.{common_steps}
use Rattle.yv_call.specs.Front.{front_of}

front_none : (initial : List ℕ) → front_of [] initial ≡ initial
front_none [] = refl
front_none (x ∷ initial) = refl

drop_none : (n : ℕ) → drop {A = ℕ} n [] ≡ []
drop_none n = grind (arith, common_steps)

-- a text that goes on after the bytes that were put
pub put_on : (text bytes initial : List ℕ)
    → take (length text) (front_of text initial)
    ++ front_of bytes (drop (length text) (front_of text initial))
    ≡ front_of (text ++ bytes) initial
put_on [] bytes initial = ap (front_of bytes) (front_none initial)
put_on (x ∷ text) bytes [] = drop_none (length bytes)
put_on (x ∷ text) bytes (y ∷ initial) = ap (λ l. x ∷ l) (put_on text bytes initial)

-- the same for a buffer that holds the text so far
put_here : (text bytes initial old new : List ℕ) → old ≡ front_of text initial
    → new ≡ take (length text) old ++ front_of bytes (drop (length text) old)
    → new ≡ front_of (text ++ bytes) initial
put_here text bytes initial old new front put =
    put
    ∙ ap (λ l. take (length text) l ++ front_of bytes (drop (length text) l)) front
    ∙ put_on text bytes initial

take_all : (n : ℕ) (xs : List ℕ) → length xs ≤ n → take n xs ≡ xs
take_all n xs h = grind (arith, common_steps)

drop_all : (n : ℕ) (xs : List ℕ) → length xs ≤ n → drop n xs ≡ []
drop_all n xs h = grind (arith, common_steps)

-- a buffer that is full stays as it is
full_front : (text bytes initial : List ℕ) → length initial ≤ length text
    → front_of (text ++ bytes) initial ≡ front_of text initial
full_front text bytes initial full =
    let rest : drop (length (text ++ bytes)) initial ≡ drop (length text) initial =
    drop_all (length (text ++ bytes)) initial (omega (arith, length-append text bytes))
    ∙ sym (drop_all (length text) initial full) in
    ap (λ l. l ++ drop (length (text ++ bytes)) initial)
    (take-append-le (length initial) text bytes full)
    ∙ ap (λ l. take (length initial) text ++ l) rest

put_past : (place : ℕ) (bytes old : List ℕ) → length old ≤ place
    → take place old ++ front_of bytes (drop place old) ≡ old
put_past place bytes old past =
    ap (λ l. take place old ++ front_of bytes l) (drop_all place old past)
    ∙ ap (λ l. take place old ++ l) (drop_none (length bytes))
    ∙ append-nil (take place old)
    ∙ take_all place old past

-- the text goes on at its end, or past all that a buffer can hold
pub put_next : (text bytes initial old new : List ℕ) (most : ℕ) → length old ≤ most
    → length old ≡ length initial → old ≡ front_of text initial
    → new ≡ take (min (length text) most) old
    ++ front_of bytes (drop (min (length text) most) old)
    → new ≡ front_of (text ++ bytes) initial
put_next text bytes initial old new most few sized front put =
    elim (cases_lt most (length text)) [
      | inl more ↦ let past : min (length text) most ≡ most = omega arith in
          (rw past at put) ∙ put_past most bytes old few ∙ front
          ∙ sym (full_front text bytes initial (omega arith))
      | inr fits ↦ let here : min (length text) most ≡ length text = omega arith in
          put_here text bytes initial old new front (rw here at put)
    ]
