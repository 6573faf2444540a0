-- The code's lists and texts, as the machine sees them.
use Rattle.std.proofs.Common.{◌≡◌, ℕ, zero, suc, ◌+◌, ◌≤◌, Bool, true, false, cond, ◌==◌, ◌&&◌, ◌||◌, List, [], ◌∷◌, length, take, drop, refl, sym, ◌∙◌, ap, inl, inr, arith, add-one}
use Rattle.std.proofs.Math.Seq.{take-append_seam}
use Rattle.std.proofs.Common.{length-append}
use Rattle.std.proofs.lemmas.Bool.{cases_Bool}
use Rattle.yv_source.specs.Pieces.{until, begins}
use Rattle.yv_text_if_feature.specs.Names.{is_identifier}
use Rattle.yv_source.specs.Inner.Machine.{is_keyword, behind_colon}
use Rattle.yv_source.proofs.FirstPiece.{until_from}
use Rattle.yv_source.specs.Inner.Scan.{from}

pub take_until : (stop : List ℕ → Bool) (w : List ℕ) → take (length (until stop w)) w ≡ until stop w
take_until stop w = ap (take (length (until stop w))) (sym (until_from stop w)) ∙ take-append_seam (until stop w) (from stop w)

drop_empty : (n : ℕ) → drop {A = ℕ} n [] ≡ []
drop_empty zero = refl
drop_empty (suc n) = refl

pub behind_drop : (w : List ℕ) → behind_colon w ≡ drop (length (until (begins 58) w) + 1) w
behind_drop [] = refl
behind_drop (b ∷ w) =
    elim (cases_Bool (b == 58)) [
      | inl e ↦ ap (λ v. cond v w (behind_colon w)) e ∙ sym (ap (λ v. drop (length (cond v [] (b ∷ until (begins 58) w)) + 1) (b ∷ w)) e)
      | inr e ↦
          ap (λ v. cond v w (behind_colon w)) e ∙ behind_drop w
          ∙ ap (λ n. drop n w) (add-one (length (until (begins 58) w)))
          ∙ ap (λ n. drop n (b ∷ w)) (sym (add-one (suc (length (until (begins 58) w)))))
          ∙ sym (ap (λ v. drop (length (cond v [] (b ∷ until (begins 58) w)) + 1) (b ∷ w)) e)
    ]

pub keyword_parts : (w : List ℕ) → is_keyword w ≡ (is_identifier w || (is_identifier (take (length (until (begins 58) w)) w) && is_identifier (drop (length (until (begins 58) w) + 1) w)))
keyword_parts w =
    ap (λ (x : List ℕ × List ℕ). is_identifier w || (is_identifier x.0 && is_identifier x.1)) (λ i. (sym (take_until (begins 58) w) i, behind_drop w i))

pub length-until : (stop : List ℕ → Bool) (w : List ℕ) → length (until stop w) ≤ length w
length-until stop w = let e = ap length (until_from stop w) in omega (arith, e, length-append (until stop w) (from stop w))

drop_past : (n : ℕ) (w : List ℕ) → length w ≤ n → drop n w ≡ []
drop_past zero [] h = refl
drop_past (suc n) [] h = refl
drop_past zero (b ∷ w) h = absurd (omega (arith, h))
drop_past (suc n) (b ∷ w) h = drop_past n w (omega (arith, h))

and_false : (x : Bool) → (x && false) ≡ false
and_false true = refl
and_false false = refl

pub key_without : (w : List ℕ) → is_identifier w ≡ false → length (until (begins 58) w) ≡ length w → is_keyword w ≡ false
key_without w i n =
    let past : drop (length (until (begins 58) w) + 1) w ≡ [] = drop_past (length (until (begins 58) w) + 1) w (omega (arith, n)) in
    keyword_parts w
    ∙ ap (λ v. v || (is_identifier (take (length (until (begins 58) w)) w) && is_identifier (drop (length (until (begins 58) w) + 1) w))) i
    ∙ ap (λ l. is_identifier (take (length (until (begins 58) w)) w) && is_identifier l) past
    ∙ and_false (is_identifier (take (length (until (begins 58) w)) w))

pub key_with : (w : List ℕ) (n : ℕ) → is_identifier w ≡ false → n ≡ length (until (begins 58) w) → is_keyword w ≡ (is_identifier (take n w) && is_identifier (drop (n + 1) w))
key_with w n i e =
    keyword_parts w
    ∙ ap (λ v. v || (is_identifier (take (length (until (begins 58) w)) w) && is_identifier (drop (length (until (begins 58) w) + 1) w))) i
    ∙ ap (λ k. is_identifier (take k w) && is_identifier (drop (k + 1) w)) (sym e)
