-- The test of keywords.
use Rattle.std.proofs.Common.{◌≡◌, ℕ, Bool, true, false, cond, ◌==◌, ◌&&◌, ◌||◌, List, [], ◌∷◌, ◌++◌, refl, sym, ◌∙◌, ap, inl, inr, arith}
use Rattle.std.proofs.lemmas.Bool.{eqb-true, or_cases, cases_Bool}
use Rattle.std.specs.List.{list_all}
use Rattle.yv_source.specs.Pieces.{until, begins}
use Rattle.yv_text_if_feature.specs.Names.{is_identifier, is_part, is_start}
use Rattle.yv_source.specs.Keywords.{IsKeyword}
use Rattle.yv_source.specs.Inner.Machine.{is_keyword, behind_colon}

pub false_true : false ≡ true → ⊥
false_true h = cc

pub and_first : (x y : Bool) → (x && y) ≡ true → x ≡ true
and_first true y h = refl
and_first false y h = h

pub and_second : (x y : Bool) → (x && y) ≡ true → y ≡ true
and_second true y h = h
and_second false y h = absurd (false_true h)

no_colon : (p : ℕ → Bool) → p 58 ≡ false → (b : ℕ) → p b ≡ true → (b == 58) ≡ false
no_colon p without b h =
    elim (cases_Bool (b == 58)) [
      | inl e ↦ absurd (false_true (sym without ∙ ap p (sym (eqb-true b 58 e)) ∙ h))
      | inr e ↦ e
    ]

until_colon : (p n : List ℕ) → list_all is_part p ≡ true → until (begins 58) (p ++ 58 ∷ n) ≡ p
until_colon [] n h = refl
until_colon (b ∷ p) n h =
    ap (λ v. cond v [] (b ∷ until (begins 58) (p ++ 58 ∷ n))) (no_colon is_part refl b (and_first (is_part b) (list_all is_part p) h))
    ∙ ap (λ l. b ∷ l) (until_colon p n (and_second (is_part b) (list_all is_part p) h))

behind_first : (p n : List ℕ) → list_all is_part p ≡ true → behind_colon (p ++ 58 ∷ n) ≡ n
behind_first [] n h = refl
behind_first (b ∷ p) n h =
    ap (λ v. cond v (p ++ 58 ∷ n) (behind_colon (p ++ 58 ∷ n))) (no_colon is_part refl b (and_first (is_part b) (list_all is_part p) h))
    ∙ behind_first p n (and_second (is_part b) (list_all is_part p) h)

or_first : (x y : Bool) → x ≡ true → (x || y) ≡ true
or_first x y h = ap (λ v. v || y) h

or_second : (x y : Bool) → y ≡ true → (x || y) ≡ true
or_second true y h = refl
or_second false y h = h

both : (x y : Bool) → x ≡ true → y ≡ true → (x && y) ≡ true
both x y h k = ap (λ v. v && y) h ∙ k

or_starts : (b : ℕ) → is_start b ≡ true → is_part b ≡ true
or_starts b h = grind (arith, h)

all_of_identifier : (p : List ℕ) → is_identifier p ≡ true → list_all is_part p ≡ true
all_of_identifier [] h = refl
all_of_identifier (b ∷ p) h =
    let s : Bool = is_start b in
    let r : Bool = list_all is_part p in
    both (is_part b) r (or_starts b (and_first s r h)) (and_second s r h)

pub keyword_test : (w : List ℕ) → IsKeyword w → is_keyword w ≡ true
keyword_test w (inl h) = or_first (is_identifier w) (is_identifier (until (begins 58) w) && is_identifier (behind_colon w)) h
keyword_test w (inr (p, n, is, hp, hn)) =
    let a = all_of_identifier p hp in
    or_second (is_identifier w) (is_identifier (until (begins 58) w) && is_identifier (behind_colon w))
    (both (is_identifier (until (begins 58) w)) (is_identifier (behind_colon w)) (ap (λ l. is_identifier (until (begins 58) l)) is ∙ ap is_identifier (until_colon p n a) ∙ hp)
    (ap (λ l. is_identifier (behind_colon l)) is ∙ ap is_identifier (behind_first p n a) ∙ hn))

split_colon : (w : List ℕ) → is_identifier (behind_colon w) ≡ true → w ≡ until (begins 58) w ++ 58 ∷ behind_colon w
split_colon [] h = absurd (false_true h)
split_colon (b ∷ w) h =
    elim (cases_Bool (b == 58)) [
      | inl e ↦ ap (λ x. x ∷ w) (eqb-true b 58 e) ∙ sym (ap (λ v. cond v [] (b ∷ until (begins 58) w) ++ 58 ∷ cond v w (behind_colon w)) e)
      | inr e ↦
          ap (λ l. b ∷ l) (split_colon w (sym (ap (λ v. is_identifier (cond v w (behind_colon w))) e) ∙ h))
          ∙ sym (ap (λ v. cond v [] (b ∷ until (begins 58) w) ++ 58 ∷ cond v w (behind_colon w)) e)
    ]

pub keyword_means : (w : List ℕ) → is_keyword w ≡ true → IsKeyword w
keyword_means w h =
    let u : Bool = is_identifier (until (begins 58) w) in
    let v : Bool = is_identifier (behind_colon w) in
    elim (or_cases (is_identifier w) (u && v) h) [
      | inl e ↦ inl e
      | inr e ↦ inr (until (begins 58) w, behind_colon w, split_colon w (and_second u v e), and_first u v e, and_second u v e)
    ]
