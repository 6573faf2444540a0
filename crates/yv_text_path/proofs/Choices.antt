-- Choices by tests, and what a byte between words is.
use Rattle.std.proofs.Common.{◌≡◌, ℕ, ◌==◌, Bool, true, false, refl}
use Rattle.std.specs.Prelude.{if◌then◌else◌}
use Rattle.std.proofs.lemmas.Bool.{eqb-true}
use Rattle.yv_text_if_feature.specs.Bytes.{is_blank}
use Rattle.yv_text_path.specs.Pieces.{Piece, Blank, Slash, OpeningBracket, ClosingBracket, EqualsSign, OpeningParenthesis, ClosingParenthesis, SingleQuote, DoubleQuote, Other, mark_of}

-- a fact of one of two values, by a test
pub choose : {A : Type 0} (P : A → Type 0) (t : Bool) (x y : A) → (t ≡ true → P x) → (t ≡ false → P y) → P (if t then x else y)
choose P true x y f g = f refl
choose P false x y f g = g refl

-- a fact of what a byte between words is
pub mark_cases : (P : Piece → Type 0) (b : ℕ) → (is_blank b ≡ true → P Blank)
    → (b ≡ 47 → P Slash) → (b ≡ 91 → P OpeningBracket) → (b ≡ 93 → P ClosingBracket) → (b ≡ 61 → P EqualsSign)
    → (b ≡ 40 → P OpeningParenthesis) → (b ≡ 41 → P ClosingParenthesis) → (b ≡ 39 → P SingleQuote) → (b ≡ 34 → P DoubleQuote)
    → ((b == 39) ≡ false → (b == 34) ≡ false → P Other) → P (mark_of b)
mark_cases P b blank slash bracket end equals opening closing single double other =
    choose P (is_blank b) _ _ blank (λ _.
    choose P (b == 47) _ _ (λ e. slash (eqb-true b 47 e)) (λ _.
    choose P (b == 91) _ _ (λ e. bracket (eqb-true b 91 e)) (λ _.
    choose P (b == 93) _ _ (λ e. end (eqb-true b 93 e)) (λ _.
    choose P (b == 61) _ _ (λ e. equals (eqb-true b 61 e)) (λ _.
    choose P (b == 40) _ _ (λ e. opening (eqb-true b 40 e)) (λ _.
    choose P (b == 41) _ _ (λ e. closing (eqb-true b 41 e)) (λ _.
    choose P (b == 39) _ _ (λ e. single (eqb-true b 39 e)) (λ f.
    choose P (b == 34) _ _ (λ e. double (eqb-true b 34 e)) (λ g. other f g)))))))))
