-- Values in quotes.
use Rattle.std.proofs.Common.{◌≡◌, inl, inr, ℕ, suc, ◌==◌, true, false, List, [], ◌∷◌, ◌++◌, sym, ◌∙◌, ap, refl, arith}
use Rattle.std.specs.Prelude.{Contains}
use Rattle.std.specs.List.{list_all}
use Rattle.std.proofs.lemmas.Bool.{and_parts, false≢true}
use Rattle.std.proofs.lemmas.Bool.Decides.{nat_tests}
use Rattle.std.proofs.lemmas.List.Elements.{Contains-append_cases}
use Rattle.std.proofs.lemmas.Map.Made.{Contains-tail}
use Rattle.yv_text_path.specs.Pieces.{Piece, Word, Blank, Slash, OpeningBracket, ClosingBracket, EqualsSign, OpeningParenthesis, ClosingParenthesis, SingleQuote, DoubleQuote, Other, is_word_byte, with_word_byte, pieces}
use Rattle.yv_text_path.proofs.Choices.{choose, mark_cases}
use Rattle.yv_text_instance.specs.InnerStates.{completes}
use Rattle.yv_text_instance.specs.declared.state.State.TheVariants.{SingleQuotes, DoubleQuotes, Closing}

-- the text does not have the byte
abbrev pub Lacks : List ℕ → ℕ → Type 0
Lacks text q = Contains text q → ⊥

pub none_lacks : (q : ℕ) → Lacks [] q
none_lacks q h = absurd (omega (arith, h.1))

pub more_lacks : (b q : ℕ) (text : List ℕ) → (b ≡ q → ⊥) → Lacks text q → Lacks (b ∷ text) q
more_lacks b q text other h k = h (Contains-tail b text q other k)

pub joined_lacks : (xs ys : List ℕ) (q : ℕ) → Lacks xs q → Lacks ys q → Lacks (xs ++ ys) q
joined_lacks xs ys q f g h = elim (Contains-append_cases xs ys q h) [ inl k ↦ f k | inr k ↦ g k ]

pub differs : (b q : ℕ) → (b == q) ≡ false → b ≡ q → ⊥
differs b q e h = grind (arith, nat_tests)

-- no word has a byte that is none of a word
pub word_lacks : (w : List ℕ) (q : ℕ) → is_word_byte q ≡ false → list_all is_word_byte w ≡ true → Lacks w q
word_lacks [] q e h = none_lacks q
word_lacks (b ∷ bs) q e h =
    let p = and_parts _ _ h in
    more_lacks b q bs (λ same. false≢true (sym e ∙ sym (ap is_word_byte same) ∙ p.0)) (word_lacks bs q e p.1)

first_differs : (b q : ℕ) (text : List ℕ) → Lacks (b ∷ text) q → b ≡ q → ⊥
first_differs b q text h e = h (0, omega arith, e)

rest_lacks : (b q : ℕ) (text : List ℕ) → Lacks (b ∷ text) q → Lacks text q
rest_lacks b q text h k = h (suc k.0, omega (arith, k.1), k.2)

-- ### in single quotes

single_word : (b : ℕ) (ps : List Piece) → completes SingleQuotes (with_word_byte b ps) ≡ completes SingleQuotes ps
single_word b [] = refl
single_word b (Word w ∷ ps) = refl
single_word b (Blank ∷ ps) = refl
single_word b (Slash ∷ ps) = refl
single_word b (OpeningBracket ∷ ps) = refl
single_word b (ClosingBracket ∷ ps) = refl
single_word b (EqualsSign ∷ ps) = refl
single_word b (OpeningParenthesis ∷ ps) = refl
single_word b (ClosingParenthesis ∷ ps) = refl
single_word b (SingleQuote ∷ ps) = refl
single_word b (DoubleQuote ∷ ps) = refl
single_word b (Other ∷ ps) = refl

single_byte : (b : ℕ) (text : List ℕ) → (b ≡ 39 → ⊥) → completes SingleQuotes (pieces (b ∷ text)) ≡ completes SingleQuotes (pieces text)
single_byte b text other =
    choose (λ ps. completes SingleQuotes ps ≡ completes SingleQuotes (pieces text)) (is_word_byte b) _ _
    (λ _. single_word b (pieces text))
    (λ _. mark_cases (λ p. completes SingleQuotes (p ∷ pieces text) ≡ completes SingleQuotes (pieces text)) b
    (λ _. refl) (λ _. refl) (λ _. refl) (λ _. refl) (λ _. refl) (λ _. refl) (λ _. refl) (λ e. absurd (other e)) (λ _. refl) (λ _ _. refl))

pub single_read : (inside rest : List ℕ) → Lacks inside 39 → completes SingleQuotes (pieces (inside ++ 39 ∷ rest)) ≡ completes Closing (pieces rest)
single_read [] rest h = refl
single_read (b ∷ bs) rest h = single_byte b (bs ++ 39 ∷ rest) (first_differs b 39 bs h) ∙ single_read bs rest (rest_lacks b 39 bs h)

-- ### in double quotes

double_word : (b : ℕ) (ps : List Piece) → completes DoubleQuotes (with_word_byte b ps) ≡ completes DoubleQuotes ps
double_word b [] = refl
double_word b (Word w ∷ ps) = refl
double_word b (Blank ∷ ps) = refl
double_word b (Slash ∷ ps) = refl
double_word b (OpeningBracket ∷ ps) = refl
double_word b (ClosingBracket ∷ ps) = refl
double_word b (EqualsSign ∷ ps) = refl
double_word b (OpeningParenthesis ∷ ps) = refl
double_word b (ClosingParenthesis ∷ ps) = refl
double_word b (SingleQuote ∷ ps) = refl
double_word b (DoubleQuote ∷ ps) = refl
double_word b (Other ∷ ps) = refl

double_byte : (b : ℕ) (text : List ℕ) → (b ≡ 34 → ⊥) → completes DoubleQuotes (pieces (b ∷ text)) ≡ completes DoubleQuotes (pieces text)
double_byte b text other =
    choose (λ ps. completes DoubleQuotes ps ≡ completes DoubleQuotes (pieces text)) (is_word_byte b) _ _
    (λ _. double_word b (pieces text))
    (λ _. mark_cases (λ p. completes DoubleQuotes (p ∷ pieces text) ≡ completes DoubleQuotes (pieces text)) b
    (λ _. refl) (λ _. refl) (λ _. refl) (λ _. refl) (λ _. refl) (λ _. refl) (λ _. refl) (λ _. refl) (λ e. absurd (other e)) (λ _ _. refl))

pub double_read : (inside rest : List ℕ) → Lacks inside 34 → completes DoubleQuotes (pieces (inside ++ 34 ∷ rest)) ≡ completes Closing (pieces rest)
double_read [] rest h = refl
double_read (b ∷ bs) rest h = double_byte b (bs ++ 34 ∷ rest) (first_differs b 34 bs h) ∙ double_read bs rest (rest_lacks b 34 bs h)
