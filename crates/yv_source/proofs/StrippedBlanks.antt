-- What is stripped of a text changes nothing in whether its backslash pairs are good.
use Rattle.std.proofs.Common.{◌≡◌, ℕ, zero, suc, ◌-◌, Bool, true, false, cond, ◌==◌, ◌&&◌, ◌||◌, List, [], ◌∷◌, ◌++◌, refl, sym, ◌∙◌, ap, subst, inl, inr}
use Rattle.std.proofs.Common.{◌+◌, ◌≤◌, nat_lt, arith}
use Rattle.std.specs.Prelude.{encode_utf8_all, IsUtf8}
use Rattle.std.specs.Str.{chars}
use lib.Utf8.{encode}
use Rattle.std.proofs.lemmas.Bool.{eqb-true, or_cases, cases_Bool, cases_lt}
use Rattle.std.proofs.lemmas.Str.{encodes-chars, encode_ascii}
use Rattle.yv_source.proofs.Until.{not_equal}
use Rattle.yv_source.specs.Pieces.{begins}
use Rattle.yv_source.specs.Quotes.{is_gap, spaces, lines_of, without_indent, breaks, without_trailing, strip}
use Rattle.yv_source.specs.Escapes.{is_escape, all_pairs_good}
use Rattle.yv_source.proofs.WriterOutput.{lead, lead_lines, first_stays}
use Rattle.yv_source.proofs.Keyword.{false_true, and_first, and_second}

abbrev pairs : Bool → List ℕ → Bool
pairs e t = all_pairs_good e t

gap_pairs : (c : ℕ) (rest : List ℕ) → is_gap c ≡ true → (pairs false (c ∷ rest) ≡ pairs false rest) × (pairs true (c ∷ rest) ≡ false)
gap_pairs c rest h =
    let P : ℕ → Type 0 = λ x. (pairs false (x ∷ rest) ≡ pairs false rest) × (pairs true (x ∷ rest) ≡ false) in
    elim (or_cases (c == 32) (c == 9) h) [
      | inl e ↦ subst P (sym (eqb-true c 32 e)) (refl, refl)
      | inr e ↦ subst P (sym (eqb-true c 9 e)) (refl, refl)
    ]

break_is_none : (c : ℕ) (x : Bool) → (c == 10 || (c == 13 && x)) ≡ true → is_escape c ≡ false
break_is_none c x h =
    elim (or_cases (c == 10) (c == 13 && x) h) [
      | inl e ↦ ap is_escape (eqb-true c 10 e)
      | inr e ↦ ap is_escape (eqb-true c 13 (and_first (c == 13) x e))
    ]

dropped : (c : ℕ) (rest : List ℕ) (v : Bool) → (is_gap c && breaks rest) ≡ v → without_trailing (c ∷ rest) ≡ cond v (without_trailing rest) (c ∷ without_trailing rest)
dropped c rest v e = ap (λ x. cond x (without_trailing rest) (c ∷ without_trailing rest)) e

break_pairs : (t : List ℕ) → breaks t ≡ true → pairs true (without_trailing t) ≡ false
break_pairs [] h = absurd (false_true h)
break_pairs (c ∷ rest) h =
    elim (cases_Bool (is_gap c && breaks rest)) [
      | inl e ↦ ap (pairs true) (dropped c rest true e) ∙ break_pairs rest (and_second (is_gap c) (breaks rest) e)
      | inr e ↦
          ap (pairs true) (dropped c rest false e)
          ∙ elim (or_cases (c == 10 || (c == 13 && begins 10 rest)) (is_gap c && breaks rest) h) [
            | inl b ↦ ap (λ v. v && pairs false (without_trailing rest)) (break_is_none c (begins 10 rest) b)
            | inr b ↦ absurd (false_true (sym e ∙ b))
          ]
    ]

trailing_pairs : (e : Bool) (t : List ℕ) → pairs e (without_trailing t) ≡ pairs e t
trailing_pairs e [] = refl
trailing_pairs false (c ∷ rest) =
    elim (cases_Bool (is_gap c && breaks rest)) [
      | inl b ↦ ap (pairs false) (dropped c rest true b) ∙ trailing_pairs false rest ∙ sym (gap_pairs c rest (and_first (is_gap c) (breaks rest) b)).0
      | inr b ↦ ap (pairs false) (dropped c rest false b) ∙ trailing_pairs (c == 92) rest
    ]
trailing_pairs true (c ∷ rest) =
    elim (cases_Bool (is_gap c && breaks rest)) [
      | inl b ↦ ap (pairs true) (dropped c rest true b) ∙ break_pairs rest (and_second (is_gap c) (breaks rest) b) ∙ sym (gap_pairs c rest (and_first (is_gap c) (breaks rest) b)).1
      | inr b ↦ ap (pairs true) (dropped c rest false b) ∙ ap (λ v. is_escape c && v) (trailing_pairs false rest)
    ]

spaces_pairs : (n : ℕ) (t : List ℕ) → pairs false (spaces n ++ t) ≡ pairs false t
spaces_pairs zero t = refl
spaces_pairs (suc n) t = spaces_pairs n t

-- one character that stays
stays : (e : Bool) (c : ℕ) (x t : List ℕ) → ((f : Bool) → pairs f x ≡ pairs f t) → pairs e (c ∷ x) ≡ pairs e (c ∷ t)
stays false c x t h = h (c == 92)
stays true c x t h = ap (λ v. is_escape c && v) (h false)

by_choice : (b : Bool) (x y : List ℕ) (e v : Bool) → (b ≡ true → pairs e x ≡ v) → (b ≡ false → pairs e y ≡ v) → pairs e (cond b x y) ≡ v
by_choice true x y e v f g = f refl
by_choice false x y e v f g = g refl

break_stays : (e : Bool) (x t : List ℕ) → pairs false x ≡ pairs false t → pairs e (10 ∷ x) ≡ pairs e (10 ∷ t)
break_stays false x t h = h
break_stays true x t h = refl

zero_is : (left : ℕ) → (left == 0) ≡ false → left ≡ 0 → ⊥
zero_is left e z = false_true (sym e ∙ ap (λ n. n == 0) z)

abbrev Indents : ℕ → List ℕ → Type 0
Indents n t = (e : Bool) (left : ℕ) → (e ≡ true → left ≡ 0) → pairs e (lead n left t) ≡ pairs e t

-- a character in the indent
indented : (n c left : ℕ) (t : List ℕ) → Indents n t
    → pairs false (cond (c == 32) (lead n (left - 1) t) (cond (c == 9) (spaces (8 - left) ++ lead n (left - 8) t) (c ∷ lead n 0 t))) ≡ pairs false (c ∷ t)
indented n c left t h =
    let P : ℕ → Type 0 = λ x. pairs false t ≡ pairs false (x ∷ t) in
    by_choice (c == 32) _ _ false (pairs false (c ∷ t))
    (λ b. h false (left - 1) (λ i. absurd (false_true i)) ∙ subst P (sym (eqb-true c 32 b)) refl)
    (λ b. by_choice (c == 9) _ _ false (pairs false (c ∷ t))
    (λ d. spaces_pairs (8 - left) (lead n (left - 8) t) ∙ h false (left - 8) (λ i. absurd (false_true i)) ∙ subst P (sym (eqb-true c 9 d)) refl)
    (λ d. stays false c (lead n 0 t) t (λ f. h f 0 (λ i. refl))))

in_indent : (n c left : ℕ) (t : List ℕ) → Indents n t → (e : Bool) → (e ≡ true → left ≡ 0) → (left == 0) ≡ false
    → pairs e (cond (c == 32) (lead n (left - 1) t) (cond (c == 9) (spaces (8 - left) ++ lead n (left - 8) t) (c ∷ lead n 0 t))) ≡ pairs e (c ∷ t)
in_indent n c left t h false k z = indented n c left t h
in_indent n c left t h true k z = absurd (zero_is left z (k refl))

lead_step : (n c : ℕ) (t : List ℕ) → Indents n t → Indents n (c ∷ t)
lead_step n c t h e left k =
    by_choice (c == 10) _ _ e (pairs e (c ∷ t))
    (λ b.
    let P : ℕ → Type 0 = λ x. pairs e (x ∷ lead n n t) ≡ pairs e (x ∷ t) in
    subst P (sym (eqb-true c 10 b)) (break_stays e (lead n n t) t (h false n (λ i. absurd (false_true i)))))
    (λ b. by_choice (left == 0) _ _ e (pairs e (c ∷ t))
    (λ z. stays e c (lead n left t) t (λ f. h f left (λ i. eqb-true left 0 z)))
    (λ z. in_indent n c left t h e k z))

lead_pairs : (n : ℕ) (t : List ℕ) → Indents n t
lead_pairs n [] e left h = refl
lead_pairs n (c ∷ t) e left h = lead_step n c t (lead_pairs n t) e left h

pub stripping_keeps : (n : ℕ) (t : List ℕ) → all_pairs_good false (without_trailing (without_indent n t)) ≡ all_pairs_good false t
stripping_keeps n t =
    trailing_pairs false (without_indent n t)
    ∙ ap (all_pairs_good false) (sym (lead_lines n t 0 ∙ first_stays n (lines_of t)))
    ∙ lead_pairs n t false 0 (λ i. refl)

-- The bytes of a text have the same pairs as its characters: those of a character that isn't ASCII
-- are no backslash.
abbrev AllLarge : List ℕ → Type 0
AllLarge [] = Unit {0}
AllLarge (b ∷ g) = (128 ≤ b) × AllLarge g

abbrev IsLarge : List ℕ → Type 0
IsLarge [] = ⊥
IsLarge (b ∷ g) = (128 ≤ b) × AllLarge g

not_small : (c : ℕ) → 128 ≤ c → nat_lt c 128 ≡ true → ⊥
not_small c h e = let f : nat_lt c 128 ≡ false = grind arith in false_true (sym f ∙ e)

by_size : (P : List ℕ → Type 0) (x y z : Bool) (p q r s : List ℕ) → (x ≡ true → ⊥) → P q → P r → P s → P (cond x p (cond y q (cond z r s)))
by_size P true y z p q r s none a b c = absurd (none refl)
by_size P false true z p q r s none a b c = a
by_size P false false true p q r s none a b c = b
by_size P false false false p q r s none a b c = c

large_of : (c : ℕ) → 128 ≤ c → IsLarge (encode c)
unfolding encode
large_of c h =
    by_size IsLarge (nat_lt c 128) (nat_lt c 2048) (nat_lt c 65536) _ _ _ _ (not_small c h)
    (omega arith, (omega arith, tt)) (omega arith, (omega arith, (omega arith, tt))) (omega arith, (omega arith, (omega arith, (omega arith, tt))))

not_92 : (b : ℕ) → 128 ≤ b → (b == 92) ≡ false
not_92 b h = not_equal b 92 (λ e. omega (arith, e, h))

no_escape : (b : ℕ) → 128 ≤ b → is_escape b ≡ false
no_escape b h =
    ap (λ (x : Bool × (Bool × (Bool × Bool))). ((x.0 || x.1.0) || x.1.1.0) || x.1.1.1)
    (λ i. (not_equal b 110 (λ e. omega (arith, e, h)) i, (not_equal b 116 (λ e. omega (arith, e, h)) i, (not_equal b 34 (λ e. omega (arith, e, h)) i, not_92 b h i))))

large_pairs : (g t : List ℕ) → AllLarge g → pairs false (g ++ t) ≡ pairs false t
large_pairs [] t h = refl
large_pairs (b ∷ g) t (h, r) = ap (λ v. pairs v (g ++ t)) (not_92 b h) ∙ large_pairs g t r

escape_none : (b : ℕ) (t : List ℕ) → 128 ≤ b → pairs true (b ∷ t) ≡ false
escape_none b t h = ap (λ v. v && pairs false t) (no_escape b h)

one_large : (e : Bool) (c : ℕ) (g t u : List ℕ) → IsLarge g → 128 ≤ c → pairs false t ≡ pairs false u → pairs e (g ++ t) ≡ pairs e (c ∷ u)
one_large e c [] t u h l k = absurd h
one_large false c (b ∷ g) t u (h, r) l k =
    large_pairs (b ∷ g) t (h, r) ∙ k ∙ sym (ap (λ v. pairs v u) (not_92 c l))
one_large true c (b ∷ g) t u (h, r) l k = escape_none b (g ++ t) h ∙ sym (escape_none c u l)

bytes_pairs : (cs : List ℕ) (e : Bool) → pairs e (encode_utf8_all cs) ≡ pairs e cs
bytes_pairs [] e = refl
bytes_pairs (c ∷ cs) e =
    elim (cases_lt c 128) [
      | inl l ↦ ap (λ g. pairs e (g ++ encode_utf8_all cs)) (encode_ascii c l) ∙ stays e c (encode_utf8_all cs) cs (bytes_pairs cs)
      | inr l ↦ one_large e c (encode c) (encode_utf8_all cs) cs (large_of c l) l (bytes_pairs cs false)
    ]

-- what is left of a text has bad pairs exactly where the text has
pub stripped_pairs : (column : ℕ) (text : List ℕ) → IsUtf8 text → all_pairs_good false (strip column text) ≡ all_pairs_good false text
stripped_pairs column text u =
    stripping_keeps (column + 1) (chars text) ∙ sym (bytes_pairs (chars text) false) ∙ ap (all_pairs_good false) (encodes-chars text u)
