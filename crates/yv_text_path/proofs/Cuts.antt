-- How a text is cut into pieces.
use Rattle.std.proofs.Common.{◌≡◌, ℕ, suc, ◌==◌, ◌<◌, ◌≤◌, Bool, true, false, cond, List, [], ◌∷◌, ◌++◌, take, drop, sym, ◌∙◌, ap, subst, refl, arith}
use Rattle.std.specs.List.{list_all}
use Rattle.std.proofs.lemmas.Bool.{and_parts, and_from}
use Rattle.yv_text_if_feature.specs.Bytes.{is_blank}
use Rattle.yv_text_path.specs.Pieces.{Piece, Word, Blank, Slash, OpeningBracket, ClosingBracket, EqualsSign, OpeningParenthesis, ClosingParenthesis, SingleQuote, DoubleQuote, Other, is_word_byte, mark_of, with_word_byte, pieces}
use Rattle.yv_text_path.specs.InnerPieces.{word_len}
use Rattle.yv_text_path.proofs.Choices.{choose, mark_cases}

-- these pieces, one after the other, are the text
pub data Cut : List Piece → List ℕ → Type 0 where
  nothing : Cut [] []
  word : {w rest text : List ℕ} {ps : List Piece} → list_all is_word_byte w ≡ true → Cut ps rest → text ≡ w ++ rest → Cut (Word w ∷ ps) text
  blank : {b : ℕ} {rest : List ℕ} {ps : List Piece} → is_blank b ≡ true → Cut ps rest → Cut (Blank ∷ ps) (b ∷ rest)
  slash : {rest : List ℕ} {ps : List Piece} → Cut ps rest → Cut (Slash ∷ ps) (47 ∷ rest)
  opening_bracket : {rest : List ℕ} {ps : List Piece} → Cut ps rest → Cut (OpeningBracket ∷ ps) (91 ∷ rest)
  closing_bracket : {rest : List ℕ} {ps : List Piece} → Cut ps rest → Cut (ClosingBracket ∷ ps) (93 ∷ rest)
  equals_sign : {rest : List ℕ} {ps : List Piece} → Cut ps rest → Cut (EqualsSign ∷ ps) (61 ∷ rest)
  opening_parenthesis : {rest : List ℕ} {ps : List Piece} → Cut ps rest → Cut (OpeningParenthesis ∷ ps) (40 ∷ rest)
  closing_parenthesis : {rest : List ℕ} {ps : List Piece} → Cut ps rest → Cut (ClosingParenthesis ∷ ps) (41 ∷ rest)
  single_quote : {rest : List ℕ} {ps : List Piece} → Cut ps rest → Cut (SingleQuote ∷ ps) (39 ∷ rest)
  double_quote : {rest : List ℕ} {ps : List Piece} → Cut ps rest → Cut (DoubleQuote ∷ ps) (34 ∷ rest)
  other : {b : ℕ} {rest : List ℕ} {ps : List Piece} → (b == 39) ≡ false → (b == 34) ≡ false → Cut ps rest → Cut (Other ∷ ps) (b ∷ rest)

same_front : {p : Piece} {ps : List Piece} {bs : List ℕ} (b n : ℕ) → b ≡ n → Cut (p ∷ ps) (n ∷ bs) → Cut (p ∷ ps) (b ∷ bs)
same_front {p} {ps} {bs} b n e c = let P : ℕ → Type 0 = λ m. Cut (p ∷ ps) (m ∷ bs) in subst P (sym e) c

cut_mark : (b : ℕ) {ps : List Piece} {bs : List ℕ} → Cut ps bs → Cut (mark_of b ∷ ps) (b ∷ bs)
cut_mark b {ps} {bs} c =
    mark_cases (λ p. Cut (p ∷ ps) (b ∷ bs)) b (λ e. blank e c)
    (λ e. same_front b 47 e (slash c)) (λ e. same_front b 91 e (opening_bracket c)) (λ e. same_front b 93 e (closing_bracket c)) (λ e. same_front b 61 e (equals_sign c))
    (λ e. same_front b 40 e (opening_parenthesis c)) (λ e. same_front b 41 e (closing_parenthesis c)) (λ e. same_front b 39 e (single_quote c)) (λ e. same_front b 34 e (double_quote c))
    (λ e f. other e f c)

alone : (b : ℕ) → is_word_byte b ≡ true → list_all is_word_byte (b ∷ []) ≡ true
alone b e = and_from _ _ e refl

cut_word : (b : ℕ) {ps : List Piece} {bs : List ℕ} → is_word_byte b ≡ true → Cut ps bs → Cut (with_word_byte b ps) (b ∷ bs)
cut_word b e nothing = word (alone b e) nothing refl
cut_word b e (word h c same) = word (and_from _ _ e h) c (ap (λ t. b ∷ t) same)
cut_word b e (blank f c) = word (alone b e) (blank f c) refl
cut_word b e (slash c) = word (alone b e) (slash c) refl
cut_word b e (opening_bracket c) = word (alone b e) (opening_bracket c) refl
cut_word b e (closing_bracket c) = word (alone b e) (closing_bracket c) refl
cut_word b e (equals_sign c) = word (alone b e) (equals_sign c) refl
cut_word b e (opening_parenthesis c) = word (alone b e) (opening_parenthesis c) refl
cut_word b e (closing_parenthesis c) = word (alone b e) (closing_parenthesis c) refl
cut_word b e (single_quote c) = word (alone b e) (single_quote c) refl
cut_word b e (double_quote c) = word (alone b e) (double_quote c) refl
cut_word b e (other f g c) = word (alone b e) (other f g c) refl

-- the pieces of a text are the text
pub cut : (text : List ℕ) → Cut (pieces text) text
cut [] = nothing
cut (b ∷ bs) = choose (λ ps. Cut ps (b ∷ bs)) (is_word_byte b) _ _ (λ e. cut_word b e (cut bs)) (λ _. cut_mark b (cut bs))

-- a text begins with a byte of a word
abbrev pub begins_word : List ℕ → Bool
begins_word [] = false
begins_word (b ∷ bs) = is_word_byte b

mark_after : (b c : ℕ) (ps : List Piece) → with_word_byte b (mark_of c ∷ ps) ≡ Word (b ∷ []) ∷ mark_of c ∷ ps
mark_after b c ps =
    mark_cases (λ p. with_word_byte b (p ∷ ps) ≡ Word (b ∷ []) ∷ p ∷ ps) c
    (λ _. refl) (λ _. refl) (λ _. refl) (λ _. refl) (λ _. refl) (λ _. refl) (λ _. refl) (λ _. refl) (λ _. refl) (λ _ _. refl)

-- a byte that no word is
pub pieces_mark : (b : ℕ) (bs : List ℕ) → is_word_byte b ≡ false → pieces (b ∷ bs) ≡ mark_of b ∷ pieces bs
pieces_mark b bs e = ap (λ (t : Bool). cond t (with_word_byte b (pieces bs)) (mark_of b ∷ pieces bs)) e

pieces_byte : (b : ℕ) (bs : List ℕ) → is_word_byte b ≡ true → pieces (b ∷ bs) ≡ with_word_byte b (pieces bs)
pieces_byte b bs e = ap (λ (t : Bool). cond t (with_word_byte b (pieces bs)) (mark_of b ∷ pieces bs)) e

word_alone : (b : ℕ) (rest : List ℕ) → begins_word rest ≡ false → with_word_byte b (pieces rest) ≡ Word (b ∷ []) ∷ pieces rest
word_alone b [] h = refl
word_alone b (c ∷ cs) h =
    let e = pieces_mark c cs h in
    ap (with_word_byte b) e ∙ mark_after b c (pieces cs) ∙ ap (λ (ps : List Piece). Word (b ∷ []) ∷ ps) (sym e)

-- a word that nothing makes longer is the first piece
pub pieces_word : (b : ℕ) (bs rest : List ℕ) → list_all is_word_byte (b ∷ bs) ≡ true → begins_word rest ≡ false → pieces (b ∷ bs ++ rest) ≡ Word (b ∷ bs) ∷ pieces rest
pieces_word b [] rest h k = pieces_byte b rest (and_parts _ _ h).0 ∙ word_alone b rest k
pieces_word b (c ∷ cs) rest h k =
    let p = and_parts _ _ h in
    pieces_byte b (c ∷ cs ++ rest) p.0 ∙ ap (with_word_byte b) (pieces_word c cs rest p.1 k)

-- ### one piece after the other

len_of_word : (b : ℕ) (bs : List ℕ) → is_word_byte b ≡ true → word_len (b ∷ bs) ≡ suc (word_len bs)
len_of_word b bs e = ap (λ (t : Bool). cond t (suc (word_len bs)) 0) e

len_of_mark : (b : ℕ) (bs : List ℕ) → is_word_byte b ≡ false → word_len (b ∷ bs) ≡ 0
len_of_mark b bs e = ap (λ (t : Bool). cond t (suc (word_len bs)) 0) e

-- the front of a text as a word, and what follows
Front : List ℕ → ℕ → Type 0
Front text n = (list_all is_word_byte (take n text) ≡ true) × (begins_word (drop n text) ≡ false) × (take n text ++ drop n text ≡ text)

front : (text : List ℕ) → Front text (word_len text)
unfolding Front
front [] = (refl, refl, refl)
front (b ∷ bs) = choose (λ n. Front (b ∷ bs) n) (is_word_byte b) _ _
    (λ e. let f = front bs in (and_from _ _ e f.0, f.1, ap (λ (t : List ℕ). b ∷ t) f.2))
    (λ e. (refl, e, refl))

pub first_word : (text : List ℕ) → 0 < word_len text → pieces text ≡ Word (take (word_len text) text) ∷ pieces (drop (word_len text) text)
unfolding Front
first_word [] h = absurd (omega arith)
first_word (b ∷ bs) h =
    let P : Bool → Type 0 = λ t. is_word_byte b ≡ t → pieces (b ∷ bs) ≡ Word (take (word_len (b ∷ bs)) (b ∷ bs)) ∷ pieces (drop (word_len (b ∷ bs)) (b ∷ bs)) in
    let at : (t : Bool) → P t = λ t. elim t as P [
      | true ↦ λ e.
          let f = front bs in
          let n : word_len (b ∷ bs) ≡ suc (word_len bs) = len_of_word b bs e in
          let Q : ℕ → Type 0 = λ m. pieces (b ∷ bs) ≡ Word (take m (b ∷ bs)) ∷ pieces (drop m (b ∷ bs)) in
          subst Q (sym n) (ap (λ (t : List ℕ). pieces (b ∷ t)) (sym f.2) ∙ pieces_word b (take (word_len bs) bs) (drop (word_len bs) bs) (and_from _ _ e f.0) f.1)
      | false ↦ λ e. absurd (omega (arith, len_of_mark b bs e))
    ] in
    at (is_word_byte b) refl

pub first_mark : (b : ℕ) (bs : List ℕ) → word_len (b ∷ bs) ≤ 0 → pieces (b ∷ bs) ≡ mark_of b ∷ pieces bs
first_mark b bs h =
    let P : Bool → Type 0 = λ t. is_word_byte b ≡ t → pieces (b ∷ bs) ≡ mark_of b ∷ pieces bs in
    let at : (t : Bool) → P t = λ t. elim t as P [
      | true ↦ λ e. absurd (omega (arith, len_of_word b bs e))
      | false ↦ λ e. pieces_mark b bs e
    ] in
    at (is_word_byte b) refl
