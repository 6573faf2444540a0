-- What reading a part of a text leads to.
use Rattle.std.proofs.Common.{◌≡◌, ℕ, Bool, true, false, List, [], ◌∷◌, ◌++◌, append_assoc, sym, ◌∙◌, ap, subst, refl}
use Rattle.std.specs.Prelude.{if◌then◌else◌}
use Rattle.std.proofs.lemmas.Bool.{false≢true}
use Rattle.yv_text_if_feature.specs.Bytes.{is_blank}
use Rattle.yv_text_path.specs.Pieces.{Word, Blank, is_word_byte, mark_of, pieces}
use Rattle.yv_text_path.specs.SpacedTokens.{AreSpaced}
use Rattle.yv_text_path.specs.SpacedTokens as spaced
use Rattle.yv_text_path.proofs.Cuts.{begins_word, pieces_mark, pieces_word}
use Rattle.yv_text_path.proofs.PartsRead.{IsWord}
use Rattle.yv_text_path.proofs.PartsRead as leading
use Rattle.yv_text_path.proofs.WordNames.{blank_ends}
use Rattle.yv_text_instance.specs.Predicates.{IsQuoted, single, double}
use Rattle.yv_text_instance.specs.InnerStates.{after, completes}
use Rattle.yv_text_instance.specs.declared.state.State.{State}
use Rattle.yv_text_instance.specs.declared.state.State.TheVariants.{Value, Closing}
use Rattle.yv_text_instance.proofs.Quotes.{single_read, double_read}

-- reading a text from a state leads to another state and the rest of the text
pub record Leads (q : State) (text : List ℕ) (r : State) (rest : List ℕ) : Type 0 where
  pub ends : completes q (pieces text) ≡ completes r (pieces rest)

pub then_leads : {q r s : State} {text rest more : List ℕ} → Leads q text r rest → Leads r rest s more → Leads q text s more
then_leads a b = record { ends = a.ends ∙ b.ends }

-- the same, of equal texts
pub same_text : {q r : State} {text other rest : List ℕ} → text ≡ other → Leads q other r rest → Leads q text r rest
same_text {q} {r} {text} {other} {rest} e a = let P : List ℕ → Type 0 = λ t. Leads q t r rest in subst P (sym e) a

-- a word of which the next state is known
pub word_to : (q r : State) {w : List ℕ} (rest : List ℕ) → IsWord w → after q (Word w) ≡ r → begins_word rest ≡ false → Leads q (w ++ rest) r rest
word_to q r rest (leading.bytes {b} {bs} h) e k =
    record { ends = ap (completes q) (pieces_word b bs rest h k) ∙ ap (λ (s : State). completes s (pieces rest)) e }

pub mark_leads : (q : State) (b : ℕ) (rest : List ℕ) → is_word_byte b ≡ false → Leads q (b ∷ rest) (after q (mark_of b)) rest
mark_leads q b rest h = record { ends = ap (completes q) (pieces_mark b rest h) }

chosen : {A : Type 0} (t : Bool) (x y : A) → t ≡ true → (if t then x else y) ≡ x
chosen true x y h = refl
chosen false x y h = absurd (false≢true h)

blank_leads : (q : State) (b : ℕ) (rest : List ℕ) → after q Blank ≡ q → is_blank b ≡ true → Leads q (b ∷ rest) q rest
blank_leads q b rest keeps h =
    let is : mark_of b ≡ Blank = chosen (is_blank b) Blank _ h in
    let next : after q (mark_of b) ≡ q = ap (after q) is ∙ keeps in
    let P : State → Type 0 = λ r. Leads q (b ∷ rest) r rest in
    subst P next (mark_leads q b rest (blank_ends b h))

pub quoted_leads : {w : List ℕ} (rest : List ℕ) → IsQuoted w → Leads Value (w ++ rest) Closing rest
quoted_leads rest (single inside lacks) = record { ends = ap (λ (x : List ℕ). completes Value (pieces (39 ∷ x))) (append_assoc inside (39 ∷ []) rest) ∙ single_read inside rest lacks }
quoted_leads rest (double inside lacks) = record { ends = ap (λ (x : List ℕ). completes Value (pieces (34 ∷ x))) (append_assoc inside (34 ∷ []) rest) ∙ double_read inside rest lacks }

-- ### tokens with blanks

pub spaced_to : (q r : State) {w text : List ℕ} {ts : List (List ℕ)} (tail : List ℕ) → after q Blank ≡ q
    → ((rest : List ℕ) → AreSpaced ts rest → Leads q (w ++ (rest ++ tail)) r (rest ++ tail))
    → AreSpaced (w ∷ ts) text → (rest : List ℕ) × AreSpaced ts rest × Leads q (text ++ tail) r (rest ++ tail)
spaced_to q r tail keeps leads (spaced.blank {tokens} {b} {text} h s) =
    let m = spaced_to q r tail keeps leads s in
    (m.0, m.1, then_leads (blank_leads q b (text ++ tail) keeps h) m.2)
spaced_to q r tail keeps leads (spaced.token {tokens} {first} {rest} {text} s same) =
    (rest, s, same_text (ap (λ (x : List ℕ). x ++ tail) same ∙ append_assoc first rest tail) (leads rest s))

pub spaced_end : (q : State) {text : List ℕ} (tail : List ℕ) → after q Blank ≡ q → AreSpaced [] text → Leads q (text ++ tail) q tail
spaced_end q tail keeps spaced.nothing = record { ends = refl }
spaced_end q tail keeps (spaced.blank {tokens} {b} {text} h s) = then_leads (blank_leads q b (text ++ tail) keeps h) (spaced_end q tail keeps s)
