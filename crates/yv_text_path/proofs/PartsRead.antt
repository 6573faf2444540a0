-- What reading a part of a text leads to.
use Rattle.std.proofs.Common.{◌≡◌, ℕ, Bool, true, false, List, [], ◌∷◌, ◌++◌, append_assoc, sym, ◌∙◌, ap, subst, refl}
use Rattle.std.specs.Prelude.{if◌then◌else◌}
use Rattle.std.specs.List.{list_all}
use Rattle.std.proofs.lemmas.Bool.{false≢true}
use Rattle.yv_text_if_feature.specs.Bytes.{is_blank}
use Rattle.yv_text_if_feature.specs.Names.{is_name}
use Rattle.yv_text_path.specs.Pieces.{Word, Blank, is_word_byte, mark_of, pieces}
use Rattle.yv_text_path.specs.SpacedTokens.{AreSpaced}
use Rattle.yv_text_path.specs.SpacedTokens as spaced
use Rattle.yv_text_path.specs.InnerStates.{after, after_word, after_blank, completes, is_after_inner_name, names_at, names_among}
use Rattle.yv_text_path.specs.declared.state.State.{State}
use Rattle.yv_text_path.proofs.Choices.{mark_cases}
use Rattle.yv_text_path.proofs.Cuts.{begins_word, pieces_mark, pieces_word}
use Rattle.yv_text_path.proofs.WordNames.{name_bytes, no_name, blank_ends}

-- reading a text from a state leads to another state and the rest of the text, with these names on the way
pub record Leads (q : State) (text : List ℕ) (r : State) (rest : List ℕ) (ns : List (List ℕ)) : Type 0 where
  pub ends : completes q (pieces text) ≡ completes r (pieces rest)
  pub names : names_among q (pieces text) ≡ ns ++ names_among r (pieces rest)

pub then_leads : {q r s : State} {text rest more : List ℕ} {ns ms : List (List ℕ)} → Leads q text r rest ns → Leads r rest s more ms → Leads q text s more (ns ++ ms)
then_leads {q} {r} {s} {text} {rest} {more} {ns} {ms} a b = record {
  ends = a.ends ∙ b.ends;
  names = a.names ∙ ap (λ (xs : List (List ℕ)). ns ++ xs) b.names ∙ sym (append_assoc ns ms (names_among s (pieces more)));
}

-- the same, of equal texts
pub same_text : {q r : State} {text other rest : List ℕ} {ns : List (List ℕ)} → text ≡ other → Leads q other r rest ns → Leads q text r rest ns
same_text {q} {r} {text} {other} {rest} {ns} e a = let P : List ℕ → Type 0 = λ t. Leads q t r rest ns in subst P (sym e) a

-- some bytes, each of a word
pub data IsWord : List ℕ → Type 0 where
  bytes : {b : ℕ} {bs : List ℕ} → list_all is_word_byte (b ∷ bs) ≡ true → IsWord (b ∷ bs)

pub name_is_word : (w : List ℕ) → is_name w ≡ true → IsWord w
name_is_word [] h = absurd (false≢true (no_name h))
name_is_word (b ∷ bs) h = bytes (name_bytes (b ∷ bs) h)

pub word_leads : (q : State) {w : List ℕ} (rest : List ℕ) → IsWord w → begins_word rest ≡ false → Leads q (w ++ rest) (after_word q w) rest (names_at q (Word w))
word_leads q rest (bytes {b} {bs} h) k =
    let e = pieces_word b bs rest h k in
    record { ends = ap (completes q) e; names = ap (names_among q) e }

no_names_at : (q : State) (b : ℕ) → names_at q (mark_of b) ≡ []
no_names_at q b = mark_cases (λ p. names_at q p ≡ []) b (λ _. refl) (λ _. refl) (λ _. refl) (λ _. refl) (λ _. refl) (λ _. refl) (λ _. refl) (λ _. refl) (λ _. refl) (λ _ _. refl)

pub mark_leads : (q : State) (b : ℕ) (rest : List ℕ) → is_word_byte b ≡ false → Leads q (b ∷ rest) (after q (mark_of b)) rest []
mark_leads q b rest h =
    let e = pieces_mark b rest h in
    record {
      ends = ap (completes q) e;
      names = ap (names_among q) e ∙ ap (λ (ns : List (List ℕ)). ns ++ names_among (after q (mark_of b)) (pieces rest)) (no_names_at q b);
    }

chosen : {A : Type 0} (t : Bool) (x y : A) → t ≡ true → (if t then x else y) ≡ x
chosen true x y h = refl
chosen false x y h = absurd (false≢true h)

blank_leads : (q : State) (b : ℕ) (rest : List ℕ) → after_blank q ≡ q → is_blank b ≡ true → Leads q (b ∷ rest) q rest []
blank_leads q b rest keeps h =
    let is : mark_of b ≡ Blank = chosen (is_blank b) Blank _ h in
    let next : after q (mark_of b) ≡ q = ap (after q) is ∙ keeps in
    let P : State → Type 0 = λ r. Leads q (b ∷ rest) r rest [] in
    subst P next (mark_leads q b rest (blank_ends b h))

-- a word of which the next state is known
pub word_to : (q r : State) (t : Bool) {w : List ℕ} (rest : List ℕ) → IsWord w → after_word q w ≡ r → is_after_inner_name r ≡ t → begins_word rest ≡ false → Leads q (w ++ rest) r rest (if t then w ∷ [] else [])
word_to q r t {w} rest is e f k =
    let P : State → Type 0 = λ s. Leads q (w ++ rest) s rest (if is_after_inner_name s then w ∷ [] else []) in
    let Q : Bool → Type 0 = λ u. Leads q (w ++ rest) r rest (if u then w ∷ [] else []) in
    subst Q f (subst P e (word_leads q rest is k))

-- ### tokens with blanks

pub spaced_word : (q r : State) (t : Bool) {w text : List ℕ} {ts : List (List ℕ)} (tail : List ℕ) → after_blank q ≡ q → IsWord w → after_word q w ≡ r → is_after_inner_name r ≡ t
    → AreSpaced (w ∷ ts) text → ((rest : List ℕ) → AreSpaced ts rest → begins_word (rest ++ tail) ≡ false)
    → (rest : List ℕ) × AreSpaced ts rest × Leads q (text ++ tail) r (rest ++ tail) (if t then w ∷ [] else [])
spaced_word q r t tail keeps is e f (spaced.blank {tokens} {b} {text} h s) stops =
    let m = spaced_word q r t tail keeps is e f s stops in
    (m.0, m.1, then_leads (blank_leads q b (text ++ tail) keeps h) m.2)
spaced_word q r t tail keeps is e f (spaced.token {tokens} {first} {rest} {text} s same) stops =
    (rest, s, same_text (ap (λ (x : List ℕ). x ++ tail) same ∙ append_assoc first rest tail) (word_to q r t (rest ++ tail) is e f (stops rest s)))

pub spaced_mark : (q : State) (d : ℕ) {text : List ℕ} {ts : List (List ℕ)} (tail : List ℕ) → after_blank q ≡ q → is_word_byte d ≡ false
    → AreSpaced ((d ∷ []) ∷ ts) text → (rest : List ℕ) × AreSpaced ts rest × Leads q (text ++ tail) (after q (mark_of d)) (rest ++ tail) []
spaced_mark q d tail keeps is (spaced.blank {tokens} {b} {text} h s) =
    let m = spaced_mark q d tail keeps is s in
    (m.0, m.1, then_leads (blank_leads q b (text ++ tail) keeps h) m.2)
spaced_mark q d tail keeps is (spaced.token {tokens} {first} {rest} {text} s same) =
    (rest, s, same_text (ap (λ (x : List ℕ). x ++ tail) same) (mark_leads q d (rest ++ tail) is))

pub spaced_end : (q : State) {text : List ℕ} (tail : List ℕ) → after_blank q ≡ q → AreSpaced [] text → Leads q (text ++ tail) q tail []
spaced_end q tail keeps spaced.nothing = record { ends = refl; names = refl }
spaced_end q tail keeps (spaced.blank {tokens} {b} {text} h s) = then_leads (blank_leads q b (text ++ tail) keeps h) (spaced_end q tail keeps s)

-- the first of these tokens, if any, is a single byte that no word has
pub data Plain : List (List ℕ) → Type 0 where
  none : Plain []
  mark : {d : ℕ} {ts : List (List ℕ)} → is_word_byte d ≡ false → Plain ((d ∷ []) ∷ ts)

-- such tokens end the word before them
pub stops : {ts : List (List ℕ)} {text : List ℕ} (tail : List ℕ) → begins_word tail ≡ false → Plain ts → AreSpaced ts text → begins_word (text ++ tail) ≡ false
stops tail h p (spaced.blank {tokens} {b} {text} e s) = blank_ends b e
stops tail h p spaced.nothing = h
stops tail h (mark {d} is) (spaced.token {tokens} {first} {rest} {text} s same) = ap (λ (x : List ℕ). begins_word (x ++ tail)) same ∙ is
