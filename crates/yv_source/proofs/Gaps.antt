-- The reader behind blanks and comments in a row.
use Rattle.std.proofs.Common.{◌≡◌, ℕ, zero, suc, get_or, ◌+◌, ◌-◌, ◌<◌, ◌≤◌, ◌==◌, true, List, [], ◌∷◌, length, take, drop, Option, Some, None, refl, sym, ◌∙◌, ap, subst, arith, length-append, length-drop, length-take}
use Rattle.std.specs.Prelude.{count_by}
use Rattle.std.specs.List.{list_all}
use Rattle.std.proofs.lemmas.List.{drop_more, drop-drop, take_rest}
use Rattle.yv_text_statement.specs.Tree.{Tree}
use Rattle.yv_source.specs.Pieces.{LineComment, BlockComment, slice, is_blank, Before, Apart, UnquotedWord, QuotedText, past_gap}
use Rattle.yv_source.specs.Place.{columns, column_past}
use Rattle.yv_source.specs.Inner.Place.{Place, place_at}
use Rattle.yv_source.specs.Inner.Machine.{Next}
use Rattle.yv_source.specs.Inner.Scan.{before_of, ahead_in}
use Rattle.yv_source.specs.Inner.Turn.{length_of, past_found, turn}
use Rattle.yv_source.specs.Inner.Pairs.{bad_found}
use Rattle.yv_source.specs.Inner.Gap.{IsComment, BeginsComment, IsGap, Empty, Blanks, Comment, IsPastGap}
use Rattle.yv_source.specs.declared.machine.Phase.{Phase}
use Rattle.yv_source.specs.declared.scan.Before.{Before as Left}
use Rattle.yv_source.specs.declared.scan.Before.TheVariants as left
use Rattle.yv_source.specs.declared.scan.Ahead.TheVariants as ahead
use Rattle.yv_source.specs.declared.scan.FoundPiece.{FoundPiece}
use Rattle.yv_source.specs.declared.scan.FoundPiece.TheVariants as found
use Rattle.yv_source.proofs.Keyword.{and_first, and_second}
use Rattle.yv_source.proofs.Meaning.{Means, MeansAhead, means}
use Rattle.yv_source.proofs.ReadProgress.{place_after, count-cons}
use Rattle.yv_source.proofs.Loop.{Reads, settled, read_on, read_to, bad_bound}

passed_none : (p : Place) → place_after p [] ≡ p
passed_none p = let a : p.at + 0 ≡ p.at = omega arith in let l : p.line + 0 ≡ p.line = omega arith in λ i. record { at = a i; line = l i; column = p.column }

passed_on : (p : Place) (x : ℕ) (ys : List ℕ) → place_after (place_after p (x ∷ [])) ys ≡ place_after p (x ∷ ys)
passed_on p x ys =
    let a : p.at + length (x ∷ []) + length ys ≡ p.at + length (x ∷ ys) = omega arith in
    let l : p.line + count_by (λ b. b == 10) (x ∷ []) + count_by (λ b. b == 10) ys ≡ p.line + count_by (λ b. b == 10) (x ∷ ys) =
    omega (arith, count-cons x ys, count-cons x [])
    in
    λ i. record { at = a i; line = l i; column = columns (column_past p.column x) ys }

blank_ahead : (before : Before) (x : ℕ) (rest : List ℕ) → is_blank x ≡ true → ahead.Piece found.Blank ≡ ahead_in before (x ∷ rest)
blank_ahead before x rest e = rw e refl

stays_apart : (left : Left) → (before_of left ≡ UnquotedWord → ⊥) → before_of left ≡ past_gap (before_of left)
stays_apart left.Apart n = refl
stays_apart left.Unquoted n = absurd (n refl)
stays_apart left.Quoted n = refl

blanks_read : (n : ℕ) {text bytes : List ℕ} {place : Place} {bad : Option ℕ} {left : Left} {stack : List Tree} {phase : Phase} → bytes ≡ text → Reads text place bad left stack phase → (before_of left ≡ UnquotedWord → ⊥) → n ≤ length (drop place.at bytes) → list_all is_blank (take n (drop place.at bytes)) ≡ true → Reads text (place_after place (take n (drop place.at bytes))) bad left stack phase
blanks_read zero {text} {bytes} {place} {bad} {left} {stack} {phase} same so_far apart le h =
    let P : Place → Type 0 = λ p. Reads text p bad left stack phase in
    subst P (sym (passed_none place)) so_far
blanks_read (suc n) {text} {bytes} {place} {bad} {left} {stack} {phase} same so_far apart le h =
    let x : ℕ = get_or bytes place.at 0 in
    let more : List ℕ = drop (place.at + 1) bytes in
    let lt : place.at < length bytes = omega (arith, le, length-drop place.at bytes) in
    let cut : drop place.at bytes ≡ x ∷ more = drop_more bytes place.at 0 lt in
    let H : List ℕ → Type 0 = λ l. (suc n ≤ length l) × (list_all is_blank (take (suc n) l) ≡ true) in
    let hs = subst H cut (le, h) in
    let here : is_blank x ≡ true = and_first (is_blank x) (list_all is_blank (take n more)) hs.1 in
    let others : list_all is_blank (take n more) ≡ true = and_second (is_blank x) (list_all is_blank (take n more)) hs.1 in
    let one = read_on same so_far (blank_ahead (before_of left) x more here ∙ ap (ahead_in (before_of left)) (sym cut)) refl
    (place_after place (x ∷ [])) bad left stack phase (ap (λ l. place_after place (take 1 l)) (sym cut)) refl (bad_bound same so_far) (stays_apart left apart) refl
    in
    let room : n ≤ length more = omega (arith, hs.0) in
    let all = blanks_read n same one apart room others in
    let P : Place → Type 0 = λ p. Reads text p bad left stack phase in
    subst P (passed_on place x (take n more) ∙ ap (λ l. place_after place (take (suc n) l)) (sym cut)) all

apart_not : Apart ≡ UnquotedWord → ⊥
apart_not h = cc

quoted_not : QuotedText ≡ UnquotedWord → ⊥
quoted_not h = cc

-- behind the blanks, where there may be more than one
gap_to : (left : Left) {text bytes : List ℕ} {at : ℕ} {bad : Option ℕ} {stack : List Tree} {phase : Phase} → bytes ≡ text → Reads text (place_at text at) bad left stack phase → (before_of left ≡ UnquotedWord → ⊥) → (n : ℕ) → n ≤ length (drop at bytes) → list_all is_blank (take n (drop at bytes)) ≡ true → Reads text (place_at text (at + n)) bad left stack phase
gap_to left {text} {bytes} {at} {bad} {stack} {phase} same so_far apart n le h =
    let e : at + length (take n (drop at bytes)) ≡ at + n = omega (arith, le, length-take n (drop at bytes)) in
    settled same (blanks_read n same so_far apart le h) (at + n) e

-- a comment is no token, and has no backslash pair that counts
quiet : (f : FoundPiece) → IsComment f → (before : Before) (bad : Option ℕ) (at : ℕ) (bytes text : List ℕ) (stack : List Tree) (phase : Phase) (place : Place) → (past_found before f ≡ past_gap before) × (bad_found bad at f bytes ≡ bad) × (turn text f stack phase place ≡ Next stack phase)
quiet found.Blank h before bad at bytes text stack phase place = absurd h
quiet (found.LineComment n) h before None at bytes text stack phase place = (refl, refl, refl)
quiet (found.LineComment n) h before (Some b) at bytes text stack phase place = (refl, refl, refl)
quiet (found.BlockComment n) h before None at bytes text stack phase place = (refl, refl, refl)
quiet (found.BlockComment n) h before (Some b) at bytes text stack phase place = (refl, refl, refl)
quiet (found.Word n) h before bad at bytes text stack phase place = absurd h
quiet (found.Single n) h before bad at bytes text stack phase place = absurd h
quiet (found.Double n) h before bad at bytes text stack phase place = absurd h
quiet found.Semicolon h before bad at bytes text stack phase place = absurd h
quiet found.Open h before bad at bytes text stack phase place = absurd h
quiet found.Close h before bad at bytes text stack phase place = absurd h
quiet found.Plus h before bad at bytes text stack phase place = absurd h

-- the reader at an offset, with all else as it is
abbrev At : List ℕ → Option ℕ → Left → List Tree → Phase → ℕ → Type 0
At text bad left stack phase n = Reads text (place_at text n) bad left stack phase

module _ (left : Left) {text bytes : List ℕ} (at : ℕ) {bad : Option ℕ} {stack : List Tree} {phase : Phase} (same : bytes ≡ text) (apart : before_of left ≡ UnquotedWord → ⊥) where
  past_blanks : (n k : ℕ) → At text bad left stack phase (at + n) → k ≤ length (drop n (drop at bytes)) → list_all is_blank (take k (drop n (drop at bytes))) ≡ true → At text bad left stack phase (at + (n + k))
  past_blanks n k here le h =
      let P : List ℕ → Type 0 = λ l. (k ≤ length l) × (list_all is_blank (take k l) ≡ true) in
      let there = subst P (drop-drop n at bytes) (le, h) in
      let e : at + n + k ≡ at + (n + k) = omega arith in
      subst (At text bad left stack phase) e (gap_to left same here apart k there.0 there.1)

  past_comment : (n : ℕ) (f : FoundPiece) → At text bad left stack phase (at + n) → BeginsComment (drop n (drop at bytes)) f → At text bad left stack phase (at + (n + length_of f))
  past_comment n f here c =
      let scanned : ahead.Piece f ≡ ahead_in (before_of left) (drop (at + n) bytes) = sym (c.found (before_of left)) ∙ ap (ahead_in (before_of left)) (drop-drop n at bytes) in
      let q = quiet f c.kind (before_of left) bad (at + n) bytes text stack phase (place_at text (at + n)) in
      let e : at + (n + length_of f) ≡ at + n + length_of f = omega arith in
      read_to same here scanned refl (at + (n + length_of f)) bad left stack phase e (sym q.1) (bad_bound same here) (stays_apart left apart ∙ sym q.0) q.2

  past_all : (n : ℕ) → At text bad left stack phase (at + 0) → IsGap (drop at bytes) n → At text bad left stack phase (at + n)
  past_all n here Empty = here
  past_all n here (Blanks m k g le h) = past_blanks m k (past_all m here g) le h
  past_all n here (Comment m f g c) = past_comment m f (past_all m here g) c

  past_gap_by : At text bad left stack phase at → (end n : ℕ) → IsGap (drop at bytes) n → end ≡ at + n → At text bad left stack phase end × (at ≤ end)
  past_gap_by here end n g e =
      let start : at ≡ at + 0 = omega arith in
      (subst (At text bad left stack phase) (sym e) (past_all n (subst (At text bad left stack phase) start here) g), omega (arith, e))

pub gap_read : (left : Left) {text bytes : List ℕ} {at : ℕ} {bad : Option ℕ} {stack : List Tree} {phase : Phase} → bytes ≡ text → Reads text (place_at text at) bad left stack phase → (end : ℕ) → IsPastGap (before_of left) at (drop at bytes) end → Reads text (place_at text end) bad left stack phase × (at ≤ end)
gap_read left.Unquoted {text} {bytes} {at} {bad} {stack} {phase} same so_far end e =
    let P : ℕ → Type 0 = λ k. Reads text (place_at text k) bad left.Unquoted stack phase in
    (subst P (sym e) so_far, omega (arith, e))
gap_read left.Apart same so_far end (n, g, e) = past_gap_by left.Apart _ same apart_not so_far end n g e
gap_read left.Quoted same so_far end (n, g, e) = past_gap_by left.Quoted _ same quoted_not so_far end n g e

-- a comment is within the text that it begins
fits : (before : Before) (text : List ℕ) (f : FoundPiece) → IsComment f → Means before text f → length_of f ≤ length text
fits before text found.Blank h m = absurd h
fits before text (found.LineComment n) h (t, e, b) = omega (arith, e, ap length b.is, length-append (slice (LineComment t)) b.more)
fits before text (found.BlockComment n) h (t, e, b) = omega (arith, e, ap length b.is, length-append (slice (BlockComment t)) b.more, length-append t (42 ∷ 47 ∷ []))
fits before text (found.Word n) h m = absurd h
fits before text (found.Single n) h m = absurd h
fits before text (found.Double n) h m = absurd h
fits before text found.Semicolon h m = absurd h
fits before text found.Open h m = absurd h
fits before text found.Close h m = absurd h
fits before text found.Plus h m = absurd h

pub comment_fits : (text : List ℕ) (f : FoundPiece) → BeginsComment text f → length_of f ≤ length text
comment_fits text f c =
    fits Apart text f c.kind (subst (MeansAhead Apart text) (c.found Apart) (means Apart text))

-- behind the next blanks, and the comment behind them
module _ (text : List ℕ) (at k : ℕ) (within : at ≤ length text) (g : IsGap text at) (few : k ≤ length (take (length text - at) (drop at text))) (blank : list_all is_blank (take k (take (length text - at) (drop at text))) ≡ true) where
  pub past_next_blanks : (at + k ≤ length text) × IsGap text (at + k)
  past_next_blanks =
      let P : List ℕ → Type 0 = λ l. (k ≤ length l) × (list_all is_blank (take k l) ≡ true) in
      let there = subst P (take_rest text at) (few, blank) in
      (omega (arith, within, there.0, length-drop at text), Blanks at k g there.0 there.1)

  pub past_next_comment : (f : FoundPiece) → BeginsComment (take (length text - (at + k)) (drop (at + k) text)) f → (at + k + length_of f ≤ length text) × IsGap text (at + k + length_of f)
  past_next_comment f c =
      let P : List ℕ → Type 0 = λ l. BeginsComment l f in
      let there = subst P (take_rest text (at + k)) c in
      let blanks = past_next_blanks in
      (omega (arith, blanks.0, comment_fits (drop (at + k) text) f there, length-drop (at + k) text), Comment (at + k) f blanks.1 there)
