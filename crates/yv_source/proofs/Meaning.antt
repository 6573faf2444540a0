-- What the scanner's answer means.
use Rattle.std.proofs.Common.{◌≡◌, ℕ, ◌<◌, ◌≤◌, Bool, true, false, ◌==◌, ◌&&◌, ◌||◌, List, [], ◌∷◌, ◌++◌, length, Some, None, refl, sym, ◌∙◌, ap, subst, inl, inr, ◌⊎◌, arith, length-append, nat_lt, lit<}
use Rattle.std.specs.Prelude.{IsUtf8, IsCharBoundary}
use Rattle.std.proofs.Math.Seq.{drop-append_seam, get_or-append_seam}
use Rattle.std.proofs.lemmas.Str.{IsUtf8-drop, IsCharBoundary-after_ascii, IsCharBoundary-before_ascii, IsCharBoundary-end}
use Rattle.std.proofs.lemmas.Bool.{cases_Bool, eqb-true}
use Rattle.yv_source.specs.Pieces.{Piece, Blank, LineComment, BlockComment, Word, Single, Double, Semicolon, Open, Close, Plus, slice, is_blank, begins, ends_word, Before, MayStand, IsUncut}
use Rattle.yv_source.specs.Inner.Scan.{First, first, ahead_of, ahead_in}
use Rattle.yv_source.specs.declared.scan.Ahead.{Ahead}
use Rattle.yv_source.specs.declared.scan.Ahead.TheVariants as ahead
use Rattle.yv_source.specs.declared.scan.FoundPiece.{FoundPiece}
use Rattle.yv_source.specs.declared.scan.FoundPiece.TheVariants as found
use Rattle.yv_source.proofs.Keyword.{false_true}
use Rattle.yv_source.proofs.FirstPiece.{may_begin, IsFirst, complete, untests}
use Rattle.yv_source.proofs.Until.{not_equal}
use Rattle.yv_source.proofs.Accepts.{append_nil}

pub cons_empty : (b : ℕ) (rest : List ℕ) → b ∷ rest ≡ [] → ⊥
cons_empty b rest e = cc

-- A piece that may stand first, with what is left.
pub record Begins (before : Before) (text : List ℕ) (p : Piece) : Type 0 where
  pub more : List ℕ
  pub is : text ≡ slice p ++ more
  pub may : MayStand before p more

-- what was found stands first
abbrev pub Means : Before → List ℕ → FoundPiece → Type 0
Means before text found.Blank = (b : ℕ) × Begins before text (Blank b)
Means before text (found.LineComment n) = (t : List ℕ) × (n ≡ length t) × Begins before text (LineComment t)
Means before text (found.BlockComment n) = (t : List ℕ) × (n ≡ length t) × Begins before text (BlockComment t)
Means before text (found.Word n) = (t : List ℕ) × (n ≡ length t) × Begins before text (Word t)
Means before text (found.Single n) = (t : List ℕ) × (n ≡ length t) × Begins before text (Single t)
Means before text (found.Double n) = (t : List ℕ) × (n ≡ length t) × Begins before text (Double t)
Means before text found.Semicolon = Begins before text Semicolon
Means before text found.Open = Begins before text Open
Means before text found.Close = Begins before text Close
Means before text found.Plus = Begins before text Plus

-- what the scanner's answer means
abbrev pub MeansAhead : Before → List ℕ → Ahead → Type 0
MeansAhead before text ahead.End = text ≡ []
MeansAhead before text ahead.Nothing = IsUncut before text
MeansAhead before text (ahead.Piece f) = Means before text f

begins_by : (before : Before) (text : List ℕ) (p : Piece) (more : List ℕ) → first before text ≡ Some (p, more) → Begins before text p
begins_by before text p more e =
    let P : First → Type 0 = IsFirst before text in
    let m = subst P e (may_begin before text) in
    record { more = more; is = m.0; may = m.1 }

none_some : (x : Piece × List ℕ) → None ≡ Some x → ⊥
none_some x e = cc

uncut : (before : Before) (b : ℕ) (rest : List ℕ) → first before (b ∷ rest) ≡ None → IsUncut before (b ∷ rest)
uncut before b rest e = (λ n. cons_empty b rest n, λ p m. none_some (p, m.0) (sym e ∙ ap (first before) m.1 ∙ complete before p m.0 m.2))

shows : (before : Before) (b : ℕ) (rest : List ℕ) (f : First) → first before (b ∷ rest) ≡ f → MeansAhead before (b ∷ rest) (ahead_of f)
shows before b rest None e = uncut before b rest e
shows before b rest (Some (Blank x, more)) e = (x, begins_by before (b ∷ rest) (Blank x) more e)
shows before b rest (Some (LineComment t, more)) e = (t, refl, begins_by before (b ∷ rest) (LineComment t) more e)
shows before b rest (Some (BlockComment t, more)) e = (t, refl, begins_by before (b ∷ rest) (BlockComment t) more e)
shows before b rest (Some (Word t, more)) e = (t, refl, begins_by before (b ∷ rest) (Word t) more e)
shows before b rest (Some (Single t, more)) e = (t, refl, begins_by before (b ∷ rest) (Single t) more e)
shows before b rest (Some (Double t, more)) e = (t, refl, begins_by before (b ∷ rest) (Double t) more e)
shows before b rest (Some (Semicolon, more)) e = begins_by before (b ∷ rest) Semicolon more e
shows before b rest (Some (Open, more)) e = begins_by before (b ∷ rest) Open more e
shows before b rest (Some (Close, more)) e = begins_by before (b ∷ rest) Close more e
shows before b rest (Some (Plus, more)) e = begins_by before (b ∷ rest) Plus more e

pub means : (before : Before) (text : List ℕ) → MeansAhead before text (ahead_in before text)
means before [] = refl
means before (b ∷ rest) = shows before b rest (first before (b ∷ rest)) refl

-- where a text may be cut: behind what ends it stands an ASCII byte, or nothing
abbrev pub AsciiHead : List ℕ → Type 0
AsciiHead [] = Unit {0}
AsciiHead (b ∷ more) = b < 128

pub seam : (t more : List ℕ) → AsciiHead more → IsUtf8 (t ++ more) → IsCharBoundary (t ++ more) (length t)
seam t [] h u =
    let P : List ℕ → Type 0 = λ l. IsCharBoundary l (length t) in
    subst P (sym (append_nil t)) (IsCharBoundary-end t)
seam t (b ∷ more) h u =
    IsCharBoundary-before_ascii (t ++ b ∷ more) (length t) (omega (arith, length-append t (b ∷ more))) (omega (arith, h, get_or-append_seam t b more 0))

pub seam_utf8 : (t more : List ℕ) → AsciiHead more → IsUtf8 (t ++ more) → IsUtf8 more
seam_utf8 t more h u =
    let P : List ℕ → Type 0 = λ l. IsUtf8 l in
    subst P (drop-append_seam t more) (IsUtf8-drop (t ++ more) (length t) u (seam t more h u))

pub tail_utf8 : (b : ℕ) (rest : List ℕ) → b < 128 → IsUtf8 (b ∷ rest) → IsUtf8 rest
tail_utf8 b rest h u = IsUtf8-drop (b ∷ rest) 1 u (IsCharBoundary-after_ascii (b ∷ rest) 0 u (omega arith) h)

pub is_ascii : (b k : ℕ) → k < 128 → (b == k) ≡ true → b < 128
is_ascii b k h e = let i = eqb-true b k e in omega (arith, h, i)

large : (b k : ℕ) → k < 128 → 128 ≤ b → (b == k) ≡ false
large b k h l = not_equal b k (λ e. omega (arith, e, h, l))

or_both : (x y : Bool) → x ≡ false → y ≡ false → (x || y) ≡ false
or_both x y h k = ap (λ v. v || y) h ∙ k

and_none : (x y : Bool) → x ≡ false → (x && y) ≡ false
and_none x y h = ap (λ v. v && y) h

large_blank : (b : ℕ) → 128 ≤ b → is_blank b ≡ false
large_blank b l =
    or_both (b == 32 || b == 9 || b == 13) (b == 10)
    (or_both (b == 32 || b == 9) (b == 13) (or_both (b == 32) (b == 9) (large b 32 (lit< tt) l) (large b 9 (lit< tt) l)) (large b 13 (lit< tt) l)) (large b 10 (lit< tt) l)

small_or_large : (b : ℕ) → (b < 128) ⊎ (128 ≤ b)
small_or_large b = elim (cases_Bool (nat_lt b 128)) [ inl e ↦ inl (grind arith) | inr e ↦ inr (grind arith) ]

pub blank_ascii : (b : ℕ) → is_blank b ≡ true → b < 128
blank_ascii b e = elim (small_or_large b) [ inl h ↦ h | inr l ↦ absurd (false_true (sym (large_blank b l) ∙ e)) ]

pub word_head : (more : List ℕ) → (more ≡ []) ⊎ (ends_word more ≡ true) → AsciiHead more
word_head [] h = tt
word_head (b ∷ more) (inl e) = absurd (cons_empty b more e)
word_head (b ∷ more) (inr e) =
    elim (small_or_large b) [
      | inl h ↦ h
      | inr l ↦ absurd (false_true (sym (untests b more (record {
        blank = large_blank b l;
        double = large b 34 (lit< tt) l;
        single = large b 39 (lit< tt) l;
        semicolon = large b 59 (lit< tt) l;
        opening = large b 123 (lit< tt) l;
        closing = large b 125 (lit< tt) l;
        line = and_none (b == 47) (begins 47 more) (large b 47 (lit< tt) l);
        block = and_none (b == 47) (begins 42 more) (large b 47 (lit< tt) l);
        end = and_none (b == 42) (begins 47 more) (large b 42 (lit< tt) l);
      })) ∙ e))
    ]
