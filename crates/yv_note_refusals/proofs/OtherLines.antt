-- Lines behind others, and what they have in common.
use Rattle.std.proofs.Common.{◌≡◌, ℕ, suc, ◌==◌, ◌+◌, ◌≤◌, ◌<◌, Bool, true, false, List, [], ◌∷◌, ◌++◌, Option, Some, None, IfSome, length, map, take, refl, sym, ap, ◌∙◌, append_assoc, arith, codes, decimal, string_bytes, subst}
use Rattle.std.specs.Prelude.{count_by}
use Rattle.std.specs.List.{AllZip}
use Rattle.std.proofs.lemmas.Bool.{both_ways}
use Rattle.std.proofs.lemmas.Grind.{common_steps}
use Rattle.std.proofs.lemmas.List.{length-append}
use Rattle.std.proofs.lemmas.List.Sums.{sum_by-append}
use mathlib.Core.Bool.{cond}
use Rattle.yv_text_statement.specs.Order.{IsLeast}
use Rattle.yv_text_statement.specs.Tree.{Tree}
use Rattle.yv_text_statement.specs.declared.refusal.Refusal.{Refusal}
use Rattle.yv_text_grammar.specs.Refusals.{Bad}
use Rattle.yv_text_grammar.specs.declared.xpath.Xpath.TheVariants.{Refuse}
use Rattle.yv_base_positions.specs.Column.{is_line_feed}
use Rattle.yv_base_streams.specs.Files.{File}
use Rattle.yv_source.specs.FileStatements.{IsRead}
use Rattle.yv_note_text.specs.Clear.{is_clear, is_visible, visible_byte}
use Rattle.yv_note_text.proofs.ClearTexts.{both_clear, bytes_clear}
use Rattle.yv_note_lines.specs.Lines.{cleared_line, join_texts, visible_text}
use Rattle.yv_note_lines.proofs.ClearLines.{joined_more, line_clear}
use Rattle.yv_note_refusals.specs.InnerLines.{HoldsLines}
use Rattle.yv_note_refusals.specs.OtherRefusals.{AreOtherLines, IsLineOn, IsOtherLine, IsRefusedAlone, LinesOn, front_text, on_next, on_none, past, unfit}
use Rattle.yv_note_refusals.specs.declared.other_files.OtherLines.{OtherLines}

-- ### one file more

on_last : {phase : ℕ} {fs : List File} {lines : List (List ℕ)} (f : File) (line : List ℕ) → LinesOn phase fs lines → IsOtherLine phase f line → LinesOn phase (fs ++ f ∷ []) (lines ++ line ∷ [])
on_last f line on_none is = on_next is on_none
on_last f line (on_next told on) is = on_next told (on_last f line on is)
on_last f line (past on) is = past (on_last f line on is)

past_last : {phase : ℕ} {fs : List File} {lines : List (List ℕ)} (f : File) → LinesOn phase fs lines → LinesOn phase (fs ++ f ∷ []) lines
past_last f on_none = past on_none
past_last f (on_next told on) = on_next told (past_last f on)
past_last f (past on) = past (past_last f on)

more_length : (lines : List (List ℕ)) (line : List ℕ) (n : ℕ) → n ≡ length lines → n + 1 ≡ length (lines ++ line ∷ [])
more_length lines line n e = omega (arith, length-append lines (line ∷ []), e)

-- a file that has no line
pub no_line : (phase : ℕ) (fs : List File) (f : File) (o : OtherLines) → HoldsLines phase fs o → HoldsLines phase (fs ++ f ∷ []) o
no_line phase fs f o h = record {
  are = record { lines = h.are.lines; on = past_last f h.are.on; few = h.are.few; is = h.are.is };
  count = h.count;
}

-- a file that has a line, where they are fewer than 20
pub one_line : (phase : ℕ) (fs : List File) (f : File) (o new : OtherLines) (line : List ℕ) → HoldsLines phase fs o → o.count < 20 → IsOtherLine phase f line → string_bytes new.text ≡ string_bytes o.text ++ line → new.count ≡ o.count + 1
    → HoldsLines phase (fs ++ f ∷ []) new
one_line phase fs f o new line h few is e n =
    let longer : o.count + 1 ≡ length (h.are.lines ++ line ∷ []) = more_length h.are.lines line o.count h.count in
    record {
      are = record {
        lines = h.are.lines ++ line ∷ [];
        on = on_last f line h.are.on is;
        few = omega (arith, longer, few);
        is = e ∙ ap (λ (t : List ℕ). t ++ line) h.are.is ∙ sym (joined_more h.are.lines line);
      };
      count = n ∙ longer;
    }

-- no lines on no files
pub no_files : (phase : ℕ) (o : OtherLines) → string_bytes o.text ≡ [] → o.count ≡ 0 → HoldsLines phase [] o
no_files phase o e n = record {
  are = record { lines = []; on = on_none; few = omega arith; is = e };
  count = n;
}

past_all : (phase : ℕ) (fs : List File) → LinesOn phase fs []
past_all phase [] = on_none
past_all phase (f ∷ fs) = past (past_all phase fs)

-- no lines on any files
pub no_lines : (phase : ℕ) (fs : List File) (text : List ℕ) → text ≡ [] → AreOtherLines phase fs text
no_lines phase fs text e = record { lines = []; on = past_all phase fs; few = omega arith; is = e }

-- ### what lines have in common

other_clear : (phase : ℕ) (f : File) (line : List ℕ) → IsOtherLine phase f line → is_clear line ≡ true
other_clear phase f line is =
    ap is_clear is.told.is ∙ both_clear (visible_text (front_text f is.refusal)) (cleared_line is.told.sentence) (bytes_clear (front_text f is.refusal)) (line_clear is.told.sentence)

next_clear : {phase : ℕ} {f : File} {line : List ℕ} {fs : List File} {lines : List (List ℕ)} → IsOtherLine phase f line → LinesOn phase fs lines → is_clear (join_texts lines) ≡ true → is_clear (line ++ join_texts lines) ≡ true
next_clear {phase = phase} {f = f} {line = line} {lines = lines} told on others = both_clear line (join_texts lines) (other_clear phase f line told) others

lines_clear : {phase : ℕ} {fs : List File} {lines : List (List ℕ)} → LinesOn phase fs lines → is_clear (join_texts lines) ≡ true
lines_clear on_none = refl
lines_clear (on_next told on) = next_clear told on (lines_clear on)
lines_clear (past on) = lines_clear on

-- lines have nothing that drives a terminal
pub others_clear : (phase : ℕ) (fs : List File) (text : List ℕ) → AreOtherLines phase fs text → is_clear text ≡ true
others_clear phase fs text are = ap is_clear are.is ∙ lines_clear are.on

abbrev feeds : List ℕ → ℕ
feeds text = count_by is_line_feed text

feeds_both : (xs ys : List ℕ) → feeds (xs ++ ys) ≡ feeds xs + feeds ys
feeds_both xs ys = sum_by-append (λ (x : ℕ). cond (is_line_feed x) 1 0) xs ys

ten : (b : ℕ) → (b == 10) ≡ true → b ≡ 10
ten b h = grind (arith, common_steps)

visible_is_no_feed : (b : ℕ) → is_line_feed (visible_byte b) ≡ false
visible_is_no_feed b = cases (is_visible b) refl (b == 10) refl
  where
    cases : (v : Bool) → is_visible b ≡ v → (w : Bool) → (b == 10) ≡ w → is_line_feed (visible_byte b) ≡ false
    cases false e w f = let same : visible_byte b ≡ 46 = rw e refl in rw same refl
    cases true e false f = let same : visible_byte b ≡ b = rw e refl in rw same f
    cases true e true f =
        let hidden : is_visible b ≡ false = ap is_visible (ten b f) in
        absurd (both_ways (is_visible b) hidden e)

one_no_feed : (b : ℕ) → is_line_feed b ≡ false → feeds (b ∷ []) ≡ 0
one_no_feed b e = ap (λ (v : Bool). 0 + cond v 1 0) e

none_of_both : (m n : ℕ) → m ≡ 0 → n ≡ 0 → m + n ≡ 0
none_of_both m n e f = omega (arith, e, f)

no_feeds : (xs : List ℕ) → feeds (visible_text xs) ≡ 0
no_feeds [] = refl
no_feeds (b ∷ xs) =
    feeds_both (visible_byte b ∷ []) (visible_text xs)
    ∙ none_of_both (feeds (visible_byte b ∷ [])) (feeds (visible_text xs)) (one_no_feed (visible_byte b) (visible_is_no_feed b)) (no_feeds xs)

one_of_three : (m n k : ℕ) → m ≡ 0 → n ≡ 0 → k ≡ 1 → m + (n + k) ≡ 1
one_of_three m n k e f g = omega (arith, e, f, g)

line_feeds : (phase : ℕ) (f : File) (line : List ℕ) → IsOtherLine phase f line → feeds line ≡ 1
line_feeds phase f line is =
    let front : List ℕ = visible_text (front_text f is.refusal) in
    let shown : List ℕ = visible_text (take 1400 is.told.sentence) in
    ap feeds is.told.is ∙ feeds_both front (shown ++ 10 ∷ []) ∙ ap (λ (n : ℕ). feeds front + n) (feeds_both shown (10 ∷ []))
    ∙ one_of_three (feeds front) (feeds shown) (feeds (10 ∷ [])) (no_feeds (front_text f is.refusal)) (no_feeds (take 1400 is.told.sentence)) refl

feeds_more : (l ls : List ℕ) (n : ℕ) → feeds l ≡ 1 → feeds ls ≡ n → feeds (l ++ ls) ≡ suc n
feeds_more l ls n e f = omega (arith, feeds_both l ls, e, f)

next_feeds : {phase : ℕ} {f : File} {line : List ℕ} {fs : List File} {lines : List (List ℕ)} → IsOtherLine phase f line → LinesOn phase fs lines → feeds (join_texts lines) ≡ length lines → feeds (line ++ join_texts lines) ≡ suc (length lines)
next_feeds {phase = phase} {f = f} {line = line} {lines = lines} told on others = feeds_more line (join_texts lines) (length lines) (line_feeds phase f line told) others

all_feeds : {phase : ℕ} {fs : List File} {lines : List (List ℕ)} → LinesOn phase fs lines → feeds (join_texts lines) ≡ length lines
all_feeds on_none = refl
all_feeds (on_next told on) = next_feeds told on (all_feeds on)
all_feeds (past on) = all_feeds on

-- at most 20 line feeds
pub others_short : (phase : ℕ) (fs : List File) (text : List ℕ) → AreOtherLines phase fs text → count_by is_line_feed text ≤ 20
others_short phase fs text are =
    let all : count_by is_line_feed text ≡ length are.lines = ap feeds are.is ∙ all_feeds are.on in
    omega (arith, all, are.few)

-- ### one file

unfit_alone : (f : File) (ts roots : List Tree) (r : Refusal) → AllZip IsRead (f ∷ []) ts → roots ≡ ts → (root : Tree) × (others : List Tree) × (roots ≡ root ∷ others) × IsLeast (Bad Refuse root) (Some r) → IsRefusedAlone f r
unfit_alone f ts roots r each same (root, others, e, least) =
    let read = subst (λ (xs : List Tree). AllZip IsRead (f ∷ []) xs) (sym same ∙ e) each in
    unfit root read.0 least

-- the only statement of a file, where it is not as the tables say
pub unfit_if : (f : File) (ts roots : List Tree) (found : Option Refusal) → AllZip IsRead (f ∷ []) ts → roots ≡ ts → IfSome found (λ r. (root : Tree) × (others : List Tree) × (roots ≡ root ∷ others) × IsLeast (Bad Refuse root) (Some r))
    → IfSome found (IsRefusedAlone f)
unfit_if f ts roots None each same is = tt
unfit_if f ts roots (Some r) each same is = unfit_alone f ts roots r each same is

-- the front of a line, by its parts
pub front_same : (name name_too code code_too : List ℕ) (line column column_too : ℕ) → name ≡ name_too → column ≡ column_too → code ≡ code_too
    → (name ++ (codes ":" ++ (decimal line ++ (codes ":" ++ (decimal column ++ (codes ": " ++ (code ++ codes ": ")))))))
    ≡ (name_too ++ (codes ":" ++ (decimal line ++ (codes ":" ++ (decimal column_too ++ (codes ": " ++ (code_too ++ codes ": ")))))))
front_same name name_too code code_too line column column_too e f g = rw (e, f, g) refl

-- a line to which its parts were added one by one
pub line_joined : (start front said one two : List ℕ) → start ≡ [] → one ≡ start ++ front → two ≡ one ++ said → two ≡ front ++ said
line_joined start front said one two e f g = g ∙ ap (λ (t : List ℕ). t ++ said) (f ∙ ap (λ (t : List ℕ). t ++ front) e)
