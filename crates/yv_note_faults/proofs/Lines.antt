-- Lines behind others, and what they have in common.
use Rattle.std.proofs.Common.{◌≡◌, ℕ, ◌+◌, ◌-◌, ◌*◌, ◌≤◌, ◌<◌, Bool, true, false, List, [], ◌∷◌, ◌++◌, length, map, min, take, refl, sym, ap, subst, ◌∙◌, append_assoc, arith, suc, Some, slice_get, nat_lt, codes, decimal, if◌then◌else◌}
use Rattle.std.specs.List.{AllZip}
use Rattle.std.proofs.Math.Seq.{take-suc}
use Rattle.std.proofs.lemmas.Fmt.{length-decimal-le}
use Rattle.std.proofs.lemmas.Option.{get_or_from_slice_get, slice_get_within}
use Rattle.std.proofs.lemmas.List.{append-nil, length-append, length-map, length-take}
use Rattle.yv_data_faults.specs.Flaw.{Flaw}
use Rattle.yv_note_text.specs.Clear.{is_clear, visible_byte}
use Rattle.yv_note_text.proofs.ClearTexts.{both_clear, bytes_clear}
use Rattle.yv_note_lines.specs.Lines.{cleared_line, join_texts, visible_text}
use Rattle.yv_note_lines.proofs.ClearLines.{joined_more, line_clear, line_short}
use Rattle.yv_note_faults.specs.Line.{IsPlaced, IsSentence, TellsRepeat, keys_text, like_text, numbers_text, place_text}
use Rattle.yv_note_faults.specs.Sentences.{AreRepeats, AreSentences, IsHint, no_hint, state, Tells, TellsRepeats, chosen_faults, marked_faults, more_line, more_text, state_text}
use Rattle.yv_note_faults.specs.InnerAdds.{IsSaid}

-- what is said of a fault behind a place is its sentence
pub sentence_is : (name : List ℕ) (f : Flaw) (said line : List ℕ) → IsSaid f said → IsPlaced name said line → IsSentence name f line
sentence_is name f said line is placed = record {
  front = is.front;
  keys = is.keys;
  likes = is.likes;
  advice = is.advice;
  begins = is.begins;
  placed = subst (λ (text : List ℕ). IsPlaced name text line) is.is placed;
}

zip_more : (name : List ℕ) (fs : List Flaw) (lines : List (List ℕ)) (f : Flaw) (line : List ℕ) → AllZip (IsSentence name) fs lines → IsSentence name f line
    → AllZip (IsSentence name) (fs ++ f ∷ []) (lines ++ line ∷ [])
zip_more name [] [] f line each is = (is, tt)
zip_more name [] (l ∷ ls) f line each is = absurd each
zip_more name (g ∷ fs) [] f line each is = absurd each
zip_more name (g ∷ fs) (l ∷ ls) f line each is = (each.0, zip_more name fs ls f line each.1 is)

-- one sentence more
pub one_more : (name : List ℕ) (start : List Flaw) (f : Flaw) (old new line : List ℕ) → AreSentences name start old → IsSentence name f line → new ≡ old ++ line
    → AreSentences name (start ++ f ∷ []) new
one_more name start f old new line are is e = record {
  lines = are.lines ++ line ∷ [];
  each = zip_more name start are.lines f line are.each is;
  is = e ∙ ap (λ (t : List ℕ). t ++ line) are.is ∙ sym (joined_more are.lines line);
}

-- no sentences on no faults
pub none : (name text : List ℕ) → text ≡ [] → AreSentences name [] text
none name text e = record { lines = []; each = tt; is = e }

repeats_more : (name : List ℕ) (lines : List (List ℕ)) (line : List ℕ) → AreRepeats name lines → TellsRepeat name line → AreRepeats name (lines ++ line ∷ [])
repeats_more name [] line each is = (is, tt)
repeats_more name (l ∷ ls) line each is = (each.0, repeats_more name ls line each.1 is)

-- one line on a repeated member more
pub repeat_more : (name : List ℕ) (before : ℕ) (old new line : List ℕ) → TellsRepeats before name old → TellsRepeat name line → new ≡ old ++ line → TellsRepeats (before + 1) name new
repeat_more name before old new line are is e = record {
  lines = are.lines ++ line ∷ [];
  count = omega (arith, are.count, length-append are.lines (line ∷ []));
  each = repeats_more name are.lines line are.each is;
  is = e ∙ ap (λ (t : List ℕ). t ++ line) are.is ∙ sym (joined_more are.lines line);
}

pub no_repeats : (name text : List ℕ) (most : ℕ) → text ≡ [] → TellsRepeats most name text
no_repeats name text most e = record { lines = []; count = omega arith; each = tt; is = e }

placed_clear : (name said line : List ℕ) → IsPlaced name said line → is_clear line ≡ true
placed_clear name said line p =
    ap is_clear p.is
    ∙ both_clear (place_text name p.row p.column) (cleared_line said)
    (both_clear (visible_text name) (visible_text (numbers_text p.row p.column)) (bytes_clear name) (bytes_clear (numbers_text p.row p.column)))
    (line_clear said)

lines_clear : (name : List ℕ) (fs : List Flaw) (lines : List (List ℕ)) → AllZip (IsSentence name) fs lines → is_clear (join_texts lines) ≡ true
lines_clear name [] [] each = refl
lines_clear name [] (l ∷ ls) each = absurd each
lines_clear name (f ∷ fs) [] each = absurd each
lines_clear name (f ∷ fs) (l ∷ ls) each = both_clear l (join_texts ls) (placed_clear name _ l each.0.placed) (lines_clear name fs ls each.1)

pub sentences_clear : (name : List ℕ) (fs : List Flaw) (text : List ℕ) → AreSentences name fs text → is_clear text ≡ true
sentences_clear name fs text are = ap is_clear are.is ∙ lines_clear name fs are.lines are.each

repeats_clear_by : (name : List ℕ) (lines : List (List ℕ)) → AreRepeats name lines → is_clear (join_texts lines) ≡ true
repeats_clear_by name [] each = refl
repeats_clear_by name (l ∷ ls) each = both_clear l (join_texts ls) (placed_clear name _ l each.0.placed) (repeats_clear_by name ls each.1)

pub repeats_clear : (name : List ℕ) (most : ℕ) (text : List ℕ) → TellsRepeats most name text → is_clear text ≡ true
repeats_clear name most text tells = ap is_clear tells.is ∙ repeats_clear_by name tells.lines tells.each

more_clear : (most count : ℕ) → is_clear (more_text most count) ≡ true
more_clear most count = cases (nat_lt most count)
  where
    cases : (v : Bool) → is_clear (if v then more_line (count - most) else []) ≡ true
    cases true = line_clear (codes "more faults: " ++ decimal (count - most))
    cases false = refl

hint_clear : (count : ℕ) (hint : List ℕ) → IsHint count hint → is_clear hint ≡ true
hint_clear count hint (no_hint e) = ap is_clear e
hint_clear count hint (state missing le most e) = ap is_clear e ∙ line_clear (state_text missing count)

-- what is said of all faults controls no terminal
pub rest_clear : (most count : ℕ) (text hint : List ℕ) → IsHint count hint → text ≡ more_text most count ++ hint → is_clear text ≡ true
rest_clear most count text hint hints e = ap is_clear e ∙ both_clear (more_text most count) hint (more_clear most count) (hint_clear count hint hints)

five_parts : (a b c d e : List ℕ) → length (a ++ b ++ c ++ d ++ e) ≡ length a + length b + length c + length d + length e
five_parts a b c d e =
    length-append (a ++ b ++ c ++ d) e
    ∙ ap (λ (n : ℕ). n + length e) (length-append (a ++ b ++ c) d ∙ ap (λ (n : ℕ). n + length d) (length-append (a ++ b) c ∙ ap (λ (n : ℕ). n + length c) (length-append a b)))

numbers_short : (row column : ℕ) → length (decimal row) ≤ 20 → length (decimal column) ≤ 20 → length (numbers_text row column) ≤ 44
numbers_short row column rows columns = omega (arith, rows, columns, five_parts (codes ":") (decimal row) (codes ":") (decimal column) (codes ": "))

placed_short : (name said line : List ℕ) → length name ≤ 4096 → IsPlaced name said line → length line ≤ 6000
placed_short name said line le p =
    let numbers = numbers_text p.row p.column in
    let place : length (place_text name p.row p.column) ≤ 4140 =
    omega (arith, le, numbers_short p.row p.column p.row_digits p.column_digits, length-append (visible_text name) (visible_text numbers), length-map name visible_byte, length-map numbers visible_byte) in
    omega (arith, ap length p.is, place, line_short said, length-append (place_text name p.row p.column) (cleared_line said))

lines_short : (name : List ℕ) (fs : List Flaw) (lines : List (List ℕ)) → length name ≤ 4096 → AllZip (IsSentence name) fs lines → length (join_texts lines) ≤ 6000 * length fs
lines_short name [] [] le each = omega arith
lines_short name [] (l ∷ ls) le each = absurd each
lines_short name (f ∷ fs) [] le each = absurd each
lines_short name (f ∷ fs) (l ∷ ls) le each =
    let one : length l ≤ 6000 = placed_short name _ l le each.0.placed in
    let others : length (join_texts ls) ≤ 6000 * length fs = lines_short name fs ls le each.1 in
    omega (arith, one, others, length-append l (join_texts ls))

pub sentences_short : (name : List ℕ) (fs : List Flaw) (text : List ℕ) → length name ≤ 4096 → AreSentences name fs text → length text ≤ 6000 * length fs
sentences_short name fs text le are = omega (arith, ap length are.is, lines_short name fs are.lines le are.each)

repeats_short_by : (name : List ℕ) (lines : List (List ℕ)) → length name ≤ 4096 → AreRepeats name lines → length (join_texts lines) ≤ 6000 * length lines
repeats_short_by name [] le each = omega arith
repeats_short_by name (l ∷ ls) le each =
    let one : length l ≤ 6000 = placed_short name _ l le each.0.placed in
    let others : length (join_texts ls) ≤ 6000 * length ls = repeats_short_by name ls le each.1 in
    omega (arith, one, others, length-append l (join_texts ls))

pub repeats_short : (name : List ℕ) (most : ℕ) (text : List ℕ) → length name ≤ 4096 → TellsRepeats most name text → length text ≤ 6000 * most
repeats_short name most text le tells = omega (arith, ap length tells.is, tells.count, repeats_short_by name tells.lines le tells.each)

more_short : (most count : ℕ) → length (more_text most count) ≤ 1401
more_short most count = cases (nat_lt most count)
  where
    cases : (v : Bool) → length (if v then more_line (count - most) else []) ≤ 1401
    cases true = line_short (codes "more faults: " ++ decimal (count - most))
    cases false = omega arith

hint_short : (count : ℕ) (hint : List ℕ) → IsHint count hint → length hint ≤ 1401
hint_short count hint (no_hint e) = omega (arith, ap length e)
hint_short count hint (state missing le most e) = rw e (line_short (state_text missing count))

pub rest_short : (most count : ℕ) (text hint : List ℕ) → IsHint count hint → text ≡ more_text most count ++ hint → length text ≤ 6000
rest_short most count text hint hints e = omega (arith, ap length e, more_short most count, hint_short count hint hints, length-append (more_text most count) hint)

marked_count : (fs : List Flaw) (leads : List Bool) → length (marked_faults true fs leads) + length (marked_faults false fs leads) ≤ length fs
marked_count [] [] = omega arith
marked_count [] (b ∷ bs) = omega arith
marked_count (f ∷ fs) [] = omega arith
marked_count (f ∷ fs) (true ∷ bs) = omega (arith, marked_count fs bs)
marked_count (f ∷ fs) (false ∷ bs) = omega (arith, marked_count fs bs)

-- no more faults have a line than there are, and no more than may have one
pub chosen_count : (most : ℕ) (fs : List Flaw) (leads : List Bool) → length (chosen_faults most fs leads) ≤ min most (length fs)
chosen_count most fs leads =
    let all = marked_faults true fs leads ++ marked_faults false fs leads in
    omega (arith, marked_count fs leads, length-append (marked_faults true fs leads) (marked_faults false fs leads), length-take most all)

-- a line and a column of 64 bits have at most 20 digits
pub few_digits : (n : ℕ) → n < 18446744073709551616 → length (decimal n) ≤ 20
few_digits n lt = length-decimal-le 20 n (omega arith) (omega (arith, lt)) lt

-- what is said of all faults
pub told : (most : ℕ) (name : List ℕ) (fs those : List Flaw) (leads : List Bool) (lines rest hint : List ℕ) → length leads ≡ length fs → those ≡ chosen_faults most fs leads
    → AreSentences name those lines → IsHint (length fs) hint → rest ≡ more_text most (length fs) ++ hint → Tells most name fs lines rest
told most name fs those leads lines rest hint each is are hints e = record {
  leads = leads;
  each = each;
  are = subst (λ (xs : List Flaw). AreSentences name xs lines) is are;
  hint = hint;
  hints = hints;
  is = e;
}

pub told_short : (most : ℕ) (name : List ℕ) (fs : List Flaw) (lines rest : List ℕ) → Tells most name fs lines rest → length name ≤ 4096 → length lines ≤ 6000 * min most (length fs)
told_short most name fs lines rest tells le =
    omega (arith, sentences_short name (chosen_faults most fs tells.leads) lines le tells.are, chosen_count most fs tells.leads)

-- what is said of so many is said of as many at most
pub repeats_fewer : (name : List ℕ) (few most : ℕ) (text : List ℕ) → few ≤ most → TellsRepeats few name text → TellsRepeats most name text
repeats_fewer name few most text le tells = record { lines = tells.lines; count = omega (arith, le, tells.count); each = tells.each; is = tells.is }

line_taken : (fs : List Flaw) (i : ℕ) (f : Flaw) → slice_get fs i ≡ Some f → take (i + 1) fs ≡ take i fs ++ f ∷ []
line_taken fs i f at =
    let same : i + 1 ≡ suc i = omega arith in
    ap (λ (k : ℕ). take k fs) same ∙ take-suc fs i f (slice_get_within fs i f at) ∙ ap (λ (g : Flaw). take i fs ++ g ∷ []) (get_or_from_slice_get fs i f f at)

-- the line on the next fault
pub next_line : (name : List ℕ) (fs : List Flaw) (i : ℕ) (f : Flaw) (old new line : List ℕ) → slice_get fs i ≡ Some f → AreSentences name (take i fs) old → IsSentence name f line → new ≡ old ++ line
    → AreSentences name (take (i + 1) fs) new
next_line name fs i f old new line at are is e =
    subst (λ (xs : List Flaw). AreSentences name xs new) (sym (line_taken fs i f at)) (one_more name (take i fs) f old new line are is e)
