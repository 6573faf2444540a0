-- Notes behind others, and what they have in common.
use Rattle.std.proofs.Common.{◌≡◌, ℕ, zero, suc, ◌==◌, ◌||◌, ◌&&◌, ◌+◌, ◌-◌, ◌*◌, ◌≤◌, ◌<◌, Bool, true, false, List, [], ◌∷◌, ◌++◌, length, map, min, take, drop, replicate, nat_le, codes, refl, sym, ap, ◌∙◌, append_assoc, arith, get_or, slice_get, subst}
use Rattle.std.specs.List.{AllZip, filter, slice_range}
use Rattle.std.proofs.lemmas.List.{append-nil, length-append, length-map, length-replicate, length-take, take_more}
use Rattle.std.proofs.lemmas.List.Sums.{count_by-le-length, length-filter}
use Rattle.yv_base_streams.specs.Files.{File}
use Rattle.yv_lint.specs.Rules.{name_of}
use Rattle.yv_lint.specs.declared.finding.Finding.{Finding}
use Rattle.yv_lint.specs.declared.rule.Rule.{Rule}
use Rattle.yv_lint.specs.declared.rule.Rule.TheVariants as rule
use Rattle.yv_note_text.specs.Clear.{is_clear}
use Rattle.yv_note_text.specs.Excerpt.{ShowsPlace, ascii_text, begins_character, excerpt_text, shown_byte}
use Rattle.yv_note_text.proofs.ClearTexts.{both_clear}
use Rattle.yv_note_lines.specs.Lines.{cleared_line, join_texts}
use Rattle.yv_note_lines.proofs.ClearLines.{joined_more, line_clear, line_short, place_clear}
use Rattle.yv_note_findings.specs.Notes.{AreNotes, IsNote, IsNoteIn, bytes_at}

-- ### one note more

zip_more : (files : List File) (fs : List Finding) (notes : List (List ℕ)) (f : Finding) (note : List ℕ) → AllZip (IsNoteIn files) fs notes → IsNoteIn files f note
    → AllZip (IsNoteIn files) (fs ++ f ∷ []) (notes ++ note ∷ [])
zip_more files [] [] f note each is = (is, tt)
zip_more files [] (n ∷ ns) f note each is = absurd each
zip_more files (g ∷ fs) [] f note each is = absurd each
zip_more files (g ∷ fs) (n ∷ ns) f note each is = (each.0, zip_more files fs ns f note each.1 is)

-- one note more
one_more : (files : List File) (fs : List Finding) (f : Finding) (old new note : List ℕ) → AreNotes files fs old → IsNoteIn files f note → new ≡ old ++ note → AreNotes files (fs ++ f ∷ []) new
one_more files fs f old new note are is e = record {
  notes = are.notes ++ note ∷ [];
  each = zip_more files fs are.notes f note are.each is;
  is = e ∙ ap (λ (t : List ℕ). t ++ note) are.is ∙ sym (joined_more are.notes note);
}

-- the same of the next of some findings
pub next_note : (files : List File) (fs : List Finding) (n : ℕ) (d : Finding) (old new note : List ℕ) → n < length fs → AreNotes files (take n fs) old → IsNoteIn files (get_or fs n d) note → new ≡ old ++ note → AreNotes files (take (n + 1) fs) new
next_note files fs n d old new note lt are is e =
    subst (λ (gs : List Finding). AreNotes files gs new) (sym (take_more fs n d lt)) (one_more files (take n fs) (get_or fs n d) old new note are is e)

-- no notes on no findings
pub none : (files : List File) (text : List ℕ) → text ≡ [] → AreNotes files [] text
none files text e = record { notes = []; each = tt; is = e }

-- the parts of a note, added one by one
pub joined : (line name said one two three : List ℕ) → one ≡ line ++ name → two ≡ one ++ codes ": " → three ≡ two ++ cleared_line said → three ≡ line ++ (name ++ (codes ": " ++ cleared_line said))
joined line name said one two three e f g =
    g ∙ ap (λ (t : List ℕ). t ++ cleared_line said) (f ∙ ap (λ (t : List ℕ). t ++ codes ": ") e)
    ∙ append_assoc (line ++ name) (codes ": ") (cleared_line said) ∙ append_assoc line name (codes ": " ++ cleared_line said)

-- ### notes are clear

-- a name of a rule has at most 16 bytes, all clear
record IsName (name : List ℕ) : Type 0 where
  clear : is_clear name ≡ true
  short : length name ≤ 16

is_name : (r : Rule) → IsName (name_of r)
is_name rule.FileName = record { clear = refl; short = omega arith }
is_name rule.NoRevision = record { clear = refl; short = omega arith }
is_name rule.IncompleteHeader = record { clear = refl; short = omega arith }
is_name rule.StatementOrder = record { clear = refl; short = omega arith }
is_name rule.UnusedImport = record { clear = refl; short = omega arith }
is_name rule.VersionMix = record { clear = refl; short = omega arith }
is_name rule.NoSuchDate = record { clear = refl; short = omega arith }
is_name rule.RevisionOrder = record { clear = refl; short = omega arith }
is_name rule.Version11 = record { clear = refl; short = omega arith }
is_name rule.MinAboveMax = record { clear = refl; short = omega arith }
is_name rule.UnusedTypedef = record { clear = refl; short = omega arith }
is_name rule.UnusedGrouping = record { clear = refl; short = omega arith }
is_name rule.PatternAnchor = record { clear = refl; short = omega arith }
is_name rule.NoDescription = record { clear = refl; short = omega arith }

note_clear : (bytes : List ℕ) (f : Finding) (text : List ℕ) → IsNote bytes f text → is_clear text ≡ true
note_clear bytes f text n =
    ap is_clear n.is
    ∙ both_clear n.line (name_of f.rule ++ (codes ": " ++ cleared_line n.sentence)) (place_clear bytes (min f.offset (length bytes)) n.line n.shows)
    (both_clear (name_of f.rule) (codes ": " ++ cleared_line n.sentence) (is_name f.rule).clear (both_clear (codes ": ") (cleared_line n.sentence) refl (line_clear n.sentence)))

all_clear : (files : List File) (fs : List Finding) (notes : List (List ℕ)) → AllZip (IsNoteIn files) fs notes → is_clear (join_texts notes) ≡ true
all_clear files [] [] each = refl
all_clear files [] (n ∷ ns) each = absurd each
all_clear files (f ∷ fs) [] each = absurd each
all_clear files (f ∷ fs) (n ∷ ns) each = both_clear n (join_texts ns) (note_clear (bytes_at (slice_get files f.file)) f n each.0) (all_clear files fs ns each.1)

-- no character of notes controls a terminal
pub notes_clear : (files : List File) (fs : List Finding) (text : List ℕ) → AreNotes files fs text → is_clear text ≡ true
notes_clear files fs text are = ap is_clear are.is ∙ all_clear files fs are.notes are.each

-- ### notes are short

ascii_short : (xs : List ℕ) → length (ascii_text xs) ≤ length xs
ascii_short xs =
    omega (arith, length-map (filter begins_character xs) shown_byte, length-filter begins_character xs, count_by-le-length begins_character xs)

range_short : (xs : List ℕ) (i j : ℕ) → length (slice_range xs i j) ≤ j - i
range_short xs i j = omega (arith, length-take (j - i) (drop i xs))

excerpt_short : (line before : List ℕ) → length line ≤ 144 → length before ≤ 72 → length (excerpt_text line before) ≤ 219
excerpt_short line before few near =
    let blanks : List ℕ = replicate (length (ascii_text before)) 32 in
    omega (
      arith,
      ascii_short line,
      ascii_short before,
      few,
      near,
      length-replicate {A = ℕ} (length (ascii_text before)) 32,
      length-append (ascii_text line) (10 ∷ blanks),
      length-append (ascii_text line ++ (10 ∷ blanks)) (94 ∷ 10 ∷ []),
    )

place_short : (bytes : List ℕ) (offset : ℕ) (text : List ℕ) → ShowsPlace bytes offset text → length text ≤ 219
place_short bytes offset text (start, end, at, is) =
    let line : length (slice_range bytes start end) ≤ 144 = omega (arith, range_short bytes start end, at.near_start, at.near_end) in
    let before : length (slice_range bytes start offset) ≤ 72 = omega (arith, range_short bytes start offset, at.near_start) in
    omega (arith, ap length is, excerpt_short (slice_range bytes start end) (slice_range bytes start offset) line before)

note_short : (bytes : List ℕ) (f : Finding) (text : List ℕ) → IsNote bytes f text → length text ≤ 1700
note_short bytes f text n =
    omega (
      arith,
      ap length n.is,
      length-append n.line (name_of f.rule ++ (codes ": " ++ cleared_line n.sentence)),
      length-append (name_of f.rule) (codes ": " ++ cleared_line n.sentence),
      length-append (codes ": ") (cleared_line n.sentence),
      place_short bytes (min f.offset (length bytes)) n.line n.shows,
      (is_name f.rule).short,
      line_short n.sentence,
    )

all_short : (files : List File) (fs : List Finding) (notes : List (List ℕ)) → AllZip (IsNoteIn files) fs notes → length (join_texts notes) ≤ 1700 * length fs
all_short files [] [] each = omega arith
all_short files [] (n ∷ ns) each = absurd each
all_short files (f ∷ fs) [] each = absurd each
all_short files (f ∷ fs) (n ∷ ns) each =
    let one : length n ≤ 1700 = note_short (bytes_at (slice_get files f.file)) f n each.0 in
    let others : length (join_texts ns) ≤ 1700 * length fs = all_short files fs ns each.1 in
    omega (arith, one, others, length-append n (join_texts ns))

-- at most 1,700 bytes for each note
pub notes_short : (files : List File) (fs : List Finding) (text : List ℕ) → AreNotes files fs text → length text ≤ 1700 * length fs
notes_short files fs text are = omega (arith, ap length are.is, all_short files fs are.notes are.each)
