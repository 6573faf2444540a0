-- The place of the next offset of a text.
use Rattle.std.proofs.Common.{◌≡◌, ◌∙◌, ◌+◌, ◌-◌, ◌<◌, ◌≤◌, ℕ, not, Bool, true, false, List, length, get_or, take, ap, sym, arith}
use Rattle.std.specs.Prelude.{count_by}
use Rattle.std.specs.List.{suffix_len}
use Rattle.std.proofs.lemmas.Bool.{ne_eqb}
use Rattle.std.proofs.lemmas.List.{length-take-le}
use Rattle.std.proofs.lemmas.List.Sums.{count_by-le-length, count_by_more_no, count_by_more_yes, suffix_len-le-length, suffix_len-take_no, suffix_len-take_yes}
use Rattle.yv_base_positions.specs.Column.{column, is_in_line, is_line_feed, line_at}
use Rattle.yv_note_places.specs.Place.{IsPlaceOf}
use Rattle.yv_note_places.specs.declared.places.LineColumn.{LineColumn}

module _ (text : List ℕ) (offset : ℕ) (lt : offset < length text) where
  -- lines and columns are no more than the bytes before, and one
  line_bound : line_at text offset ≤ offset + 1
  line_bound = omega (arith, count_by-le-length is_line_feed (take offset text), length-take-le offset text (omega arith))

  column_bound : column text offset ≤ offset + 1
  column_bound = omega (arith, suffix_len-le-length is_in_line (take offset text), length-take-le offset text (omega arith))

  -- the byte before the next offset is the one at the offset
  back : offset ≡ offset + 1 - 1
  back = omega arith

  is_last : (is : Bool) → is_line_feed (get_or text offset 0) ≡ is → is_in_line (get_or text (offset + 1 - 1) 0) ≡ not is
  is_last is e = ap (λ (k : ℕ). not (is_line_feed (get_or text k 0))) (sym back) ∙ ap not e

  line_at_feed : is_line_feed (get_or text offset 0) ≡ true → line_at text (offset + 1) ≡ 1 + (count_by is_line_feed (take offset text) + 1)
  line_at_feed is = ap (λ (k : ℕ). 1 + k) (count_by_more_yes is_line_feed text offset 0 lt is)

  column_at_feed : is_line_feed (get_or text offset 0) ≡ true → column text (offset + 1) ≡ 1
  column_at_feed is = ap (λ (k : ℕ). 1 + k) (suffix_len-take_no is_in_line text (offset + 1) 0 (omega arith) (omega arith) (is_last true is))

  line_at_other : is_line_feed (get_or text offset 0) ≡ false → line_at text (offset + 1) ≡ line_at text offset
  line_at_other is = ap (λ (k : ℕ). 1 + k) (count_by_more_no is_line_feed text offset 0 lt is)

  column_at_other : is_line_feed (get_or text offset 0) ≡ false → column text (offset + 1) ≡ 1 + column text offset
  column_at_other is =
      ap (λ (k : ℕ). 1 + k) (
      suffix_len-take_yes is_in_line text (offset + 1) 0 (omega arith) (omega arith) (is_last false is)
      ∙ ap (λ (k : ℕ). 1 + suffix_len is_in_line (take k text)) (sym back))

  -- the place behind a line feed
  pub behind_feed : (place : LineColumn) (line : ℕ) → IsPlaceOf text offset place → get_or text offset 0 ≡ 10 → line ≡ place.line + 1 → IsPlaceOf text (offset + 1) record { line = line; column = 1 }
  behind_feed place line before is more =
      let feed = ap is_line_feed is in
      record { within = omega arith; line = omega (arith, more, before.line, line_at_feed feed); column = sym (column_at_feed feed) }

  -- the place behind any other byte
  pub behind_other : (place : LineColumn) (next : ℕ) → IsPlaceOf text offset place → (get_or text offset 0 ≡ 10 → ⊥) → next ≡ place.column + 1
      → IsPlaceOf text (offset + 1) record { line = place.line; column = next }
  behind_other place next before is more =
      let other = ne_eqb (get_or text offset 0) 10 is in
      record { within = omega arith; line = before.line ∙ sym (line_at_other other); column = omega (arith, more, before.column, column_at_other other) }

  -- both fit where the offset does
  pub line_fits : (place : LineColumn) → IsPlaceOf text offset place → place.line ≤ offset + 1
  line_fits place before = omega (arith, before.line, line_bound)

  pub column_fits : (place : LineColumn) → IsPlaceOf text offset place → place.column ≤ offset + 1
  column_fits place before = omega (arith, before.column, column_bound)
