-- Where the line of an offset begins, from where that of an earlier offset begins.
use Rattle.std.proofs.Common.{◌≡◌, ◌∙◌, ◌+◌, ◌-◌, ◌<◌, ◌≤◌, ℕ, not, Bool, true, false, List, length, get_or, take, drop, nat_lt, refl, ap, sym, subst, length-drop, arith}
use Rattle.std.specs.Prelude.{min}
use Rattle.std.specs.declared.option.Option.{Option}
use Rattle.std.specs.declared.option.Option.TheVariants.{None, Some}
use Rattle.std.specs.List.{suffix_len}
use Rattle.std.proofs.lemmas.Bool.{ltb-false, ltb-true}
use Rattle.std.proofs.lemmas.List.{get_or-drop, get_or-take, length-take-le, take_min}
use Rattle.std.proofs.lemmas.List.Sums.{suffix_len_is}
use Rattle.memchr.specs.Find.{IsLastByte, Nowhere, Passes, is_byte}
use Rattle.yv_base_positions.specs.Column.{column, is_in_line}
use Rattle.yv_base_positions.specs.LineStart.{IsLineStart}
use Rattle.yv_base_positions.proofs.ColumnLemmas.{other}

module _ (bytes : List ℕ) where
  -- the bytes between two offsets
  abbrev between : ℕ → ℕ → List ℕ
  between from to = take (to - from) (drop from bytes)

  module _ (from to : ℕ) (order : from ≤ to) (within : to ≤ length bytes) where
    long : length (between from to) ≡ to - from
    long = length-take-le (to - from) (drop from bytes) (omega (arith, length-drop from bytes))

    byte_at : (k : ℕ) → from ≤ k → k < to → get_or (between from to) (k - from) 0 ≡ get_or bytes k 0
    byte_at k low high =
        let same : from + (k - from) ≡ k = omega arith in
        get_or-take (to - from) (drop from bytes) (k - from) 0 (omega arith) ∙ get_or-drop from bytes (k - from) 0 ∙ ap (λ (n : ℕ). get_or bytes n 0) same

    others_from : (n : ℕ) → Nowhere (Passes (is_byte 10) (between from to)) n (length (between from to)) → (k : ℕ) → from + n ≤ k → k < to → is_in_line (get_or bytes k 0) ≡ true
    others_from n nowhere k low high = ap is_in_line (sym (byte_at k (omega arith) high)) ∙ other (between from to) n (k - from) nowhere (omega arith) (omega (arith, long))

    -- no line feed comes between them
    same_by : (start k : ℕ) (is_earlier : Bool) → nat_lt k from ≡ is_earlier → IsLineStart bytes from start → Nowhere (Passes (is_byte 10) (between from to)) 0 (length (between from to)) → start ≤ k → k < to
        → is_in_line (get_or bytes k 0) ≡ true
    same_by start k true e place nowhere low high = place.others k low (ltb-true k from e)
    same_by start k false e place nowhere low high = let late = ltb-false k from e in others_from 0 nowhere k (omega arith) high

    pub same_start : (start : ℕ) (r : Option ℕ) → IsLineStart bytes from start → r ≡ None → IsLastByte (is_byte 10) (between from to) r → IsLineStart bytes to start
    same_start start r place is h =
        let P : Option ℕ → Type 0 = λ x. IsLastByte (is_byte 10) (between from to) x in
        let nowhere = subst P is h in
        record { within = within; before = (let low = place.before in omega arith); others = λ k low high. same_by start k _ refl place nowhere low high; behind = place.behind }

    -- the last of them is right before the line
    pub later_start : (at : ℕ) (r : Option ℕ) → r ≡ Some at → IsLastByte (is_byte 10) (between from to) r → IsLineStart bytes to (from + at + 1)
    later_start at r is h =
        let P : Option ℕ → Type 0 = λ x. IsLastByte (is_byte 10) (between from to) x in
        let last = subst P is h in
        let high : at < to - from = (let less = last.0.high in omega (arith, long)) in
        let back : from + at + 1 - 1 ≡ from + at = omega arith in
        let same : from + at - from ≡ at = omega arith in
        record {
          within = within;
          before = omega arith;
          others = λ k low up. others_from (at + 1) last.0.after k (omega arith) up;
          behind = λ some. ap (λ (n : ℕ). is_in_line (get_or bytes n 0)) back ∙ ap is_in_line (sym (byte_at (from + at) (omega arith) (omega arith))) ∙ ap (λ (n : ℕ). is_in_line (get_or (between from to) n 0)) same ∙ ap not last.1;
        }

  -- the column of an offset, of which no more counts than the text is long
  pub column_from : (offset place start : ℕ) → place ≡ min offset (length bytes) → IsLineStart bytes place start → 1 + place - start ≡ column bytes offset
  column_from offset place start is h =
      let whole : take place bytes ≡ take offset bytes = ap (λ (n : ℕ). take n bytes) is ∙ take_min offset bytes in
      let size : length (take place bytes) ≡ place = length-take-le place bytes h.within in
      let byte : (k : ℕ) → k < place → get_or (take place bytes) k 0 ≡ get_or bytes k 0 = λ k lt. get_or-take place bytes k 0 lt in
      let low = h.before in
      let rest : suffix_len is_in_line (take place bytes) ≡ length (take place bytes) - start = suffix_len_is is_in_line (take place bytes) start 0 (omega arith) (λ k low high. ap is_in_line (byte k (omega arith)) ∙ h.others k low (omega arith)) (λ some. ap is_in_line (byte (start - 1) (omega arith)) ∙ h.behind some) in
      let same : suffix_len is_in_line (take place bytes) ≡ suffix_len is_in_line (take offset bytes) = ap (suffix_len is_in_line) whole in
      omega arith
