-- Lines that were counted in a text.
use Rattle.std.proofs.Common.{◌≡◌, ℕ, ◌+◌, ◌≤◌, ◌==◌, List, length, take, drop, refl, sym, ◌∙◌, ap, subst, arith}
use Rattle.std.specs.Prelude.{count_by}
use Rattle.std.proofs.lemmas.List.{take-append-drop, take-take, take_all, length-take}
use Rattle.yv_source.specs.Place.{line_of}
use Rattle.yv_source.specs.Inner.Place.{AreCounted}
use Rattle.yv_source.specs.declared.place.Lines.{Lines}
use Rattle.yv_source.proofs.ReadProgress.{count-append}

-- the line after a text is that of the front in which lines were counted, and one more for each
-- line feed after it
pub line_on : (front : List ℕ) (lines : Lines) (n : ℕ) → AreCounted lines front → n ≡ count_by (λ b. b == 10) (drop lines.at front) → lines.line + n ≡ line_of front
line_on front lines n c e =
    omega (arith, c.line, e, count-append (take lines.at front) (drop lines.at front), ap (count_by (λ b. b == 10)) (take-append-drop lines.at front))

pub all_counted : (front : List ℕ) (line : ℕ) → line ≡ line_of front → AreCounted (record { at = length front; line = line }) front
all_counted front line e = record { within = omega arith; line = e ∙ ap line_of (sym (take_all (length front) front (omega arith))) }

-- what was counted in a text was counted in one that goes on
pub counted_on : (text : List ℕ) (lines : Lines) (n m : ℕ) → n ≤ m → AreCounted lines (take n text) → AreCounted lines (take m text)
counted_on text lines n m le c =
    let low : lines.at ≤ n = omega (arith, c.within, length-take n text) in
    record {
      within = omega (arith, c.within, length-take n text, length-take m text);
      line = c.line ∙ ap line_of (take-take lines.at n text low ∙ sym (take-take lines.at m text (omega arith)));
    }

-- nothing was counted yet
pub counted_start : (text : List ℕ) (n : ℕ) (lines : Lines) → lines ≡ record { at = 0; line = 1 } → AreCounted lines (take n text)
counted_start text n lines e =
    let P : Lines → Type 0 = λ x. AreCounted x (take n text) in
    subst P (sym e) (record { within = omega arith; line = refl })
