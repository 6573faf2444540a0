-- Lines behind others, and what they have in common.
use Rattle.std.proofs.Common.{◌≡◌, ℕ, ◌+◌, ◌*◌, ◌≤◌, true, List, [], ◌∷◌, ◌++◌, length, refl, sym, ap, ◌∙◌, append_assoc, arith}
use Rattle.std.proofs.lemmas.List.{append-nil, length-append}
use Rattle.yv_note_text.specs.Clear.{is_clear}
use Rattle.yv_note_text.proofs.ClearTexts.{both_clear}
use Rattle.yv_note_lines.specs.Lines.{cleared_line}
use Rattle.yv_note_lines.proofs.ClearLines.{line_clear, line_short}
use Rattle.yv_note_selection.specs.Lines.{AreLines, join_lines}
use Rattle.yv_note_selection.specs.InnerLines.{HoldsLines}

joined_more : (said : List (List ℕ)) (one : List ℕ) → join_lines (said ++ one ∷ []) ≡ join_lines said ++ cleared_line one
joined_more [] one = append-nil (cleared_line one)
joined_more (s ∷ said) one = ap (λ (t : List ℕ). cleared_line s ++ t) (joined_more said one) ∙ sym (append_assoc (cleared_line s) (join_lines said) (cleared_line one))

-- one line more
pub one_more : (count : ℕ) (old new said : List ℕ) → HoldsLines count old → new ≡ old ++ cleared_line said → HoldsLines (count + 1) new
one_more count old new said holds e = record {
  said = holds.said ++ said ∷ [];
  each = omega (arith, length-append holds.said (said ∷ []), holds.each);
  is = e ∙ ap (λ (t : List ℕ). t ++ cleared_line said) holds.is ∙ sym (joined_more holds.said said);
}

-- no line
pub no_line : (text : List ℕ) → text ≡ [] → HoldsLines 0 text
no_line text e = record { said = []; each = refl; is = e }

-- few lines
pub few_lines : (count : ℕ) (text : List ℕ) → HoldsLines count text → count ≤ 20 → AreLines text
few_lines count text holds few = record {
  said = holds.said;
  few = omega (arith, holds.each, few);
  is = holds.is;
}

joined_clear : (said : List (List ℕ)) → is_clear (join_lines said) ≡ true
joined_clear [] = refl
joined_clear (s ∷ said) =
    both_clear (cleared_line s) (join_lines said) (line_clear s) (joined_clear said)

-- lines have nothing that drives a terminal
pub lines_clear : (text : List ℕ) → AreLines text → is_clear text ≡ true
lines_clear text are = ap is_clear are.is ∙ joined_clear are.said

joined_short : (said : List (List ℕ)) → length (join_lines said) ≤ 1401 * length said
joined_short [] = omega arith
joined_short (s ∷ said) =
    let one : length (cleared_line s) ≤ 1401 = line_short s in
    let others : length (join_lines said) ≤ 1401 * length said = joined_short said in
    omega (arith, one, others, length-append (cleared_line s) (join_lines said))

-- at most 1,401 bytes for each of 20 lines
pub lines_short : (text : List ℕ) → AreLines text → length text ≤ 28020
lines_short text are = omega (arith, ap length are.is, joined_short are.said, are.few)
