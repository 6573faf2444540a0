-- What becomes of a text in memory.
use Rattle.std.proofs.Common.{◌≡◌, ℕ, Bool, true, false, List, [], ◌++◌, refl, sym, ap, ◌∙◌, append_assoc, append-nil, zero-le}
use Rattle.std.specs.declared.option.Option.{Option}
use Rattle.std.specs.declared.option.Option.TheVariants.{Some}
use Rattle.std.proofs.KnownBytes.{Appends-trans}
use Rattle.std.proofs.lemmas.Bool.{false≢true}
use Rattle.yv_base_streams.specs.Pages.{output_of, IsPaged}

-- a piece was put behind what there was, or the text has failed and is as before
pub pushed : (start : Option (List ℕ)) (text before after piece : List ℕ) (had has : Bool) → had ≡ false → (has ≡ false → after ≡ before ++ piece) → (has ≡ true → after ≡ before)
    → IsPaged start text (output_of (Some before) had 0 []) → IsPaged start (text ++ piece) (output_of (Some after) has 0 [])
pushed start text before after piece had false works more same h = record {
  written = h.written ++ piece;
  others = [];
  parts = ap (λ (l : List ℕ). l ++ piece) (h.parts ∙ ap (λ (l : List ℕ). h.written ++ l) (sym (h.in_page works)) ∙ append-nil h.written) ∙ sym (append-nil (h.written ++ piece));
  appended = Appends-trans start (Some before) (Some after) h.written piece h.appended (more refl);
  once = zero-le;
  in_page = λ e. refl;
}
pushed start text before after piece had true works more same h = record {
  written = h.written;
  others = h.others ++ piece;
  parts = ap (λ (l : List ℕ). l ++ piece) h.parts ∙ append_assoc h.written h.others piece;
  appended = rw (same refl) h.appended;
  once = zero-le;
  in_page = λ e. absurd (false≢true (sym e));
}
