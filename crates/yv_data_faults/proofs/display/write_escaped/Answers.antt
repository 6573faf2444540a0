use Rattle.std.proofs.Common.{◌≡◌, ◌+◌, ℕ, List, ◌∷◌, ◌++◌, ◌∙◌, ap, sym, subst, get_or, drop, drop-cons, add-one, append_assoc, rules}
use Rattle.std.proofs.Output.{has_written_append}
use Rattle.yv_data_faults.specs.Line.{escape, escaped_byte}
use Rattle.yv_data_faults.proofs.display.write_escaped.Goals as goal

pub loop-byte-preserved : goal.loop-byte-preserved
loop-byte-preserved g c = λ plain.
    let now = c.loop-byte.invariant plain in
    let bytes : List ℕ = c.as_bytes-byte-items.result.now in
    let i : ℕ = c.loop-byte.byte-index in
    let left : drop i bytes ≡ get_or bytes i 0 ∷ drop (i + 1) bytes =
    subst (λ k. drop i bytes ≡ get_or bytes i 0 ∷ drop k bytes) (sym (add-one i)) (drop-cons bytes i 0 c.loop-byte-test.true) in (
      now.0 ++ escaped_byte (get_or bytes i 0),
      has_written_append _ _ _ _ _ _ now.1 (search rules),
      append_assoc now.0 (escaped_byte (get_or bytes i 0)) _ ∙ ap (λ l. now.0 ++ escape l) (sym left) ∙ now.2,
    )
