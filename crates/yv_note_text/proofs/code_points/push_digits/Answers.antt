use Rattle.std.proofs.Common.{Result, Ok, Err, OnOk, string_bytes}
use Rattle.yv_note_text.proofs.CodePoints.{grows}
use Rattle.yv_note_text.proofs.code_points.push_digits.Goals as goal

-- what follows from what an answer says if there is memory
onward : {T E : Type 0} (r : Result T E) (P Q : Type 0) → (P → Q) → OnOk r P → OnOk r Q
onward (Ok x) P Q f p = f p
onward (Err e) P Q f p = tt

pub returns : goal.returns
returns c =
    onward c.push_byte-2.result _ _
    (λ last. grows c.args.number (string_bytes c.args.text.now) (string_bytes c.push_high_digits.new.text) (string_bytes c.push_byte.new.text) (string_bytes c.push_byte-2.new.text)
    record {
      none = c.in_ok-push_high_digits.ensures.none;
      first = c.in_ok-push_high_digits.ensures.one;
      second = c.in_ok-push_high_digits.ensures.two;
      third = c.in_ok-push_byte.ensures;
      last = last;
    })
    c.push_byte-2.ensures
