use Rattle.std.proofs.Common.{ℕ, List, drop, length-drop, ap, ◌∙◌, subst, arith}
use Rattle.std.specs.Prelude.{encode_utf8}
use Rattle.std.proofs.lemmas.List.{take_rest}
use Rattle.yv_source.specs.Inner.Writer.{BeginsEscape}
use Rattle.yv_source.proofs.Runs.{takes_escape, rests_on}
use Rattle.yv_source.proofs.double_quotes.Writer.take_escapes.Goals as goal

pub loop-c-preserved : goal.loop-c-preserved
loop-c-preserved c =
    let text = c.args.text.now in
    let len = c.loop-c.len in
    let B : List ℕ → Type 0 = λ l. BeginsEscape l c.in-Some.c in
    let begins = subst B (take_rest c.as_bytes-bytes.result.now len ∙ ap (drop len) c.as_bytes-bytes.ensures.value) c.in-Some.ensures in (
      takes_escape c.args.self.now c.loop-c.self c.write.new.self text len c.in-Some.c c.loop-c.invariant.0 c.loop-c.invariant.2 begins c.in_ok-write.ensures,
      omega (arith, begins.room, length-drop len text),
      rests_on c.loop-c.self c.write.new.self (encode_utf8 c.in-Some.c) c.loop-c.invariant.2 c.in_ok-write.ensures,
    )
