use Rattle.std.proofs.Common.{◌≡◌, ◌<◌, ◌*◌, ◌+◌, take, length, sym, ◌∙◌, arith}
use Rattle.std.proofs.lemmas.Bool.{and_from}
use Rattle.std.proofs.lemmas.List.Folds.{list_all_more}
use Rattle.yv_text_if_feature.specs.Bytes.{is_digit}
use Rattle.yv_text_grammar.specs.Texts.{decimal_after}
use Rattle.yv_text_grammar.proofs.Numbers.{value_more, value_front, too_high}
use Rattle.yv_text_grammar.proofs.text.is_number.Goals as goal
use Rattle.yv_text_grammar.proofs.text.is_number.Goals.{After-from}

value : (c : After-from) → 10 * c.loop-byte.value + c.from.result ≡ decimal_after 0 (take (c.loop-byte.byte-index + 1) c.args.text.now)
value c =
    let below : c.loop-byte.byte-index < length c.args.text.now = omega arith in
    rw (c.from.ensures, c.loop-byte.invariant.value) (value_more c.args.text.now c.loop-byte.byte-index 0 below)

pub returns-then-value-high : goal.returns-then-value-high
returns-then-value-high c = too_high c.args.low c.args.high c.args.text.now (omega (arith, value (goal.at.returns-then-value-high c).After-from, value_front c.args.text.now (c.loop-byte.byte-index + 1)))

pub loop-byte-preserved : goal.loop-byte-preserved
loop-byte-preserved c =
    let below : c.loop-byte.byte-index < length c.args.text.now = omega arith in
    record {
      digits = list_all_more is_digit c.args.text.now c.loop-byte.byte-index 0 below ∙ and_from _ _ c.loop-byte.invariant.digits (sym c.is_digit.ensures ∙ c.if-not-is_digit.false);
      value = value (goal.at.loop-byte-preserved c).After-from;
      within = omega arith;
    }
