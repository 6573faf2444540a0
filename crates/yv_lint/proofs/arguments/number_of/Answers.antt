use Rattle.std.proofs.Common.{◌≡◌, ◌<◌, ◌*◌, ◌+◌, take, length, sym, ◌∙◌, ap, arith}
use Rattle.std.proofs.lemmas.Bool.{and_from}
use Rattle.std.proofs.lemmas.List.{take_all}
use Rattle.std.proofs.lemmas.List.Folds.{list_all_more}
use Rattle.std.specs.List.{list_all}
use Rattle.yv_text_if_feature.specs.Bytes.{is_digit}
use Rattle.yv_text_grammar.specs.Texts.{decimal_after}
use Rattle.yv_text_grammar.proofs.Numbers.{value_more, value_front, too_high}
use Rattle.yv_lint.proofs.Numbers.{no_number, no_digits, no_digit, number_is}
use Rattle.yv_lint.proofs.arguments.number_of.Goals as goal
use Rattle.yv_lint.proofs.arguments.number_of.Goals.{After-from}

value : (c : After-from) → 10 * c.loop-byte.value + c.from.result ≡ decimal_after 0 (take (c.loop-byte.byte-index + 1) c.args.text.now)
value c =
    let below : c.loop-byte.byte-index < length c.args.text.now = omega arith in
    rw (c.from.ensures, c.loop-byte.invariant.value) (value_more c.args.text.now c.loop-byte.byte-index 0 below)

pub returns-then-is_empty : goal.returns-then-is_empty
returns-then-is_empty c = no_number c.args.text.now (no_digits c.args.text.now (sym c.is_empty.ensures ∙ c.if-is_empty.true))

pub returns-then-not-is_digit : goal.returns-then-not-is_digit
returns-then-not-is_digit c = no_number c.args.text.now (no_digit c.args.text.now c.loop-byte.byte-index (omega arith) (sym c.is_digit.ensures ∙ c.if-not-is_digit.true))

pub returns-then-value-gt-MOST : goal.returns-then-value-gt-MOST
returns-then-value-gt-MOST c = no_number c.args.text.now (sym (too_high 0 4294967295 c.args.text.now (omega (arith, value (goal.at.returns-then-value-gt-MOST c).After-from, value_front c.args.text.now (c.loop-byte.byte-index + 1)))))

pub loop-byte-preserved : goal.loop-byte-preserved
loop-byte-preserved c =
    let below : c.loop-byte.byte-index < length c.args.text.now = omega arith in
    record {
      digits = list_all_more is_digit c.args.text.now c.loop-byte.byte-index 0 below ∙ and_from _ _ c.loop-byte.invariant.digits (sym c.is_digit.ensures ∙ c.if-not-is_digit.false);
      value = value (goal.at.loop-byte-preserved c).After-from;
      within = omega arith;
    }

pub returns : goal.returns
returns c =
    let whole = take_all c.loop-byte.byte-index c.args.text.now (omega arith) in
    number_is c.args.text.now c.loop-byte.value (sym c.is_empty.ensures ∙ c.if-is_empty.false)
    (ap (list_all is_digit) (sym whole) ∙ c.loop-byte.invariant.digits)
    (c.loop-byte.invariant.value ∙ ap (decimal_after 0) whole) c.loop-byte.invariant.within
