use Rattle.std.proofs.Common.{sym, ◌∙◌}
use Rattle.yv_base_numbers.proofs.DigitGrowth.{first_too_big, second_too_big, all_three}
use Rattle.yv_base_numbers.proofs.decimal.value_with_zeros.Goals as goal

pub returns-in_err-number : goal.returns-in_err-number
returns-in_err-number c = c.from_residual.ensures ∙ sym (first_too_big c.args.whole.now c.args.fraction.now c.args.zeros (sym c.in_err-number.ensures))

pub returns-in_err-longer : goal.returns-in_err-longer
returns-in_err-longer c = c.from_residual-in_err-longer.ensures ∙ sym (second_too_big c.in_ok-number.number c.args.whole.now c.args.fraction.now c.args.zeros c.in_ok-number.ensures (sym c.in_err-longer.ensures))

pub returns : goal.returns
returns c = all_three c.in_ok-number.number c.in_ok-longer.longer c.args.whole.now c.args.fraction.now c.args.zeros _ c.in_ok-number.ensures c.in_ok-longer.ensures c.with_zeros.ensures
