use Rattle.std.proofs.Common.{◌<◌, ◌+◌, ◌*◌, length, drop, get_or, List, ℕ, sym, ap, ◌∙◌, arith}
use Rattle.yv_base_numbers.specs.Numbers.{value_after, digit_of, within_64_bits}
use Rattle.yv_base_numbers.proofs.DigitGrowth.{too_big, digit_step, all_dropped, fits, is_limited}
use Rattle.yv_base_numbers.proofs.number.digits.Goals as goal

pub returns-in_err-number : goal.returns-in_err-number
returns-in_err-number c =
    let n = c.loop-byte.number in
    let i = c.loop-byte.byte-index in
    let xs = c.args.text.now in
    let r = c.args.radix in
    let next = n * r + digit_of (get_or xs i 0) in
    let below : i < length xs = omega arith in
    c.from_residual.ensures ∙ sym (ap within_64_bits (sym c.loop-byte.invariant.same ∙ digit_step r n i 0 xs below) ∙ too_big r next (drop (i + 1) xs) c.requires (sym c.append_digit.ensures ∙ c.in_err-number.was))

pub returns : goal.returns
returns c =
    let n = c.loop-byte.number in
    let i = c.loop-byte.byte-index in
    let xs = c.args.text.now in
    let r = c.args.radix in
    sym (ap within_64_bits (sym c.loop-byte.invariant.same) ∙ ap (λ (ys : List ℕ). within_64_bits (value_after r n ys)) (all_dropped xs i c.loop-byte-test.false) ∙ fits n c.loop-byte.invariant.small)

pub loop-byte-preserved : goal.loop-byte-preserved
loop-byte-preserved c =
    let n = c.loop-byte.number in
    let i = c.loop-byte.byte-index in
    let xs = c.args.text.now in
    let r = c.args.radix in
    let below : i < length xs = omega arith in
    let next = is_limited c.in_ok-number.number (n * r + digit_of (get_or xs i 0)) (sym c.in_ok-number.was ∙ c.append_digit.ensures) in
    record {
      same = ap (λ (m : ℕ). value_after r m (drop (i + 1) xs)) next.0 ∙ sym (digit_step r n i 0 xs below) ∙ c.loop-byte.invariant.same;
      small = omega (arith, next.0, next.1);
    }
