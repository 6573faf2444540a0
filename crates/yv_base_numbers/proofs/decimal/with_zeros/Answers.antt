use Rattle.std.proofs.Common.{◌<◌, ◌^◌, ◌+◌, ◌-◌, ◌*◌, ℕ, sym, ap, ◌∙◌, arith}
use Rattle.yv_base_numbers.specs.Numbers.{within_64_bits}
use Rattle.yv_base_numbers.proofs.DigitGrowth.{zeros_too_big, zeros_step, zeros_end, fits, unlimited}
use Rattle.yv_base_numbers.proofs.decimal.with_zeros.Goals as goal

pub returns-in_err-number : goal.returns-in_err-number
returns-in_err-number c =
    let n = c.loop-place.number in
    let i = c.loop-place._place in
    let k = c.args.count in
    let below : i < k = omega arith in
    c.from_residual.ensures ∙ sym (ap within_64_bits (sym c.loop-place.invariant.same ∙ zeros_step n i k below) ∙ zeros_too_big (n * 10) (k - (i + 1)) (unlimited (n * 10) c.in_err-number.ensures))

pub returns : goal.returns
returns c =
    let n = c.loop-place.number in
    let i = c.loop-place._place in
    let k = c.args.count in
    sym (ap within_64_bits (sym c.loop-place.invariant.same ∙ zeros_end n i k (omega arith)) ∙ fits n c.loop-place.invariant.small)

pub loop-place-preserved : goal.loop-place-preserved
loop-place-preserved c =
    let n = c.loop-place.number in
    let i = c.loop-place._place in
    let k = c.args.count in
    let below : i < k = omega arith in
    let h = c.in_ok-number.ensures in
    record {
      same = ap (λ (m : ℕ). m * 10 ^ (k - (i + 1))) h.1 ∙ sym (zeros_step n i k below) ∙ c.loop-place.invariant.same;
      small = omega (arith, h.0, h.1);
    }
