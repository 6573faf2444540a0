use Rattle.std.proofs.Common.{◌∙◌, sym, arith}
use Rattle.yv_values.proofs.KeyOrder.{ended}
use Rattle.yv_values.proofs.key.compare_numbers.Goals as goal

pub returns : goal.returns
returns c =
    let out = c.loop-i-test.false in
    c.cmp.ensures ∙ ended c.args.one.now c.args.other.now c.loop-i.i (omega (arith, c.min-i-end.ensures, c.loop-i.auto.i-end, out)) ∙ sym c.loop-i.invariant
