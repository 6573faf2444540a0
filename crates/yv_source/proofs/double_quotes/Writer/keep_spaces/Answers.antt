use Rattle.std.proofs.Common.{◌≡◌, suc, ◌+◌, ◌-◌, arith, sym, ap, ◌∙◌}
use Rattle.yv_source.specs.Inner.Writer.{keep_spaces}
use Rattle.yv_source.proofs.double_quotes.Writer.keep_spaces.Goals as goal

pub loop-preserved : goal.loop-preserved
loop-preserved c =
    let n : c.args.count - c.loop.counter ≡ suc (c.args.count - (c.loop.counter + 1)) = omega arith in
    ap (keep_spaces (c.args.count - (c.loop.counter + 1))) c.in_ok-keep.ensures ∙ sym (ap (λ k. keep_spaces k c.loop.self) n) ∙ c.loop.invariant
