use Rattle.std.proofs.Common.{subst, sym, arith}
use Rattle.yv_expand_refines.specs.Targets.{targets_at}
use Rattle.yv_expand_changes.specs.InnerRefusals.{IsJudged}
use Rattle.yv_expand_changes.proofs.refusals.nothing_judged.Goals as goal

pub returns : goal.returns
returns c = λ files. record {
  each = omega (arith, c.loop.invariant.each, c.loop-test.false, c.loop.auto.index-end);
  are = λ p j at. subst (IsJudged files (targets_at c.args.refine_targets.now p)) (sym (c.loop.invariant.are p j at)) tt;
}
