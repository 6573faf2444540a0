use Rattle.std.proofs.Common.{IsTrue, subst}
use Rattle.yv_lint.proofs.UseSets.{Between, between_is, forward}
use Rattle.yv_lint.proofs.use_set.UseSet.has_between.Goals as goal

pub range-requires : goal.range-requires
range-requires c = forward c.as_bytes-name.result.now c.args.start c.args.end c.if-start-end.true

pub returns-then-start-end : goal.returns-then-start-end
returns-then-start-end c =
    subst (λ name. (IsTrue c.is_some.result → Between c.args.self.now name c.args.start c.args.end) × (Between c.args.self.now name c.args.start c.args.end → IsTrue c.is_some.result)) c.as_bytes-name.ensures.value
    (between_is c.args.self.now c.as_bytes-name.result c.args.start c.args.end c.range.result c.next.new.self c.next.result c.is_some.result (c.range.ensures.in_range tt) c.next.ensures.steps c.is_some.ensures)
