use Rattle.std.proofs.Common.{◌∙◌, ap, ◌++◌, ◌∷◌, [], None, arith}
use Rattle.yv_expand_rounds.proofs.Empty.{replicate_more, replicate_all}
use Rattle.yv_expand_rounds.proofs.augmentation.no_ends.Goals as goal

pub loop-preserved : goal.loop-preserved
loop-preserved c = c.in_ok-push.ensures.items ∙ ap (λ l. l ++ None ∷ []) c.loop.invariant ∙ replicate_more c.loop.counter

pub returns : goal.returns
returns c = replicate_all c.loop.counter c.args.count c.loop.ends.items (omega arith) c.loop.invariant
