use Rattle.std.proofs.Common.{length, nat_lt, ap, ◌∙◌}
use Rattle.yv_walk.proofs.NonEmptyArrays.{filled}
use Rattle.yv_walk.proofs.exists.any_item.Goals as goal

pub returns : goal.returns
returns c = ap (λ vs. nat_lt 0 (length vs)) c.as_slice.ensures.value ∙ filled c.args.items.now.items
