use Rattle.std.proofs.Common.{ap, map, sym, ◌∙◌}
use Rattle.yv_nodes.specs.Rows.{below, rank}
use Rattle.yv_walk.proofs.Single.{nothing}
use Rattle.yv_walk.proofs.context.Context.empty.Goals as goal

pub returns-clause-context : goal.returns-clause-context
returns-clause-context c = λ s. record {
  values = λ n stands met. c.new.ensures n.0;
  marks = λ a stands pass. c.new-2.ensures a.0 ∙ sym (nothing (rank a) (below s a));
  unknown = ap (map (λ k. k.now)) c.new-3.ensures.items;
}
