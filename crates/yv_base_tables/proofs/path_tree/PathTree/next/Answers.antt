use Rattle.std.proofs.Common.{◌∙◌}
use Rattle.yv_base_tables.proofs.path_tree.PathTree.next.Goals as goal

pub returns-clause-all : goal.returns-clause-all
returns-clause-all c = λ paths path is on. c.copied.ensures ∙ c.get.ensures.value ∙ is.all_known c.args.front c.args.step path on
