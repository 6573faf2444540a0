use Rattle.yv_lint.proofs.UseSets.{use_added}
use Rattle.yv_lint.proofs.use_set.UseSet.insert.Goals as goal

pub returns : goal.returns
returns c = use_added c.args.self.now _ c.args.name c.args.number c.in_ok-insert.ensures.updates
