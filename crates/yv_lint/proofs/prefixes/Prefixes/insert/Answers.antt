use Rattle.yv_lint.proofs.PrefixSets.{adds_one}
use Rattle.yv_lint.proofs.prefixes.Prefixes.insert.Goals as goal

pub returns : goal.returns
returns c = adds_one c.args.self.now _ c.args.prefix c.in_ok-insert.ensures.updates
