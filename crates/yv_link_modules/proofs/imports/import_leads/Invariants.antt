use Rattle.yv_link_modules.proofs.ImportWays.{AreRows}
use Rattle.yv_link_modules.proofs.imports.import_leads.Given as goal

abbrev pub invariant-loop-module : goal.invariant-loop-module
invariant-loop-module l = AreRows l.graph.items l.module l.leads.items
