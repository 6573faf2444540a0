use Rattle.yv_link_scopes.specs.Views.{files_in, rows_in}
use Rattle.yv_link_modules.specs.InnerImports.{AreImports}
use Rattle.yv_link_modules.proofs.ImportWays.{IsBare}
use Rattle.yv_link_modules.proofs.imports.import_graph.Given as goal

abbrev pub invariant-loop : goal.invariant-loop
invariant-loop l = IsBare l.index l.graph.items

abbrev pub invariant-loop-entry : goal.invariant-loop-entry
invariant-loop-entry l = AreImports (files_in l.rows) (rows_in l.rows) l.entry-index l.graph.items
