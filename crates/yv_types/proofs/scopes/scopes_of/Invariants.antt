use Rattle.std.proofs.Common.{take}
use Rattle.yv_link_scopes.specs.Views.{files_in, rows_in}
use Rattle.yv_types.specs.InnerScopes.{AreScopesOf}
use Rattle.yv_types.proofs.scopes.scopes_of.Given as goal

abbrev pub invariant-loop-entry : goal.invariant-loop-entry
invariant-loop-entry l = AreScopesOf (files_in l.rows) (rows_in l.rows) (take l.entry-index (rows_in l.rows)) l.scopes.items
