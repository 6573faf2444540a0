use Rattle.std.proofs.Common.{length}
use Rattle.yv_link_scopes.specs.Views.{files_in, rows_in}
use Rattle.yv_expand.specs.InnerItems.{is_wanted, top_place}
use Rattle.yv_expand.proofs.StatementPlaces.{Placing}
use Rattle.yv_expand.proofs.lists.of_files.Given as goal

abbrev pub invariant-loop-number : goal.invariant-loop-number
invariant-loop-number l = Placing (top_place (is_wanted l.wanted) (files_in l.rows)) (rows_in l.rows) (length (files_in l.rows)) l.number l.lists.items
