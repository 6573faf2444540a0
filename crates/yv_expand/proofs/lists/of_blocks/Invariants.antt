use Rattle.std.proofs.Common.{length}
use Rattle.yv_link_scopes.specs.Views.{rows_in}
use Rattle.yv_expand.specs.InnerItems.{block_place, is_wanted}
use Rattle.yv_expand.proofs.StatementPlaces.{Placing}
use Rattle.yv_expand.proofs.lists.of_blocks.Given as goal

abbrev pub invariant-loop-number : goal.invariant-loop-number
invariant-loop-number l = Placing (block_place (is_wanted l.wanted)) (rows_in l.rows) (length (rows_in l.rows)) l.number l.lists.items
