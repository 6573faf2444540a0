use Rattle.yv_link_scopes.specs.Views.{files_in, rows_in}
use Rattle.yv_type_chains.specs.InnerOrder.{IsOrderOfAll}
use Rattle.yv_type_chains.proofs.TypeSubsequence.{AreSifted}
use Rattle.yv_type_chains.proofs.draft.Draft.types_only.Given as goal

abbrev pub invariant-loop-number : goal.invariant-loop-number
invariant-loop-number l =
    IsOrderOfAll (files_in l.self.rows.now) (rows_in l.self.rows.now) l.order
    → AreSifted (files_in l.self.rows.now) (rows_in l.self.rows.now) l.order l.number-index l.types.items
