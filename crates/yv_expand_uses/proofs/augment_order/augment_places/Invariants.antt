use Rattle.std.proofs.Common.{◌≡◌, map, take, if◌then◌else◌, Some, None}
use Rattle.yv_link_scopes.specs.Views.{rows_in}
use Rattle.yv_expand_statements.specs.StatementBlocks.{is_augment}
use Rattle.yv_expand_uses.proofs.augment_order.augment_places.Given as goal

abbrev pub invariant-loop-entry : goal.invariant-loop-entry
invariant-loop-entry l = map (λ r. if is_augment r then Some r.scope else None) (take l.entry-index (rows_in l.rows)) ≡ l.places.items
