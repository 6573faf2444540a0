use Rattle.std.proofs.Common.{◌≡◌, ◌++◌, drop}
use Rattle.yv_text_statement.specs.Selection.{selected_of}
use Rattle.yv_link_scopes.specs.Views.{lent_in}
use Rattle.yv_expand_statements.specs.FileOrder.{order_from, order_of, part_places}
use Rattle.yv_expand_tree.proofs.file_order.order.Given as goal

abbrev pub invariant-loop-file : goal.invariant-loop-file
invariant-loop-file l =
    l.order.items ++ order_from (selected_of l.selection) (part_places (lent_in l.rows)) l.file (drop l.file (lent_in l.rows)) ≡ order_of (selected_of l.selection) (lent_in l.rows)
