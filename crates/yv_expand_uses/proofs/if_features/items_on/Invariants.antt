use Rattle.yv_link_scopes.specs.Views.{rows_in}
use Rattle.yv_base_graph.specs.Marks.{is_marked}
use Rattle.yv_expand_uses.proofs.ItemMarks.{Asking}
use Rattle.yv_expand_uses.proofs.if_features.items_on.Given as goal

abbrev pub invariant-loop-number : goal.invariant-loop-number
invariant-loop-number l = Asking (rows_in l.rows) l.spots l.items (is_marked l.statements) (is_marked l.own) l.number l.marks.items
