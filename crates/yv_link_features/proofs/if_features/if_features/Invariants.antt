use Rattle.yv_link_scopes.specs.Views.{rows_in}
use Rattle.yv_link_features.specs.InnerGraph.{ListsUpTo}
use Rattle.yv_link_features.proofs.if_features.if_features.Given as goal

abbrev pub invariant-loop-number : goal.invariant-loop-number
invariant-loop-number l = ListsUpTo (rows_in l.rows) l.number l.lists.items
