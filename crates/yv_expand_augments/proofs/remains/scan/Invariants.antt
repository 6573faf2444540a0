use Rattle.std.proofs.Common.{◌≡◌, ◌++◌, drop, None}
use Rattle.yv_expand_augments.specs.Remains.{is_left}
use Rattle.yv_expand_augments.specs.InnerRemains.{scan}
use Rattle.yv_expand_augments.proofs.remains.scan.Given as goal

abbrev pub invariant-loop-row : goal.invariant-loop-row
invariant-loop-row l = l.rows.items ++ scan (is_left l.spots l.marks) l.cut (drop l.row-index l.tree) ≡ scan (is_left l.spots l.marks) None l.tree
