use Rattle.std.proofs.Common.{◌≡◌, ◌++◌, drop}
use Rattle.yv_link_scopes.specs.Views.{rows_in, trees_in}
use Rattle.yv_link.specs.LinkedFiles.{truth_in}
use Rattle.yv_expand_changes.specs.IfFeatures.{marks_of}
use Rattle.yv_expand_changes.proofs.if_features.statement_marks.Given as goal

abbrev pub invariant-loop-number : goal.invariant-loop-number
invariant-loop-number l =
    l.marks.items ++ marks_of (truth_in l.linked) (drop l.number (rows_in l.rows)) (drop l.number (trees_in l.rows)) ≡ marks_of (truth_in l.linked) (rows_in l.rows) (trees_in l.rows)
