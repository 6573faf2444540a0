use Rattle.std.proofs.Common.{◌≡◌, ◌++◌, drop}
use Rattle.yv_expand_refines.specs.Changes.{each}
use Rattle.yv_expand_changes.specs.IfFeatures.{item_marks}
use Rattle.yv_expand_changes.proofs.if_features.item_marks.Given as goal

abbrev pub invariant-loop-number : goal.invariant-loop-number
invariant-loop-number l =
    l.marks.items ++ item_marks l.statements (drop l.number l.spots) (drop l.number (each l.changes)) ≡ item_marks l.statements l.spots (each l.changes)
