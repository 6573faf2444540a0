use Rattle.std.proofs.Common.{◌≡◌, map, take}
use Rattle.std.specs.List.{list_all}
use Rattle.yv_base_graph.specs.Marks.{is_marked}
use Rattle.yv_expand_changes.proofs.if_features.sequence_marks.Given as goal

abbrev pub invariant-loop-sequence : goal.invariant-loop-sequence
invariant-loop-sequence l = l.marks.items ≡ map (list_all (is_marked l.statements)) (take l.sequence l.changes.sequences)
