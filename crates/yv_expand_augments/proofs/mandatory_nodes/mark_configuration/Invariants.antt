use Rattle.std.proofs.Common.{◌≡◌, ◌++◌, drop}
use Rattle.yv_expand_augments.specs.MandatoryNodes.{nothing_around, told_in}
use Rattle.yv_expand_augments.specs.InnerMandatoryNodes.{AreShallow, around_marks, configuration_marks}
use Rattle.yv_base_graph.specs.Marks.{is_marked}
use Rattle.yv_expand_augments.proofs.mandatory_nodes.mark_configuration.Given as goal

abbrev pub invariant-loop-row : goal.invariant-loop-row
invariant-loop-row l =
    AreShallow l.tree → l.places.items ++ configuration_marks l.spots (told_in l.marks) (around_marks (is_marked l.states.items) (is_marked l.operations.items)) (drop l.row-index l.tree)
    ≡ configuration_marks l.spots (told_in l.marks) (λ d. nothing_around) l.tree
