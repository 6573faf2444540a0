use Rattle.std.proofs.Common.{ap, ◌∙◌, not, Bool, List, ◌||◌, slice_get}
use Rattle.std.specs.List.{slice_index_or}
use Rattle.std.specs.Option.{unwrap_or}
use Rattle.std.specs.Prelude.{None}
use Rattle.yv_expand_augments.specs.MandatoryNodes.{inside, is_some_operation, told_in}
use Rattle.yv_expand_augments.specs.InnerMandatoryNodes.{around_marks}
use Rattle.yv_base_graph.specs.Marks.{is_marked}
use Rattle.yv_expand_augments.proofs.ItemConfiguration.{around_entered}
use Rattle.yv_expand_augments.proofs.mandatory_nodes.enter.Goals as goal

pub returns-clause-around : goal.returns-clause-around
returns-clause-around c =
    let number = c.args.row.now.number in
    let depth = c.args.row.now.depth in
    around_entered c.args.next
    (inside c.args.spots.now (told_in c.args.marks.now) number (around_marks (is_marked c.args.states.now.items) (is_marked c.args.operations.now.items) depth))
    (is_marked c.args.states.now.items) (is_marked c.args.operations.now.items) (is_marked c.put.new.found.items) (is_marked c.put-2.new.found.items)
    c.config_inside-is_config.result c.operation_inside-in_operation.result
    (c.config_inside-is_config.ensures
    ∙ ap (λ (b : Bool). unwrap_or (slice_index_or c.args.marks.now.config.now number None) (not b))
    (c.is_marked.ensures ∙ ap (λ (l : List Bool). is_marked l depth) c.deref.ensures.value))
    (c.operation_inside-in_operation.ensures
    ∙ ap (λ (b : Bool). is_some_operation (slice_get c.args.spots.now number) || b)
    (c.is_marked-2.ensures ∙ ap (λ (l : List Bool). is_marked l depth) c.deref-2.ensures.value))
    c.in_ok-put.ensures c.in_ok-put-2.ensures
