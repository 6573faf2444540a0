use Rattle.std.proofs.Common.{arith, refl}
use Rattle.yv_expand_statements.specs.FileOrder.{marks_of, order_of}
use Rattle.yv_expand_tree.proofs.GivenFiles.{all_within, order_once}
use Rattle.yv_expand_tree.proofs.Finals.{left_within}
use Rattle.yv_expand_tree.proofs.laws.nodes_are_within_units.Goals as goal

pub returns : goal.returns
returns c = λ choice files truth f nodes units is are weigh. (
    let few = left_within choice files truth f is c.items_stand_once.ensures c.a_tree_has_no_item_twice.ensures.count nodes are in
    let all = c.a_whole_is_within_units.ensures files (marks_of choice files) (order_of choice files) is.own units f.items is.expanded
    (all_within choice files (order_of choice files) refl) (order_once choice files) weigh in
    omega (arith, few, all))
