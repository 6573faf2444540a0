use Rattle.std.proofs.Common.{◌≡◌, ◌+◌, drop, slice_index_or}
use Rattle.std.proofs.lemmas.List.{drop_all}
use Rattle.yv_nodes.specs.declared.node.NodeId.{NodeId}
use Rattle.yv_nodes.specs.Rows.{children_of}
use Rattle.yv_data_quiet.proofs.Children.{split_at}
use Rattle.yv_data_quiet.proofs.QuietSteps.{all_left, first_left, one_more}
use Rattle.yv_data_quiet.proofs.quiet.inner_steps.Goals as goal

pub loop-child-init : goal.loop-child-init
loop-child-init c =
    let s = c.args.schema.now in
    first_left s c.children-child-items.result.now (children_of s c.args.parent) c.children-child-items.ensures.value

pub loop-child-preserved : goal.loop-child-preserved
loop-child-preserved c =
    let s = c.args.schema.now in
    let cs = c.children-child-items.result.now in
    let i = c.loop-child.child-index in
    let d : NodeId = record { 0 = 0 } in
    let n : NodeId = slice_index_or cs i d in
    let lt = c.loop-child-test.true in
    let sum : c.in_ok-total.total ≡ c.loop-child.total + c.in_ok-steps.steps = c.in_ok-total.ensures.1 in
    one_more s c.loop-child.total c.in_ok-total.total c.in_ok-steps.steps n (drop i cs) (drop (i + 1) cs) (children_of s c.args.parent)
    (split_at cs i d lt) (c.children-child-items.ensures.trees i d lt) c.in_ok-steps.ensures sum c.loop-child.invariant

pub returns-clause-quiet : goal.returns-clause-quiet
returns-clause-quiet c =
    let s = c.args.schema.now in
    let kids = c.children-child-items in
    let i = c.loop-child.child-index in
    let cs = kids.result.now in
    (all_left s c.loop-child.total (drop i cs) cs c.args.parent (drop_all i cs c.loop-child-test.false) kids.ensures.value kids.ensures.trees
    (c.child_numbers.ensures s c.args.parent kids.ensures.sound c.requires.node) c.loop-child.invariant).quiet

pub returns-clause-steps : goal.returns-clause-steps
returns-clause-steps c =
    let s = c.args.schema.now in
    let kids = c.children-child-items in
    let i = c.loop-child.child-index in
    let cs = kids.result.now in
    (all_left s c.loop-child.total (drop i cs) cs c.args.parent (drop_all i cs c.loop-child-test.false) kids.ensures.value kids.ensures.trees
    (c.child_numbers.ensures s c.args.parent kids.ensures.sound c.requires.node) c.loop-child.invariant).steps
