use Rattle.std.proofs.Common.{◌≡◌, ◌<◌, ◌≤◌, ◌-◌, [], drop, get_or, length, sym, ap, subst, arith}
use Rattle.std.proofs.lemmas.List.{drop_all}
use Rattle.yv_nodes.specs.declared.node.NodeId.{NodeId}
use Rattle.yv_nodes.specs.Rows.{Row, blank_row}
use Rattle.std.specs.List.{slice_index_or}
use Rattle.yv_schema_tables.specs.InnerSits.{inner_of}
use Rattle.yv_schema_tables.proofs.PickedTrees.{IsStep, left_of, left_start, opening_all, opening_first, opening_more, step}
use Rattle.yv_schema_tables.proofs.data_children.DataChildren.+add.Goals as goal

pub loop-number-init : goal.loop-number-init
loop-number-init t c = opening_first c.args.nodes.now.rows c.args.numbers.now c.args.self.now.inside.items c.args.self.now.told.items c.requires

pub get-node-requires : goal.get-node-requires
get-node-requires t c =
    let rows = c.args.nodes.now.rows in
    let cs = c.args.numbers.now in
    let i = c.loop-number.number-index in
    let d : NodeId = record { 0 = 0 } in
    let rest = c.loop-number.invariant.rest in
    let own : IsStep rows cs i rest.at rest.trees (get_or cs i d) (slice_index_or rows (get_or cs i d).0 blank_row) = step rows cs i d rest c.loop-number-test.true in
    omega (arith, own.number, own.within)

pub add-requires : goal.add-requires
add-requires t c =
    let rows = c.args.nodes.now.rows in
    let cs = c.args.numbers.now in
    let i = c.loop-number.number-index in
    let d : NodeId = record { 0 = 0 } in
    let rest = c.loop-number.invariant.rest in
    let row : c.get-node.result.now ≡ slice_index_or rows (get_or cs i d).0 blank_row = c.get-node.ensures in
    let own : IsStep rows cs i rest.at rest.trees (get_or cs i d) c.get-node.result.now =
    subst (λ (r : Row). IsStep rows cs i rest.at rest.trees (get_or cs i d) r) (sym row) (step rows cs i d rest c.loop-number-test.true) in
    let first : length rows - rest.at ≤ left_of rows cs = left_start rows cs i rest.at c.loop-number-test.true c.loop-number.invariant.behind in
    let is : c.inner.result.now ≡ inner_of c.get-node.result.now = c.inner.ensures in
    let smaller : left_of rows c.inner.result.now < t = omega (arith, ap (left_of rows) is, own.later, first, c.decreases) in
    (smaller, rw is own.inner)

pub loop-number-preserved : goal.loop-number-preserved
loop-number-preserved t c =
    let rows = c.args.nodes.now.rows in
    let cs = c.args.numbers.now in
    let i = c.loop-number.number-index in
    let d : NodeId = record { 0 = 0 } in
    opening_more rows cs i d _ _ c.loop-number.self.inside.items c.loop-number.self.told.items c.note.new.self.inside.items c.note.new.self.told.items c.add.new.self.inside.items c.add.new.self.told.items
    c.get-node.result.now c.loop-number.invariant c.loop-number-test.true c.get-node.ensures c.in_ok-note.ensures.inside c.in_ok-note.ensures.tells
    (rw c.inner.ensures at c.in_ok-add.ensures.inside) (rw c.inner.ensures at c.in_ok-add.ensures.tells)

pub returns-clause-inside : goal.returns-clause-inside
returns-clause-inside t c =
    let none : drop c.loop-number.number-index c.args.numbers.now ≡ [] = drop_all c.loop-number.number-index c.args.numbers.now (omega arith) in
    (opening_all c.args.nodes.now.rows c.args.numbers.now _ _ _ _ c.loop-number.number-index none c.loop-number.invariant).0

pub returns-clause-tells : goal.returns-clause-tells
returns-clause-tells t c =
    let none : drop c.loop-number.number-index c.args.numbers.now ≡ [] = drop_all c.loop-number.number-index c.args.numbers.now (omega arith) in
    (opening_all c.args.nodes.now.rows c.args.numbers.now _ _ _ _ c.loop-number.number-index none c.loop-number.invariant).1
