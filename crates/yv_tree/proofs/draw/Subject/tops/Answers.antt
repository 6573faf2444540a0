use Rattle.yv_nodes.specs.Rows.{root}
use Rattle.yv_schema_tables.specs.Sound.{IsChild}
use Rattle.yv_tree.specs.Diagram.{is_top}
use Rattle.yv_tree.proofs.FilterLoop.{found_all, found_each}
use Rattle.yv_tree.proofs.draw.Subject.tops.Goals as goal

pub returns-clause-children : goal.returns-clause-children
returns-clause-children c =
    let s = c.args.self.now.schema.now in
    let p = is_top s c.args.self.now.own c.args.part in
    let items = c.children-id-items.result.now in
    let all = found_all p c.loop-id.found.items items c.loop-id.id-index c.loop-id-test.false c.loop-id.invariant in
    found_each p (IsChild s root) c.loop-id.found.items items all c.children-id-items.ensures.each

pub returns-clause-trees : goal.returns-clause-trees
returns-clause-trees c =
    let s = c.args.self.now.schema.now in
    let p = is_top s c.args.self.now.own c.args.part in
    let items = c.children-id-items.result.now in
    let all = found_all p c.loop-id.found.items items c.loop-id.id-index c.loop-id-test.false c.loop-id.invariant in
    c.children_are_trees.ensures s root c.loop-id.found.items c.children-id-items.ensures.sound
    (found_each p (IsChild s root) c.loop-id.found.items items all c.children-id-items.ensures.each)
