use Rattle.std.proofs.Common.{sym, ◌∙◌}
use Rattle.yv_nodes.specs.declared.node.NodeId.{NodeId}
use Rattle.yv_validate.specs.InnerNotes.{noted_at}
use Rattle.yv_validate.specs.Values.{all_values}
use Rattle.yv_validate.proofs.NoteGrowth.{parts_step, parts_stop}
use Rattle.yv_data_quiet.proofs.Leafs.{named_leafs}
use Rattle.yv_validate.proofs.notes.Notes.values.Goals as goal

pub returns-in-None : goal.returns-in-None
returns-in-None c =
    let f = noted_at c.args.schema.now c.args.self.now in
    let ids = c.args.leafs.now in
    let d : NodeId = record { 0 = 0 } in
    let i = c.loop-leaf.leaf-index in
    parts_stop f c.loop-leaf.tuple ids i d (all_values f (named_leafs ids)) c.loop-leaf-test.true (sym c.in_ok-value.ensures ∙ c.in-None.is) c.loop-leaf.invariant

pub loop-leaf-preserved : goal.loop-leaf-preserved
loop-leaf-preserved c =
    let f = noted_at c.args.schema.now c.args.self.now in
    let ids = c.args.leafs.now in
    let d : NodeId = record { 0 = 0 } in
    let i = c.loop-leaf.leaf-index in
    parts_step f c.loop-leaf.tuple c.push.new.self c.in-Some.value ids i d (all_values f (named_leafs ids)) c.loop-leaf-test.true
    c.in_ok-push-in-Some.ensures (sym c.in_ok-value.ensures ∙ c.in-Some.is) c.loop-leaf.invariant
