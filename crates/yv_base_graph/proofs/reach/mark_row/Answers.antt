use Rattle.std.proofs.Common.{ap, sym, ◌∙◌, arith}
use Rattle.std.proofs.lemmas.List.{take_more}
use Rattle.yv_base_graph.proofs.RowMarks.{marks_seen, marks_new}
use Rattle.yv_base_graph.proofs.reach.mark_row.Goals as goal
use Rattle.yv_base_graph.proofs.reach.mark_row.Goals.{then-not-known+in_ok-push, else-not-known}

pub loop-node-preserved : goal.loop-node-preserved
loop-node-preserved c =
    elim c.if-not-known.branch [
      | then-not-known+in_ok-push w ↦
          marks_new _ _ _ _ _ _ _ _ _ c.loop-node.invariant (omega (arith, c.requires c.loop-node.node-index 0 c.loop-node-test.true, c.loop-node.invariant.each)) (sym (rw w.if-not-known.true at c.index-known.ensures)) (take_more _ _ 0 c.loop-node-test.true) (ap (λ v. v.items) w.marks-is) (ap (λ v. v.items) w.found-is ∙ w.in_ok-push.ensures.items)
      | else-not-known w ↦
          marks_seen _ _ _ _ _ _ _ _ _ c.loop-node.invariant (omega (arith, c.requires c.loop-node.node-index 0 c.loop-node-test.true, c.loop-node.invariant.each)) (sym (rw w.if-not-known.false at c.index-known.ensures)) (take_more _ _ 0 c.loop-node-test.true) (ap (λ v. v.items) w.marks-is) (ap (λ v. v.items) w.found-is)
    ]
