use Rattle.std.proofs.Common.{Some, ◌∙◌, ap, sym}
use Rattle.yv_expand_rounds.proofs.FirstNodeLemmas.{named_taken, other_taken}
use Rattle.yv_expand_rounds.proofs.first_nodes.first_among.Goals.{then-is_named, else-is_named}
use Rattle.yv_expand_rounds.proofs.first_nodes.first_among.Goals as goal

pub loop-item-preserved : goal.loop-item-preserved
loop-item-preserved c = elim c.if-is_named.branch [
  | then-is_named w ↦
      w.first-is ∙ ap Some w.earlier.ensures
      ∙ named_taken c.args.labels.now c.args.items.now c.loop-item.item-index c.args.name c.loop-item.first c.loop-item-test.true c.loop-item.invariant
      (sym c.is_named.ensures ∙ w.if-is_named.true)
  | else-is_named w ↦
      w.first-is
      ∙ other_taken c.args.labels.now c.args.items.now c.loop-item.item-index c.args.name c.loop-item.first c.loop-item-test.true c.loop-item.invariant
      (sym c.is_named.ensures ∙ w.if-is_named.false)
]
