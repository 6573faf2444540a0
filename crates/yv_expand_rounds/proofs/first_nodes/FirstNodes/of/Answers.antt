use Rattle.std.proofs.Common.{◌≤◌, ℕ, List, arith, length, subst, sym, take}
use Rattle.std.proofs.lemmas.List.{take_all, take_more}
use Rattle.yv_expand_rounds.specs.InnerFirstNodes.{AreFirst}
use Rattle.yv_expand_rounds.proofs.first_nodes.FirstNodes.of.Goals as goal

pub loop-item-preserved : goal.loop-item-preserved
loop-item-preserved c =
    subst (λ (items : List ℕ). AreFirst c.args.labels.now items c.note.new.self) (sym (take_more c.args.items.now c.loop-item.item-index 0 c.loop-item-test.true))
    (c.in_ok-note.ensures.notes (take c.loop-item.item-index c.args.items.now) c.loop-item.invariant)

pub returns : goal.returns
returns c =
    let past : length c.args.items.now ≤ c.loop-item.item-index = omega (arith, c.loop-item-test.false) in
    subst (λ (items : List ℕ). AreFirst c.args.labels.now items c.loop-item.nodes) (take_all c.loop-item.item-index c.args.items.now past) c.loop-item.invariant
