use Rattle.std.proofs.Common.{arith, ◌≡◌, ◌-◌, get_or}
use Rattle.std.proofs.lemmas.Grind.{get_or_default_zero}
use Rattle.yv_base_graph.proofs.Among.{merged}
use Rattle.yv_base_graph.proofs.search.merge.Goals as goal
use Rattle.yv_base_graph.proofs.search.merge.Goals.{then-loop-count-test+else-index-place, else-loop-count-test}

pub returns : goal.returns
returns c = merged _ _ _ c.loop-count.count c.requires c.loop-count.invariant.0 c.truncate.ensures.items c.loop-count.invariant.1 (λ lt. elim c.loop-count-test.branch [
  | then-loop-count-test+else-index-place w ↦
      let e : get_or c.args.heads.now.items (c.loop-count.count - 1) w.index.result.now ≡ get_or c.args.heads.now.items (c.loop-count.count - 1) 0 = get_or_default_zero c.args.heads.now.items (c.loop-count.count - 1) w.index.result.now (omega (arith, c.loop-count.invariant.0)) in
      omega (arith, e, w.index.ensures, w.if-index-place.false)
  | else-loop-count-test w ↦ absurd (omega (arith, w.loop-count-test.false))
])
