use Rattle.yv_call.proofs.PartLemmas.{end_more, no_parts, parts_more}
use Rattle.yv_call.proofs.parts.parts_of.Goals as goal

pub returns-in-None : goal.returns-in-None
returns-in-None c =
    no_parts _ _ _ _ c.loop-end-test.true c.loop-end.invariant.last c.in-None.ensures

pub loop-end-preserved : goal.loop-end-preserved
loop-end-preserved c = record {
  are = parts_more _ _ _ _ _ _ _ c.loop-end-test.true c.loop-end.invariant.last
      c.loop-end.invariant.are c.in-Some.ensures.0 c.in-Some.ensures.1 c.in-Some.ensures.2
      c.in_ok-push-in-Some.ensures.items;
  last = end_more _ _ c.loop-end-test.true;
}
