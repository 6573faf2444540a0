use Rattle.std.proofs.Common.{◌≡◌, ◌++◌, take, drop, sym, subst}
use Rattle.yv_call.specs.Front.{front_of}
use Rattle.yv_call.proofs.FrontLemmas.{put_next}
use Rattle.yv_call.proofs.front.TextFront.push.Goals as goal

pub invariant_of-self-clause-front : goal.invariant_of-self-clause-front
invariant_of-self-clause-front c =
    let w = c.args.self.now in
    subst (λ l. c.put.new.buffer ≡ front_of l w.origin.value.bytes.now) (sym c.add.ensures)
    (put_next _ _ _ _ _ _ c.put.ensures.short w.sized w.front
    (subst (λ n. c.put.new.buffer ≡ take n w.buffer.now ++ front_of c.args.bytes.now (drop n w.buffer.now)) w.counted c.put.ensures.put))
