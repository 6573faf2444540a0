use Rattle.yv_validate.proofs.IndexContents.{tells_none, tells_some}
use Rattle.yv_validate.proofs.memory.stood_before.Goals as goal

pub returns-in-None-clause-tells : goal.returns-in-None-clause-tells
returns-in-None-clause-tells c = rw c.in-None.is (tells_none c.args.kept.now c.args.place)

pub returns-in_ok-keep_first-in-Some-clause-tells : goal.returns-in_ok-keep_first-in-Some-clause-tells
returns-in_ok-keep_first-in-Some-clause-tells c =
    rw c.in-Some.is (tells_some c.args.kept.now c.keep_first.new.self c.in-Some.key c.in_ok-keep_first-in-Some.field-0 c.args.place c.in_ok-keep_first-in-Some.ensures.least (rw c.in_ok-keep_first-in-Some.was at c.keep_first.ensures.keeps))
