use Rattle.std.proofs.Common.{rules, arith, ◌+◌}
use Rattle.yv_base_streams.proofs.StreamLemmas.{held_more}
use Rattle.yv_base_streams.proofs.stream.write_whole.Goals as goal

pub loop-written-preserved : goal.loop-written-preserved
loop-written-preserved g c =
    let before = c.loop-written.invariant in
    let wrote = c.write_some-written.ensures in
    record {
      works = search rules;
      within = omega arith;
      held = held_more _ _ _ _ _ _ before.held before.within wrote.bound wrote.holds;
    }

pub returns-then-has_failed-clause-part : goal.returns-then-has_failed-clause-part
returns-then-has_failed-clause-part g c =
    let before = c.loop-written.invariant in
    let wrote = c.write_some-written.ensures in
    (c.loop-written.written + c.write_some-written.result, held_more _ _ _ _ _ _ before.held before.within wrote.bound wrote.holds)
