use Rattle.std.proofs.Common.{rules, arith}
use Rattle.yv_base_streams.proofs.StreamLemmas.{gave_more, took_more}
use Rattle.yv_base_streams.proofs.stream.read_up_to.Goals as goal

pub loop-bytes-preserved : goal.loop-bytes-preserved
loop-bytes-preserved g c =
    let read = c.in_ok-read_some.ensures in
    record {
      works = search rules;
      within = omega arith;
      given = gave_more _ _ _ _ _ c.loop-bytes.invariant.given read.front read.gives;
    }

pub returns-in_err-read_some-clause-takes : goal.returns-in_err-read_some-clause-takes
returns-in_err-read_some-clause-takes g c =
    let before = c.loop-bytes.invariant in
    took_more _ _ _ _ _ c.args.limit before.given (omega (arith, c.loop-bytes.bytes.ok.0)) c.read_some.ensures.takes
