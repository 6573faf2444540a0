use Rattle.std.proofs.Common.{◌+◌}
use Rattle.std.proofs.lemmas.List.{take_rest}
use Rattle.yv_source.proofs.Until.{quoted_on, quoted_ends, quoted_past}
use Rattle.yv_source.proofs.scan.quote_len.Goals as goal

pub returns-then-pair-eq0 : goal.returns-then-pair-eq0
returns-then-pair-eq0 c =
    let xs = c.args.bytes.now in
    let at = c.loop-at.at + c.first_mark-at.result in
    let here = quoted_on xs _ c.loop-at.at c.first_mark-at.result c.loop-at.invariant (take_rest xs c.loop-at.at) c.first_mark-at.ensures.value in
    quoted_ends xs _ at c.pair_len-pair.result here (take_rest xs at) c.pair_len-pair.ensures.value c.if-pair-eq0.true

pub loop-at-preserved : goal.loop-at-preserved
loop-at-preserved c =
    let xs = c.args.bytes.now in
    let at = c.loop-at.at + c.first_mark-at.result in
    let here = quoted_on xs _ c.loop-at.at c.first_mark-at.result c.loop-at.invariant (take_rest xs c.loop-at.at) c.first_mark-at.ensures.value in
    quoted_past xs _ at c.pair_len-pair.result here (take_rest xs at) c.pair_len-pair.ensures.value c.if-pair-eq0.false
