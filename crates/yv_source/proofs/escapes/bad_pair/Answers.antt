use Rattle.std.proofs.Common.{◌+◌, sym, ◌∙◌}
use Rattle.std.proofs.lemmas.List.{take_rest}
use Rattle.yv_source.proofs.Pairs.{pairs_on, pairs_end, pairs_bad, pairs_past}
use Rattle.yv_source.proofs.escapes.bad_pair.Goals as goal

pub returns-then-at-bytes-clause-place : goal.returns-then-at-bytes-clause-place
returns-then-at-bytes-clause-place c =
    let xs = c.args.bytes.now in
    let here = pairs_on xs _ c.loop-at.at c.first_byte-at.result c.loop-at.invariant (take_rest xs c.loop-at.at) c.first_byte-at.ensures.value in
    pairs_end xs (c.loop-at.at + c.first_byte-at.result) here c.if-at-bytes.true

pub returns-then-not-begins_escape-clause-place : goal.returns-then-not-begins_escape-clause-place
returns-then-not-begins_escape-clause-place c =
    let xs = c.args.bytes.now in
    let at = c.loop-at.at + c.first_byte-at.result in
    let here = pairs_on xs _ c.loop-at.at c.first_byte-at.result c.loop-at.invariant (take_rest xs c.loop-at.at) c.first_byte-at.ensures.value in
    pairs_bad xs _ at here c.if-at-bytes.false (take_rest xs (at + 1)) (sym c.begins_escape.ensures ∙ c.if-not-begins_escape.true)

pub loop-at-preserved : goal.loop-at-preserved
loop-at-preserved c =
    let xs = c.args.bytes.now in
    let at = c.loop-at.at + c.first_byte-at.result in
    let here = pairs_on xs _ c.loop-at.at c.first_byte-at.result c.loop-at.invariant (take_rest xs c.loop-at.at) c.first_byte-at.ensures.value in
    pairs_past xs _ at here c.if-at-bytes.false (take_rest xs (at + 1)) (sym c.begins_escape.ensures ∙ c.if-not-begins_escape.false)
