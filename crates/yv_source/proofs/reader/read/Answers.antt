use Rattle.std.proofs.Common.{◌+◌, arith, ap, length}
use Rattle.std.specs.Prelude.{reverse}
use Rattle.yv_source.proofs.LineCounts.{counted_start, counted_on}
use Rattle.yv_source.proofs.Gaps.{gap_read}
use Rattle.yv_source.proofs.Loop as loop
use Rattle.yv_source.proofs.reader.read.Goals as goal

pub loop-stack-init : goal.loop-stack-init
loop-stack-init c = (
  loop.starts c.args.text.now c.args.start c.new-stack.result.items c.utf8.text c.requires.start c.new-stack.ensures.items,
  counted_start c.args.text.now c.args.start _ c.new-lines.ensures,
)

pub look_ahead-requires : goal.look_ahead-requires
look_ahead-requires c = loop.within c.as_bytes-bytes.ensures.value c.loop-stack.invariant.0

pub at_end-requires-clause-at : goal.at_end-requires-clause-at
at_end-requires-clause-at c = loop.within c.as_bytes-bytes.ensures.value c.loop-stack.invariant.0

pub at_end-requires-clause-bad : goal.at_end-requires-clause-bad
at_end-requires-clause-bad c = loop.bad_bound c.as_bytes-bytes.ensures.value c.loop-stack.invariant.0

pub refuse-requires : goal.refuse-requires
refuse-requires c = loop.within c.as_bytes-bytes.ensures.value c.loop-stack.invariant.0

pub refusal_of_halt-requires : goal.refusal_of_halt-requires
refusal_of_halt-requires c = loop.within c.as_bytes-bytes.ensures.value c.loop-stack.invariant.0

pub returns-in-End : goal.returns-in-End
returns-in-End c = loop.comes_end c.as_bytes-bytes.ensures.value c.loop-stack.invariant.0 c.look_ahead.ensures _ c.in-End.is c.at_end.ensures

pub returns-in-Nothing : goal.returns-in-Nothing
returns-in-Nothing c = loop.comes_nothing c.as_bytes-bytes.ensures.value c.loop-stack.invariant.0 c.look_ahead.ensures _ c.in-Nothing.is c.refuse.ensures

pub turn-requires-clause-within : goal.turn-requires-clause-within
turn-requires-clause-within c =
    let w = loop.within c.as_bytes-bytes.ensures.value c.loop-stack.invariant.0 in
    omega (arith, w, ap length c.as_bytes-bytes.ensures.value)

pub turn-requires-clause-from : goal.turn-requires-clause-from
turn-requires-clause-from c = loop.lower_bound c.as_bytes-bytes.ensures.value c.loop-stack.invariant.0 c.look_ahead.ensures c.in-Piece.is

pub turn-requires-clause-to : goal.turn-requires-clause-to
turn-requires-clause-to c = loop.upper_bound c.as_bytes-bytes.ensures.value c.loop-stack.invariant.0 c.look_ahead.ensures c.in-Piece.is

pub returns-in-Err : goal.returns-in-Err
returns-in-Err c =
    loop.comes_halt c.as_bytes-bytes.ensures.value c.loop-stack.invariant.0 c.look_ahead.ensures c.in-Piece.is _ _ (reverse c.turn.new.stack.items) c.in-Err.ensures.gives c.refusal_of_halt.ensures

pub bad_found-bad-requires-clause-finds : goal.bad_found-bad-requires-clause-finds
bad_found-bad-requires-clause-finds c = loop.fits_in c.as_bytes-bytes.ensures.value c.loop-stack.invariant.0 c.look_ahead.ensures c.in-Piece.is

pub bad_found-bad-requires-clause-so_far : goal.bad_found-bad-requires-clause-so_far
bad_found-bad-requires-clause-so_far c = loop.bad_bound c.as_bytes-bytes.ensures.value c.loop-stack.invariant.0

pub length-requires : goal.length-requires
length-requires c =
    let f = loop.fits_in c.as_bytes-bytes.ensures.value c.loop-stack.invariant.0 c.look_ahead.ensures c.in-Piece.is in
    omega (arith, f, c.requires.size, ap length c.as_bytes-bytes.ensures.value)

pub overflow_add-end : goal.overflow_add-end
overflow_add-end c =
    let f = loop.fits_in c.as_bytes-bytes.ensures.value c.loop-stack.invariant.0 c.look_ahead.ensures c.in-Piece.is in
    let e = ap length c.as_bytes-bytes.ensures.value in
    record { fits = omega (arith, f, c.requires.size, e, c.length.ensures) }

pub past_gap-at-requires : goal.past_gap-at-requires
past_gap-at-requires c =
    let f = loop.fits_in c.as_bytes-bytes.ensures.value c.loop-stack.invariant.0 c.look_ahead.ensures c.in-Piece.is in
    omega (arith, f, c.length.ensures)

pub loop-stack-smaller : goal.loop-stack-smaller
loop-stack-smaller c =
    let end = loop.read_to c.as_bytes-bytes.ensures.value c.loop-stack.invariant.0 c.look_ahead.ensures c.in-Piece.is
    (c.loop-stack.at + c.length.result) _ _ (reverse c.turn.new.stack.items) _ (ap (λ n. c.loop-stack.at + n) c.length.ensures) c.bad_found-bad.ensures.place c.bad_found-bad.ensures.within c.past-before.ensures c.in-Ok.ensures.gives
    in
    let f = loop.fits_in c.as_bytes-bytes.ensures.value c.loop-stack.invariant.0 c.look_ahead.ensures c.in-Piece.is in
    let g = loop.goes_on c.as_bytes-bytes.ensures.value c.loop-stack.invariant.0 c.look_ahead.ensures c.in-Piece.is in
    let e = ap length c.as_bytes-bytes.ensures.value in
    let q = gap_read _ c.as_bytes-bytes.ensures.value end _ c.past_gap-at.ensures in
    omega (arith, f, g, e, c.length.ensures, q.1)

pub loop-stack-preserved : goal.loop-stack-preserved
loop-stack-preserved c =
    let end = loop.read_to c.as_bytes-bytes.ensures.value c.loop-stack.invariant.0 c.look_ahead.ensures c.in-Piece.is
    (c.loop-stack.at + c.length.result) _ _ (reverse c.turn.new.stack.items) _ (ap (λ n. c.loop-stack.at + n) c.length.ensures) c.bad_found-bad.ensures.place c.bad_found-bad.ensures.within c.past-before.ensures c.in-Ok.ensures.gives
    in
    let q = gap_read _ c.as_bytes-bytes.ensures.value end _ c.past_gap-at.ensures in
    (q.0, counted_on c.args.text.now _ c.loop-stack.at _ (omega (arith, q.1)) c.in-Ok.ensures.counts)
