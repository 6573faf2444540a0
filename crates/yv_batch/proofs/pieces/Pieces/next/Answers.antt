use Rattle.std.proofs.Common.{◌≡◌, false, true, Ok, rules}
use Rattle.yv_base_streams.specs.declared.stream.InputFault.TheVariants.{NoMemory}
use Rattle.yv_base_streams.specs.Stream.{stream_inner}
use Rattle.yv_batch.specs.PiecesLeft.{left_of, pending_of}
use Rattle.yv_batch.proofs.PieceLemmas.{kept_on, kept_start, more_at_hand, more_earlier, read_end, taken_all, taken_some, underway_kept}
use Rattle.yv_batch.proofs.pieces.Pieces.next.Goals as goal

pub loop-init : goal.loop-init
loop-init g c = kept_start c.args.end c.args.limit (left_of g.R.Read.remaining c.args.self.now) c.new-front.result.items c.new-front.ensures.items

pub returns-then-not-branch-clause-gives : goal.returns-then-not-branch-clause-gives
returns-then-not-branch-clause-gives g c =
    let old = left_of g.R.Read.remaining c.args.self.now in
    let new = left_of g.R.Read.remaining c.fill.new.self in
    let none : c.fill.result ≡ Ok false = search rules in
    read_end c.args.end c.args.limit old new c.loop.front.items c.some_piece.result c.requires
    (kept_on c.args.end c.args.limit old (left_of g.R.Read.remaining c.loop.self) new c.loop.front.items c.loop.invariant c.in_ok-fill.ensures.keeps) (c.fill.ensures.end none) c.some_piece.ensures

pub returns-in-Err-clause-refused : goal.returns-in-Err-clause-refused
returns-in-Err-clause-refused g c = λ error.
    let old = left_of g.R.Read.remaining c.args.self.now in
    let full = left_of g.R.Read.remaining c.fill.new.self in
    let new = left_of g.R.Read.remaining c.keep_part.new.self in
    let part = c.loop.invariant.passed in
    let some : c.fill.result ≡ Ok true = search rules in
    let on = underway_kept c.args.end old (left_of g.R.Read.remaining c.loop.self) full part c.loop.invariant.underway c.in_ok-fill.ensures.keeps in
    let refused : c.pass_over.result ≡ NoMemory = cc error in
    c.pass_over.ensures refused old part (underway_kept c.args.end old full new part on c.in-Err.ensures.same)
    (more_earlier old full part on.consumed (more_at_hand (pending_of c.fill.new.self) (g.R.Read.remaining (stream_inner c.fill.new.self.reader)) (c.fill.ensures.more some)))

pub returns-in-Ok-true-clause-gives : goal.returns-in-Ok-true-clause-gives
returns-in-Ok-true-clause-gives g c =
    let old = left_of g.R.Read.remaining c.args.self.now in
    let full = left_of g.R.Read.remaining c.fill.new.self in
    let new = left_of g.R.Read.remaining c.keep_part.new.self in
    taken_all c.args.end c.args.limit old new c.keep_part.new.front.items c.in-Ok-true.field-0 c.in-Ok-true.field-0-test
    (c.in-Ok-true.ensures.gives old (kept_on c.args.end c.args.limit old (left_of g.R.Read.remaining c.loop.self) full c.loop.front.items c.loop.invariant c.in_ok-fill.ensures.keeps))

pub loop-preserved : goal.loop-preserved
loop-preserved g c =
    let old = left_of g.R.Read.remaining c.args.self.now in
    let full = left_of g.R.Read.remaining c.fill.new.self in
    let new = left_of g.R.Read.remaining c.keep_part.new.self in
    taken_some c.args.end c.args.limit old new c.keep_part.new.front.items c.in-Ok-false.field-0 c.in-Ok-false.field-0-test
    (c.in-Ok-false.ensures.gives old (kept_on c.args.end c.args.limit old (left_of g.R.Read.remaining c.loop.self) full c.loop.front.items c.loop.invariant c.in_ok-fill.ensures.keeps))
