use Rattle.std.proofs.Common.{◌≡◌, ◌++◌, false, Ok, take, rules}
use Rattle.yv_batch.specs.PiecesLeft.{left_of, pending_of}
use Rattle.yv_batch.proofs.PieceLemmas.{goes_on, is_over, passes_ended, passes_last, underway_kept, underway_more, underway_start}
use Rattle.yv_batch.proofs.pieces.Pieces.pass_rest.Goals as goal

pub loop-init : goal.loop-init
loop-init g c = record { part = _; underway = underway_start c.args.end (left_of g.R.Read.remaining c.args.self.now) }

pub returns-then-not-branch-clause-passes : goal.returns-then-not-branch-clause-passes
returns-then-not-branch-clause-passes g c = λ start passed h more.
    let old = left_of g.R.Read.remaining c.args.self.now in
    let mid = left_of g.R.Read.remaining c.loop.self in
    let new = left_of g.R.Read.remaining c.fill.new.self in
    let part = c.loop.invariant.part in
    let none : c.fill.result ≡ Ok false = search rules in
    let on = underway_kept c.args.end old mid new part c.loop.invariant.underway c.in_ok-fill.ensures.keeps in
    record {
      piece = passed ++ part;
      passes = passes_last c.args.end start new (passed ++ part) (underway_more c.args.end start old new passed part h on.lacks on.consumed) (c.fill.ensures.end none) more;
    }

pub returns-then-pass_part-clause-passes : goal.returns-then-pass_part-clause-passes
returns-then-pass_part-clause-passes g c = λ start passed h more.
    let old = left_of g.R.Read.remaining c.args.self.now in
    let mid = left_of g.R.Read.remaining c.loop.self in
    let full = left_of g.R.Read.remaining c.fill.new.self in
    let new = left_of g.R.Read.remaining c.pass_part.new.self in
    let part = c.loop.invariant.part in
    let last = take c.count_before-count.result (pending_of c.fill.new.self) in
    let on = underway_kept c.args.end old mid full part c.loop.invariant.underway c.in_ok-fill.ensures.keeps in
    record {
      piece = (passed ++ part) ++ last;
      passes = passes_ended c.args.end start full new (passed ++ part) last (underway_more c.args.end start old full passed part h on.lacks on.consumed) c.count_before-count.ensures.lacks
          (is_over c.args.end full new last c.pass_part.result c.if-pass_part.true c.pass_part.ensures);
    }

pub loop-preserved : goal.loop-preserved
loop-preserved g c =
    let old = left_of g.R.Read.remaining c.args.self.now in
    let mid = left_of g.R.Read.remaining c.loop.self in
    let full = left_of g.R.Read.remaining c.fill.new.self in
    let new = left_of g.R.Read.remaining c.pass_part.new.self in
    let part = c.loop.invariant.part in
    let last = take c.count_before-count.result (pending_of c.fill.new.self) in
    let on = underway_kept c.args.end old mid full part c.loop.invariant.underway c.in_ok-fill.ensures.keeps in
    record {
      part = part ++ last;
      underway = underway_more c.args.end old full new part last on c.count_before-count.ensures.lacks (goes_on c.args.end full new last c.pass_part.result c.if-pass_part.false c.pass_part.ensures);
    }
