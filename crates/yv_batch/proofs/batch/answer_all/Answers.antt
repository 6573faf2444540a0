use Rattle.std.proofs.Common.{◌≤◌, ◌∙◌, refl, arith, rules}
use Rattle.std.proofs.KnownBytes.{Appends-trans}
use Rattle.yv_base_streams.specs.Stream.{stream_inner, has_failed}
use Rattle.yv_batch.specs.AskedDocument.{asked_of}
use Rattle.yv_batch.specs.Answers.{first, front}
use Rattle.yv_batch.proofs.BatchLemmas.{answer_as, answered_next, begins_as, none_of, none_yet, over_of, split_end, split_seen, takes_named, takes_none, valid_within, with_front, with_total}
use Rattle.yv_batch.proofs.batch.answer_all.Goals as goal

pub loop-tally-init : goal.loop-tally-init
loop-tally-init g c = record {
  answered = none_yet (g.A.Answer.text c.args.answer.now) (g.A.Answer.level c.args.answer.now) (has_failed c.args.writer.now) c.new-tally.result (g.D.Documents.left c.args.documents.now) (g.W.Write.contents (stream_inner c.args.writer.now)) c.requires
      c.new-tally.ensures.count c.new-tally.ensures.valid c.new-tally.ensures.level;
  few = omega (arith, c.new-tally.ensures.count);
  same_text = refl;
  same_total = refl;
  same_levels = refl;
}

pub add-requires : goal.add-requires
add-requires g c =
    let h = c.loop-tally.invariant.answered in
    let within : c.loop-tally.tally.valid ≤ c.loop-tally.tally.count = valid_within (g.A.Answer.level c.args.answer.now) h.asked c.loop-tally.tally h.counts in
    record { count = omega arith; valid = omega arith }

pub returns-then-write_total-clause-answers : goal.returns-then-write_total-clause-answers
returns-then-write_total-clause-answers g c =
    let h = c.loop-tally.invariant.answered in
    let all = split_end (g.D.Documents.left c.args.documents.now) (g.D.Documents.left c.loop-tally.documents) (g.D.Documents.left c.next.new.self) h.asked h.split
    (takes_none (g.D.Documents.left c.loop-tally.documents) (g.D.Documents.left c.next.new.self) (g.D.Documents.last_name c.next.new.self) c.next.result (none_of c.next.result (λ d e. c.in_default.not-Some d e)) c.next.ensures.fetches) in
    with_total (g.A.Answer.text c.args.answer.now) (g.A.Answer.total c.args.answer.now) (g.A.Answer.total c.loop-tally.answer) (g.A.Answer.level c.args.answer.now) (g.D.Documents.left c.args.documents.now) (g.D.Documents.left c.next.new.self)
    (g.W.Write.contents (stream_inner c.args.writer.now)) (g.W.Write.contents (stream_inner c.loop-tally.writer)) (g.W.Write.contents (stream_inner c.write_total.new.writer))
    h.asked c.loop-tally.tally c.loop-tally.invariant.same_total all h.written h.counts (c.write_total.ensures.ends c.if-write_total.true)

pub returns-then-write_total-clause-over : goal.returns-then-write_total-clause-over
returns-then-write_total-clause-over g c = λ t e. over_of (g.D.Documents.is_over c.next.new.self) c.next.result (none_of c.next.result (λ d f. c.in_default.not-Some d f)) c.next.ensures.over

pub returns-else-write_total-clause-answers : goal.returns-else-write_total-clause-answers
returns-else-write_total-clause-answers g c =
    let h = c.loop-tally.invariant.answered in
    let all = split_end (g.D.Documents.left c.args.documents.now) (g.D.Documents.left c.loop-tally.documents) (g.D.Documents.left c.next.new.self) h.asked h.split
    (takes_none (g.D.Documents.left c.loop-tally.documents) (g.D.Documents.left c.next.new.self) (g.D.Documents.last_name c.next.new.self) c.next.result (none_of c.next.result (λ d e. c.in_default.not-Some d e)) c.next.ensures.fetches) in
    let part = c.write_total.ensures.part in
    with_front (g.A.Answer.text c.args.answer.now) (g.A.Answer.total c.args.answer.now) (g.A.Answer.total c.loop-tally.answer) (g.A.Answer.level c.args.answer.now) (g.D.Documents.left c.args.documents.now) (g.D.Documents.left c.next.new.self)
    (g.W.Write.contents (stream_inner c.args.writer.now)) (g.W.Write.contents (stream_inner c.loop-tally.writer)) (g.W.Write.contents (stream_inner c.write_total.new.writer))
    h.asked c.loop-tally.tally part.0 c.loop-tally.invariant.same_total all h.written h.counts part.1

pub returns-in-None-clause-answers : goal.returns-in-None-clause-answers
returns-in-None-clause-answers g c =
    let h = c.loop-tally.invariant.answered in
    let text = g.A.Answer.text c.args.answer.now in
    let one = asked_of c.name.result.now c.in-Some.document in
    let start = g.W.Write.contents (stream_inner c.args.writer.now) in
    let old = g.W.Write.contents (stream_inner c.loop-tally.writer) in
    let new = g.W.Write.contents (stream_inner c.answer_one.new.writer) in
    let part = begins_as text (g.A.Answer.text c.loop-tally.answer) one old new c.loop-tally.invariant.same_text c.answer_one.ensures.part in
    front h.asked part.seen part.count
    (split_seen (g.D.Documents.left c.args.documents.now) (g.D.Documents.left c.loop-tally.documents) (g.D.Documents.left c.next.new.self) h.asked one part.seen h.split
    (takes_named (g.D.Documents.left c.loop-tally.documents) (g.D.Documents.left c.next.new.self) (g.D.Documents.last_name c.next.new.self) c.name.result.now c.next.result c.in-Some.document c.in-Some.is c.name.ensures c.next.ensures.fetches) part.is)
    (Appends-trans start old new _ _ h.written part.written)
    refl

pub loop-tally-preserved : goal.loop-tally-preserved
loop-tally-preserved g c =
    let h = c.loop-tally.invariant.answered in
    let text = g.A.Answer.text c.args.answer.now in
    let level = g.A.Answer.level c.args.answer.now in
    let one = asked_of c.name.result.now c.in-Some.document in
    let start = g.W.Write.contents (stream_inner c.args.writer.now) in
    let old = g.W.Write.contents (stream_inner c.loop-tally.writer) in
    let new = g.W.Write.contents (stream_inner c.answer_one.new.writer) in
    record {
      answered = answered_next text level (has_failed c.loop-tally.writer) (has_failed c.answer_one.new.writer) c.loop-tally.tally c.add.new.self
          (g.D.Documents.left c.args.documents.now) (g.D.Documents.left c.loop-tally.documents) (g.D.Documents.left c.next.new.self) start old new one c.in-Some-answer_one.level h
          (takes_named (g.D.Documents.left c.loop-tally.documents) (g.D.Documents.left c.next.new.self) (g.D.Documents.last_name c.next.new.self) c.name.result.now c.next.result c.in-Some.document c.in-Some.is c.name.ensures c.next.ensures.fetches)
          (answer_as text (g.A.Answer.text c.loop-tally.answer) level (g.A.Answer.level c.loop-tally.answer) one old new c.in-Some-answer_one.level c.loop-tally.invariant.same_text c.loop-tally.invariant.same_levels c.in-Some-answer_one.ensures.ends)
          (search rules) c.add.ensures.count c.add.ensures.valid c.add.ensures.level;
      few = omega (arith, c.add.ensures.count);
      same_text = c.answer_one.ensures.same_text ∙ c.loop-tally.invariant.same_text;
      same_total = c.answer_one.ensures.same_total ∙ c.loop-tally.invariant.same_total;
      same_levels = c.answer_one.ensures.same_levels ∙ c.loop-tally.invariant.same_levels;
    }

pub returns-clause-answers : goal.returns-clause-answers
returns-clause-answers g c =
    let h = c.loop-tally.invariant.answered in
    first h.asked h.split h.written (omega (arith, h.counts.count, c.loop-tally.invariant.few)) refl
