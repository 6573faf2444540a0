use Rattle.std.proofs.Common.{◌-◌, ◌≡◌, ◌≤◌}
use Rattle.yv_base_streams.specs.Stream.{stream_inner, has_failed}
use Rattle.yv_batch.specs.InnerBatch.{IsAnswered}
use Rattle.yv_batch.proofs.batch.answer_all.Given as goal

-- the documents that were fetched were answered, and the answer is as at the start
abbrev pub invariant-loop-tally : goal.invariant-loop-tally
invariant-loop-tally g l = record {
  answered : IsAnswered (g.A.Answer.text l.initial.answer) (g.A.Answer.level l.initial.answer) (has_failed l.writer) l.tally (g.D.Documents.left l.initial.documents) (g.D.Documents.left l.documents)
      (g.W.Write.contents (stream_inner l.initial.writer)) (g.W.Write.contents (stream_inner l.writer));
  few : l.tally.count ≤ 18446744073709551615;
  same_text : g.A.Answer.text l.answer ≡ g.A.Answer.text l.initial.answer;
  same_total : g.A.Answer.total l.answer ≡ g.A.Answer.total l.initial.answer;
  same_levels : g.A.Answer.level l.answer ≡ g.A.Answer.level l.initial.answer;
}

abbrev pub decreases-loop-tally : goal.decreases-loop-tally
decreases-loop-tally g l = 18446744073709551615 - l.tally.count
