use Rattle.yv_run.proofs.BatchLemmas.{answers_as, fails_as, goes_on, over_of_all}
use Rattle.yv_run.proofs.batch_run.answer_documents.Goals as goal

pub returns-clause-answers : goal.returns-clause-answers
returns-clause-answers g c = record {
  end = c.answer_all-end.result;
  answers = answers_as c.args.job.now.output c.args.job.now.kind c.args.schema _ _ _ c.answer_all-end.result _ _ _ _ c.in_ok-answer.ensures.text c.in_ok-answer.ensures.total c.in_ok-answer.ensures.level c.answer_all-end.ensures.answers;
  ends = c.of_batch.ensures;
  over = over_of_all c.answer_all-end.result _ c.answer_all-end.ensures.over;
}

pub returns-clause-ends : goal.returns-clause-ends
returns-clause-ends g c = goes_on c.answer_all-end.result c.of_batch.result c.of_batch.ensures

pub returns-clause-write_fault : goal.returns-clause-write_fault
returns-clause-write_fault g c = fails_as c.answer_all-end.result c.of_batch.result _ c.of_batch.ensures c.answer_all-end.ensures.fault
