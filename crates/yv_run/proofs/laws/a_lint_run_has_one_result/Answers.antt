use Rattle.yv_run.proofs.OneOutput.{one_result}
use Rattle.yv_run.proofs.laws.a_lint_run_has_one_result.Goals as goal

pub returns : goal.returns
returns c = one_result (record {
  bad = c.a_bad_file_is_refused_once.ensures.once;
  legal = c.a_bad_file_is_refused_once.ensures.not_legal;
  spelled = c.a_text_is_spelled_or_refused_once.ensures.spells;
  refused = c.a_text_is_spelled_or_refused_once.ensures.refuses;
  apart = c.a_text_is_spelled_or_refused_once.ensures.not_both;
  schema = c.files_have_one_schema.ensures.tree;
  augments = c.files_have_one_schema.ensures.augments;
  references = c.files_have_one_schema.ensures.references;
  order = c.order_tells_refusals_apart.ensures;
})
