use Rattle.yv_link_scopes.specs.Views.{files_in, rows_in}
use Rattle.yv_link_definitions.specs.InnerAnswers.{TellFirst}
use Rattle.yv_link_definitions.proofs.answers.Answers.read.Given as goal

abbrev pub invariant-loop-number : goal.invariant-loop-number
invariant-loop-number l = TellFirst (files_in l.draft.rows.now) (rows_in l.draft.rows.now) l.number l.answers
