use Rattle.yv_text_statement.specs.Order.{Among, IsLeast}
use Rattle.yv_schema.specs.Refusals.{BadFile}
use Rattle.yv_schema.proofs.conformance.first_bad_file.Given as goal

abbrev pub invariant-loop-number : goal.invariant-loop-number
invariant-loop-number l = IsLeast (Among l.files BadFile l.number) l.best
