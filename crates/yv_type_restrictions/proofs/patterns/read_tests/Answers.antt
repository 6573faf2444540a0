use Rattle.std.proofs.Common.{◌≡◌, ◌≤◌, List, length, Some, refl, arith}
use Rattle.std.specs.List.{slice_get}
use Rattle.std.proofs.lemmas.Option.{slice_get_read}
use Rattle.yv_text_statement.proofs.Least.{least_more}
use Rattle.yv_text_statement.specs.Tree.{Tree}
use Rattle.yv_type_restrictions.specs.FacetRefusals.{BadPattern}
use Rattle.yv_type_restrictions.proofs.Read.{more_tests, least_all}
use Rattle.yv_type_restrictions.proofs.patterns.read_tests.Goals as goal

pub loop-statement-preserved : goal.loop-statement-preserved
loop-statement-preserved c =
    let cs : List Tree = c.args.statements.now in
    let at : slice_get cs c.loop-statement.statement-index ≡ Some c.statement-item.result = slice_get_read cs (length cs) c.loop-statement.statement-index c.statement-item.result refl c.loop-statement-test.true c.statement-item.is in record {
      tests = more_tests cs c.loop-statement.statement-index c.statement-item.result _ _ _ at c.in-Ok.ensures.test c.loop-statement.invariant.tests c.in_ok-keep.ensures;
      fault = least_more cs (λ k. BadPattern c.args.file) c.loop-statement.statement-index c.statement-item.result _ _ _ at c.lesser-fault.ensures c.loop-statement.invariant.fault c.in-Ok.ensures.fault;
    }

pub returns-clause-fault : goal.returns-clause-fault
returns-clause-fault c =
    let past : length c.args.statements.now ≤ c.loop-statement.statement-index = omega (arith, c.loop-statement-test.false) in
    least_all c.args.statements.now (λ k. BadPattern c.args.file) c.loop-statement.statement-index c.loop-statement.fault past c.loop-statement.invariant.fault
