use Rattle.std.proofs.Common.{map, take}
use Rattle.yv_text_statement.specs.Order.{IsLeast, Among}
use Rattle.yv_values.specs.Types.{test_of}
use Rattle.yv_type_restrictions.specs.Facets.{AreTests}
use Rattle.yv_type_restrictions.specs.FacetRefusals.{BadPattern}
use Rattle.yv_type_restrictions.proofs.patterns.read_tests.Given as goal

abbrev pub invariant-loop-statement : goal.invariant-loop-statement
invariant-loop-statement l = record {
  tests : AreTests (take l.statement-index l.statements) (map test_of l.tests.items);
  fault : IsLeast (Among l.statements (λ k. BadPattern l.file) l.statement-index) l.fault;
}
