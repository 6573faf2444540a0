use Rattle.std.proofs.Common.{◌≡◌, drop, map}
use Rattle.std.specs.List.{list_all}
use Rattle.yv_values.specs.Texts.{passes}
use Rattle.yv_values.specs.Patterns.{test_of}
use Rattle.yv_values.proofs.patterns.passes_all.Given as goal

abbrev pub invariant-loop-test : goal.invariant-loop-test
invariant-loop-test l = list_all (passes l.text) (map test_of (drop l.test-index l.tests)) ≡ list_all (passes l.text) (map test_of l.tests)
