use Rattle.std.proofs.Common.{◌≡◌, ◌==◌, drop, length}
use Rattle.yv_values.specs.InnerPatterns.{tests_in}
use Rattle.yv_values.proofs.patterns.have_no_test.Given as goal

abbrev pub invariant-loop-block : goal.invariant-loop-block
invariant-loop-block l = (length (tests_in (drop l.block-index l.blocks)) == 0) ≡ (length (tests_in l.blocks) == 0)
