use Rattle.std.proofs.Common.{◌≡◌, take}
use Rattle.yv_values.specs.InnerPatterns.{tests_in}
use Rattle.yv_values.proofs.patterns.copies.Given as goal

abbrev pub invariant-loop-block : goal.invariant-loop-block
invariant-loop-block l = tests_in l.copies.items ≡ tests_in (take l.block-index l.blocks)
