use Rattle.std.proofs.Common.{◌≡◌, ◌++◌, vec_len}
use Rattle.yv_values.specs.InnerPatterns.{tests_in, tests_of}
use Rattle.yv_values.proofs.patterns.add.Given as goal

abbrev pub invariant-loop-before : goal.invariant-loop-before
invariant-loop-before l = tests_in l.blocks.items ++ tests_of l.block.group.value ≡ tests_in l.fn.blocks.items ++ tests_of l.fn.block.group.value

abbrev pub decreases-loop-before : goal.decreases-loop-before
decreases-loop-before l = vec_len l.blocks
