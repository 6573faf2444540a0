use Rattle.std.proofs.Common.{◌≡◌, drop}
use Rattle.std.specs.List.{list_all}
use Rattle.yv_values.specs.InnerPatterns.{tests_in}
use Rattle.yv_values.specs.Texts.{passes}
use Rattle.yv_values.proofs.patterns.blocks_pass.Given as goal

abbrev pub invariant-loop-block : goal.invariant-loop-block
invariant-loop-block l = list_all (passes l.text) (tests_in (drop l.block-index l.blocks)) ≡ list_all (passes l.text) (tests_in l.blocks)
