use Rattle.std.proofs.Common.{take}
use Rattle.yv_text_statement.specs.Tree.{forest}
use Rattle.yv_text_conditions.specs.Conditions.{count_in}
use Rattle.yv_text_conditions.specs.InnerCounts.{AreCounts}
use Rattle.yv_text_conditions.proofs.count.passed_over.Given as goal

abbrev pub invariant-loop-file : goal.invariant-loop-file
invariant-loop-file l = AreCounts (λ has. count_in has (forest (take l.file-index l.files))) l.counts
