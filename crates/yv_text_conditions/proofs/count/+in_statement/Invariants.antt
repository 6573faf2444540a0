use Rattle.std.proofs.Common.{◌+◌, take}
use Rattle.yv_text_statement.specs.Keywords.{keyword_of}
use Rattle.yv_text_statement.specs.Tree.{count, forest, trees}
use Rattle.yv_text_conditions.specs.Conditions.{count_in, one_if}
use Rattle.yv_text_conditions.specs.InnerCounts.{AreCounts}
use Rattle.yv_text_conditions.proofs.count.+in_statement.Given as goal

abbrev pub invariant-loop-child : goal.invariant-loop-child
invariant-loop-child l =
    AreCounts
    (λ has. one_if (has (keyword_of l.statement.head.keyword) l.statement.head.argument) + count_in has (forest (take l.child-index (trees l.statement.children))))
    l.counts

abbrev pub decreases-in_statement : goal.decreases-in_statement
decreases-in_statement l = count l.statement.now.children
