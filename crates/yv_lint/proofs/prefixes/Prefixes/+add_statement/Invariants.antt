use Rattle.std.proofs.Common.{take}
use Rattle.yv_text_statement.specs.Tree.{count, forest, trees}
use Rattle.yv_lint.specs.InnerUsed.{Adds}
use Rattle.yv_lint.specs.Used.{used_in}
use Rattle.yv_lint.proofs.prefixes.Prefixes.+add_statement.Given as goal

abbrev pub invariant-loop-child : goal.invariant-loop-child
invariant-loop-child l = Adds l.initial.self l.self (used_in l.below (forest (take l.child-index (trees l.statement.children))))

abbrev pub decreases-add_statement : goal.decreases-add_statement
decreases-add_statement l = count l.statement.now.children
