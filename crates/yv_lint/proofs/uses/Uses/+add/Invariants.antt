use Rattle.std.proofs.Common.{◌≡◌, ◌+◌, length, take}
use Rattle.yv_text_statement.specs.Tree.{count, forest, trees}
use Rattle.yv_lint.specs.InnerUses.{AddsUses}
use Rattle.yv_lint.proofs.uses.Uses.+add.Given as goal

abbrev pub invariant-loop-child : goal.invariant-loop-child
invariant-loop-child l = record {
  adds : AddsUses l.own l.initial.self l.self (l.number + 1) (forest (take l.child-index (trees l.statement.children)));
  start : length l.initial.self.ends.items ≡ l.number + 1;
}

abbrev pub decreases-add : goal.decreases-add
decreases-add l = count l.statement.now.children
