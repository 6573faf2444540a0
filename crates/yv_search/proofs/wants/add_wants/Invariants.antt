use Rattle.std.proofs.Common.{◌≡◌, ◌++◌, map, take}
use Rattle.yv_text_statement.specs.Tree.{trees}
use Rattle.yv_search.specs.Wants.{wants_among}
use Rattle.yv_search.specs.InnerWants.{want}
use Rattle.yv_search.proofs.wants.add_wants.Given as goal

abbrev pub invariant-loop-statement : goal.invariant-loop-statement
invariant-loop-statement l = map want l.list.items ≡ map want l.initial.list.items ++ wants_among l.root (take l.statement-index (trees l.root.children))
