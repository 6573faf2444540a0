use Rattle.std.proofs.Common.{◌≡◌, ℕ, List, drop, Some}
use Rattle.std.specs.List.{find}
use Rattle.yv_text_statement.specs.Tree.{trees}
use Rattle.yv_text_statement.specs.Keywords.{spelling}
use Rattle.yv_search.specs.Wants.{has_word}
use Rattle.yv_search.proofs.wants.argument_of.Given as goal

abbrev pub invariant-loop-child : goal.invariant-loop-child
invariant-loop-child l = (word : List ℕ) → spelling l.keyword ≡ Some word → find (has_word word) (drop l.child-index (trees l.statement.children)) ≡ find (has_word word) (trees l.statement.children)
