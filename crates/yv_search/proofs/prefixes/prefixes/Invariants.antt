use Rattle.std.proofs.Common.{◌≡◌, ℕ, List, take}
use Rattle.yv_text_statement.specs.Tree.{trees}
use Rattle.yv_search.specs.InnerModules.{row_at, lookup}
use Rattle.yv_search.specs.InnerPrefixes.{row_among}
use Rattle.yv_search.proofs.prefixes.prefixes.Given as goal

abbrev pub invariant-loop-statement : goal.invariant-loop-statement
invariant-loop-statement l = (q : List ℕ) → row_at l.table q ≡ row_among (lookup l.modules) l.root (take l.statement-index (trees l.root.children)) q
