use Rattle.std.proofs.Common.{ℕ, List, take}
use Rattle.yv_base_tables.specs.InnerTree.{IsAdded, IsPathTree}
use Rattle.yv_base_tables.proofs.path_tree.PathTree.add.Given as goal

abbrev pub invariant-loop-place : goal.invariant-loop-place
invariant-loop-place l = (paths : List (List ℕ)) → IsPathTree paths l.fn.self → IsAdded paths (take l.place l.steps) l.path l.self
