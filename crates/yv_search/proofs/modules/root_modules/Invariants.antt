use Rattle.std.proofs.Common.{◌≡◌, ℕ, List, take}
use Rattle.yv_search.specs.Roles.{is_there}
use Rattle.yv_search.specs.InnerNames.{has}
use Rattle.yv_search.proofs.modules.root_modules.Given as goal

abbrev pub invariant-loop-root : goal.invariant-loop-root
invariant-loop-root l = (q : List ℕ) → has l.names q ≡ is_there (take l.root-index l.roots) q
