-- Which nodes are at the top, and which below each node (RFC 7950, section 4.2.2).
use Rattle.std.specs.Prelude.{ℕ, ◌+◌, List, [], ◌∷◌, ◌++◌, map}
use Rattle.std.specs.declared.alloc.Global.{Global}
use Rattle.std.specs.declared.vec.Vec.{Vec}
use Rattle.yv_expand.specs.Tree.{Nodes, none, item, count}

-- the numbers of the nodes of one parent, where the first has the number `first`
abbrev pub numbers_from : ℕ → Nodes → List ℕ
numbers_from first none = []
numbers_from first (item origin below behind) =
    first ∷ numbers_from (first + 1 + count below) behind

-- for each node, in order, the numbers of the nodes below it
abbrev pub below_from : ℕ → Nodes → List (List ℕ)
below_from first none = []
below_from first (item origin below behind) =
    numbers_from (first + 1) below
    ∷ (below_from (first + 1) below ++ below_from (first + 1 + count below) behind)

-- lists of numbers as contracts see them
abbrev pub lists_of : List (Vec ℕ Global) → List (List ℕ)
lists_of vs = map (λ (v : Vec ℕ Global). v.items) vs
