-- Only private clauses cite this: an index that tells values.
use Rattle.std.specs.Prelude.{◌≡◌, ℕ, ◌≤◌, ◌↔◌, List, length, Option, Some, None}
use Rattle.yv_values.specs.Pairs.{Pair, Keeps, IsAlone}
use Rattle.yv_values.specs.Values.{Val}

-- each of these values is kept alone, at 0, and nothing else is
abbrev pub KeepsAlone : List Pair → List Val → Type 0
KeepsAlone pairs vs = (key : List Val) (p : ℕ) → Keeps pairs key p ↔ (IsAlone key vs × (p ≡ 0))

-- one value needs no index
abbrev pub Tells : Option (List Pair) → List Val → Type 0
Tells None vs = length vs ≤ 1
Tells (Some pairs) vs = KeepsAlone pairs vs
