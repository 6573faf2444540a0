-- Only private clauses cite this: the items of a tree one by one, as nodes.
use Rattle.std.specs.Prelude.{ℕ, ◌+◌, ◌-◌, ◌==◌, List, [], ◌∷◌, if◌then◌else◌, Option, Some, None}
use Rattle.yv_expand_rounds.specs.declared.row.ItemRow.{ItemRow}
use Rattle.yv_expand.specs.Tree.{Node}

-- the place of the node above what is at a depth, where these are the places of the last nodes of
-- each depth
abbrev pub last_above : (last : ℕ → Option ℕ) → (depth : ℕ) → Option ℕ
last_above last depth = if depth == 0 then None else last (depth - 1)

-- a node at this place is now the last of its depth
abbrev pub enter : (depth place : ℕ) → (last : ℕ → Option ℕ) → ℕ → Option ℕ
enter depth place last d = if d == depth then Some place else last d

-- what items give, of which the first is at this place
abbrev pub nodes_of_rows : (last : ℕ → Option ℕ) → (place : ℕ) → List ItemRow → List Node
nodes_of_rows last place [] = []
nodes_of_rows last place (x ∷ xs) =
    record { origin = x.number; parent = last_above last x.depth }
    ∷ nodes_of_rows (enter x.depth place last) (place + 1) xs
