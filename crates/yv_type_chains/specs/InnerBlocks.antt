-- Only private clauses cite this: the blocks of types.
use Rattle.std.specs.Prelude.{ℕ, ◌+◌, List, [], ◌∷◌, Option, Some, None, if◌then◌else◌}
use Rattle.yv_link_scopes.specs.Rows.{Row}
use Rattle.yv_type_chains.specs.Types.{is_inner}

-- the block of a statement that is a type in one
abbrev pub block_of : ℕ → Row → Option ℕ
block_of n r = if is_inner n r then Some r.scope else None

abbrev pub blocks_from : ℕ → List Row → List (Option ℕ)
blocks_from n [] = []
blocks_from n (r ∷ rs) = block_of n r ∷ blocks_from (n + 1) rs
