-- Only private clauses cite this: an order of all statements.
use Rattle.std.specs.Prelude.{ℕ, List, length}
use Rattle.yv_base_graph.specs.Graph.{IsOrderBy}
use Rattle.yv_link_scopes.specs.Files.{Briefs}
use Rattle.yv_link_scopes.specs.Rows.{Row}
use Rattle.yv_type_chains.specs.Types.{RestsOn}

-- all statements, each once, and each type after those on which it rests
abbrev pub IsOrderOfAll : Briefs → List Row → List ℕ → Type 0
IsOrderOfAll files rows order = IsOrderBy (RestsOn files rows) (length rows) order
