-- Only private clauses cite this: links without the places after the last of them.
use Rattle.std.specs.Prelude.{ℕ, ◌++◌, List, Option, None, replicate}
use Rattle.yv_nodes.specs.Link.{Link}

-- these links, and as many places more without one
abbrev pub links_with_rest : List (Option Link) → (rest : ℕ) → List (Option Link)
links_with_rest links rest = links ++ replicate rest None
