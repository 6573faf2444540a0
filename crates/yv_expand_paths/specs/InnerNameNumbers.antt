-- The names of schema nodes as numbers.
use Rattle.std.specs.Prelude.{ℕ, ◌+◌, ◌*◌, List, [], ◌∷◌, ◌++◌, map, Option, codes, slice_get}
use Rattle.std.specs.Option.{option_and_then}
use Rattle.std.specs.Str.{bytes_eq}
use Rattle.yv_link_scopes.specs.Names.{first_where}
use Rattle.yv_link_scopes.specs.Rows.{Row}
use Rattle.yv_expand_statements.specs.Names.{node_name}

-- the names of all statements' nodes, in order
abbrev pub own_names : List Row → List (List ℕ)
own_names rows = map (λ r. node_name r.head) rows

-- the first place at which a name is
abbrev pub place_of : List (List ℕ) → List ℕ → Option ℕ
place_of names name = first_where (λ n. bytes_eq n name) names

-- the number of a name: its first place among those of all statements' nodes, after which are those
-- of an operation's input and output, which it need not write
abbrev pub number_of : List Row → List ℕ → Option ℕ
number_of rows name = place_of (own_names rows ++ codes "input" ∷ codes "output" ∷ []) name

-- the number of the name of a numbered statement's node
abbrev pub number_at : List Row → ℕ → Option ℕ
number_at rows statement =
    option_and_then (λ r. number_of rows (node_name r.head)) (slice_get rows statement)

-- one number for the module of a file and the number of a name in it
abbrev pub qualified_name : (module_file name : ℕ) → ℕ
qualified_name module_file name = module_file * 4294967296 + name
