-- Lists whose `key` or `unique` statements name what they may not (RFC 7950, sections 7.8.2 and
-- 7.8.3).
use Rattle.std.specs.Prelude.{nat_lt, Bool, false, not, ◌&&◌, ◌||◌, List, length, Option, Some, None, is_some}
use Rattle.std.specs.List.{list_any}
use Rattle.yv_nodes.specs.Tree.{Tree, node}
use Rattle.yv_node_content.specs.Steps.{Step}
use Rattle.yv_node_keys.specs.Targets.{key_leaf, unique_leaf}

-- one of the names is that of no leaf directly below
abbrev pub is_bad_key : (list : Tree) → List (Option Step) → Bool
is_bad_key list keys = list_any (λ key. not (is_some (key_leaf list key))) keys

-- there is a leaf, and it is configuration
abbrev pub is_config_leaf : Option Tree → Bool
is_config_leaf None = false
is_config_leaf (Some (node l kids)) = l.is_config

-- there is a leaf, and it is none
abbrev pub is_state_leaf : Option Tree → Bool
is_state_leaf None = false
is_state_leaf (Some (node l kids)) = not l.is_config

-- one path of a statement names no leaf, or two of its leafs differ in being configuration
abbrev pub is_bad_statement : (list : Tree) → List (List (Option Step)) → Bool
is_bad_statement list paths =
    list_any (λ path. not (is_some (unique_leaf list path))) paths
    || (list_any (λ path. is_config_leaf (unique_leaf list path)) paths
    && list_any (λ path. is_state_leaf (unique_leaf list path)) paths)

-- there are more than 64 statements, or one of them is bad
abbrev pub is_bad_unique : (list : Tree) → List (List (List (Option Step))) → Bool
is_bad_unique list statements =
    nat_lt 64 (length statements) || list_any (is_bad_statement list) statements
