-- Only private clauses cite this: the list of values, as an enumeration keeps it.
use Rattle.std.specs.Prelude.{ℕ, List, [], Bool, true, false}
use Rattle.yv_values.specs.Types.{Plain, wholes, decimals, strings, booleans, names, flags, octets, identities, empties}

-- the plain type is an enumeration's
abbrev pub is_list : Plain → Bool
is_list (wholes t is) = false
is_list (decimals d is) = false
is_list (strings is ts) = false
is_list booleans = false
is_list (names ns) = true
is_list (flags ns) = false
is_list (octets is) = false
is_list (identities is) = false
is_list empties = false

-- the names of an enumeration
abbrev pub list_in : Plain → List (List ℕ)
list_in (wholes t is) = []
list_in (decimals d is) = []
list_in (strings is ts) = []
list_in booleans = []
list_in (names ns) = ns
list_in (flags ns) = []
list_in (octets is) = []
list_in (identities is) = []
list_in empties = []
