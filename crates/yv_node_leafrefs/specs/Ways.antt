-- Where paths of data nodes lead (RFC 7950, sections 6.4.1 and 9.9.2).
use Rattle.std.specs.Prelude.{◌≡◌, ℕ, zero, suc, List, [], ◌∷◌, Option, Some, None}
use Rattle.std.specs.Option.{unwrap_or}
use Rattle.yv_node_content.specs.Steps.{Step}
use Rattle.yv_nodes.specs.Rows.{Row}
use Rattle.yv_node_leafrefs.specs.Above.{IsAbove, IsDataChild, IsFirst}

-- so many `../` lead from one place to the other: above the document there is no place
abbrev pub Climbs : List Row → ℕ → Option ℕ → Option ℕ → Type 0
Climbs rows zero a b = a ≡ b
Climbs rows (suc k) None b = ⊥
Climbs rows (suc k) (Some c) b = (a : Option ℕ) × IsAbove rows a c × Climbs rows k a b

-- a path begins at the document, or at the place to which the `../` of a node climb
abbrev pub Begins : List Row → ℕ → Option ℕ → Option ℕ → Type 0
Begins rows n None a = a ≡ None
Begins rows n (Some climbs) a = Climbs rows climbs (Some n) a

-- c is the node that a step means below a place: of the data nodes there the first of its module
-- and its name. A name without prefix is of the module of the node that has the path, and one whose
-- prefix refers to no module means none
abbrev pub Means : List Row → (own : ℕ) → Option ℕ → Option Step → ℕ → Type 0
Means rows own a None c = ⊥
Means rows own a (Some s) c = IsFirst (IsDataChild rows a (unwrap_or s.module_file own) s.name) c

-- steps lead down from one place to the other
abbrev pub Leads : List Row → (own : ℕ) → List (Option Step) → Option ℕ → Option ℕ → Type 0
Leads rows own [] a b = a ≡ b
Leads rows own (s ∷ ss) a b = (c : ℕ) × Means rows own a s c × Leads rows own ss (Some c) b
