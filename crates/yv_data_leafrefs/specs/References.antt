-- The references of a document that reach nothing (RFC 7950, sections 9.9 and 9.9.3).
use Rattle.std.specs.Prelude.{ℕ, ◌+◌, ◌==◌, ◌&&◌, ◌||◌, List, [], ◌∷◌, length, map, filter, Bool, false, Option, Some, option_map, if◌then◌else◌}
use Rattle.std.specs.List.{flat_map}
use Rattle.serde_json.specs.Data.{Data}
use Rattle.yv_text_statement.specs.declared.document_kind.Kind.{Kind}
use Rattle.yv_values.specs.Same.{is_among}
use Rattle.yv_values.specs.Values.{Val}
use Rattle.yv_nodes.specs.Link.{climb, Link, link_in}
use Rattle.yv_nodes.specs.Rows.{Rows}
use Rattle.yv_data_leafrefs.specs.InUse.{value_of}
use Rattle.yv_data_leafrefs.specs.Meetings.{all_met, at, Meeting, at_value, Spot, WrittenValue}
use Rattle.yv_data_leafrefs.specs.Place.{Place}
use Rattle.yv_data_leafrefs.specs.Values.{ValueAt, values_in}

-- the number is one of these
abbrev pub is_in : List ℕ → ℕ → Bool
is_in [] n = false
is_in (m ∷ ms) n = m == n || is_in ms n

-- it is a value of this target, in the object of this number at any depth
abbrev pub is_reached : (target from : ℕ) → ValueAt → Bool
is_reached target from v = (v.node == target) && is_in v.spot.around from

-- of all values those that the path of a leafref at this spot reaches: those of its target in the
-- object to which it climbs
abbrev pub values_reached : List ValueAt → Link → Spot → List Val
values_reached all link spot =
    map (λ v. v.value) (filter (is_reached link.target (climb 0 link.climbs spot.around)) all)

-- the number of an item from 1
abbrev pub number_of : Option (List Data) → Option ℕ
number_of before = option_map (λ ds. length ds + 1) before

-- a path, unless this holds
abbrev pub path_unless : Bool → List Place → List (List Place)
path_unless b here = if b then [] else here ∷ []

-- a value that was read is reported by its path, where no value that is reached is the same
abbrev pub references_of : List ValueAt → Option Link → WrittenValue → Option Val
    → List (List Place)
references_of all (Some link) m (Some v) =
    path_unless (is_among v (values_reached all link m.spot))
    (at m.spot m.label (number_of m.before))
references_of all _ m _ = []

-- the path of a value that is met, if it is that of a leafref that reaches no such value
abbrev pub references_at : (ℕ → Option Link) → List ValueAt → Meeting → List (List Place)
references_at links all (at_value m) =
    references_of all (links m.node.0) m (value_of m.label m.found)
references_at links all _ = []

-- those of a whole document, in the order in which they are met
abbrev pub all_references : Kind → Rows → Data → List (List Place)
all_references k s d =
    flat_map (references_at (link_in s.links) (values_in (all_met k s d))) (all_met k s d)

-- a value that was read of a leafref with a link is looked up once among those of its target
abbrev pub value_lookups : Option Link → Option Val → ℕ
value_lookups (Some link) (Some v) = 1
value_lookups _ _ = 0

-- how many look-ups a value that is met takes
abbrev pub lookups_at : (ℕ → Option Link) → Meeting → ℕ
lookups_at links (at_value m) = value_lookups (links m.node.0) (value_of m.label m.found)
lookups_at links _ = 0
