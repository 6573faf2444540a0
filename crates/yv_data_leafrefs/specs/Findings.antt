-- What a walk keeps of what it meets, so that references can be looked up after it: the values of
-- targets, where their defaults are in use, the objects that it entered, and the values of
-- leafrefs.
use Rattle.std.specs.Prelude.{◌≡◌, ℕ, ◌-◌, ◌⊎◌, ◌↔◌, List, [], ◌∷◌, ◌++◌, length, Bool, Option, Some, None, if◌then◌else◌}
use Rattle.std.specs.BTreeMap.{is_at}
use Rattle.std.specs.List.{flat_map, slice_index_or, slice_set}
use Rattle.std.specs.Map.{lookup}
use Rattle.std.specs.Ordering.{nat_cmp}
use Rattle.serde_json.specs.Data.{Data, object, Members}
use Rattle.yv_text_statement.specs.declared.document_kind.Kind.{Kind}
use Rattle.yv_values.specs.Pairs.{Keeps, Pair}
use Rattle.yv_values.specs.Places.{IsPlace}
use Rattle.yv_values.specs.Values.{Val}
use Rattle.yv_nodes.specs.Link.{is_target, Link, link_in}
use Rattle.yv_nodes.specs.Rows.{Rows}
use Rattle.yv_data_leafrefs.specs.InUse.{in_use, value_of}
use Rattle.yv_data_leafrefs.specs.Meetings.{all_met, found_of, Meeting, stand, at_value, at_node, Stand}
use Rattle.yv_data_leafrefs.specs.References.{number_of}

-- ---- what is kept

-- a target's value, and the number of the object where it is
pub record TargetValue : Type 0 where
  pub target : ℕ
  pub value : Val
  pub place : ℕ

-- a target, and the number of the object where its defaults are in use: all of them together
pub record TargetDefault : Type 0 where
  pub target : ℕ
  pub place : ℕ

-- an object that was entered: the number of the one around it, its node, its number from 1 where it
-- is an entry, and the number of the last object in it
pub record Position : Type 0 where
  pub parent : ℕ
  pub node : ℕ
  pub item : Option ℕ
  pub last : ℕ

-- a leafref's value: the number of the object that it is in, its node, its number from 1 where it
-- is an item, and what it is
pub record LeafrefValue : Type 0 where
  pub position : ℕ
  pub node : ℕ
  pub item : Option ℕ
  pub value : Val

-- what contracts see of what a walk found: values and defaults of targets of leafrefs, objects, and
-- values of leafrefs
pub record FindingsView : Type 0 where
  pub kept : List TargetValue
  pub used : List TargetDefault
  pub positions : List Position
  pub notes : List LeafrefValue

-- ---- what is kept of what is met

-- the number of the object in which something is, and of the one around that; the document is in no
-- other
abbrev pub first_of : List ℕ → ℕ
first_of [] = 0
first_of (n ∷ ns) = n

-- the second number of a list
abbrev pub second_of : List ℕ → ℕ
second_of [] = 0
second_of (n ∷ ns) = first_of ns

-- a value of a target
abbrev pub kept_if : Bool → (n here : ℕ) → Option Val → List TargetValue
kept_if is_target n here None = []
kept_if is_target n here (Some v) =
    if is_target then record { target = n; value = v; place = here } ∷ [] else []

-- the value of a target that is met
abbrev pub kept_at : (is_target : ℕ → Bool) → Meeting → List TargetValue
kept_at is_target (at_value m) =
    kept_if (is_target m.node.0) m.node.0 (first_of m.spot.around) (value_of m.label m.found)
kept_at is_target _ = []

-- the values of targets that are met, in order
abbrev pub kept_in : (is_target : ℕ → Bool) → List Meeting → List TargetValue
kept_in is_target ms = flat_map (kept_at is_target) ms

-- the defaults of a target, which are in use together
abbrev pub use_if : Bool → (n here : ℕ) → List TargetDefault
use_if is_target n here = if is_target then record { target = n; place = here } ∷ [] else []

-- these defaults, if there are any
abbrev pub used_if : Bool → (n here : ℕ) → List Val → List TargetDefault
used_if is_target n here [] = []
used_if is_target n here (v ∷ vs) = use_if is_target n here

-- the default of a target that is in use where it is met
abbrev pub used_at : (is_target : ℕ → Bool) → Meeting → List TargetDefault
used_at is_target (at_node m) =
    used_if (is_target m.node.0) m.node.0 (first_of m.spot.around)
    (in_use m.label.defined.kind m.label m.scope (found_of m))
used_at is_target _ = []

-- the defaults of targets that are in use, in order
abbrev pub used_in : (is_target : ℕ → Bool) → List Meeting → List TargetDefault
used_in is_target ms = flat_map (used_at is_target) ms

-- only an object is entered
abbrev pub position_of : Stand → Data → List Position
position_of m (object ms) =
    record { parent = second_of m.spot.around; node = m.node.0; item = m.item; last = m.last } ∷ []
position_of m _ = []

-- the object that is met
abbrev pub positions_at : Meeting → List Position
positions_at (stand m) = position_of m m.found
positions_at _ = []

-- the objects that are met, in order
abbrev pub positions_in : List Meeting → List Position
positions_in ms = flat_map positions_at ms

-- a value that was read of a leafref with a link
abbrev pub value_notes : Option Link → (here n : ℕ) → Option ℕ → Option Val → List LeafrefValue
value_notes None here n number v = []
value_notes (Some link) here n number None = []
value_notes (Some link) here n number (Some v) =
    record { position = here; node = n; item = number; value = v } ∷ []

-- the value of a leafref that is met
abbrev pub notes_at : (ℕ → Option Link) → Meeting → List LeafrefValue
notes_at links (at_value m) =
    value_notes (links m.node.0) (first_of m.spot.around) m.node.0 (number_of m.before)
    (value_of m.label m.found)
notes_at links _ = []

-- the values of leafrefs that are met, in order
abbrev pub notes_in : (ℕ → Option Link) → List Meeting → List LeafrefValue
notes_in links ms = flat_map (notes_at links) ms

-- what is found of all that is met
abbrev pub met_in : Rows → List Meeting → FindingsView
met_in s ms = record {
  kept = kept_in (is_target s.links) ms;
  used = used_in (is_target s.links) ms;
  positions = positions_in ms;
  notes = notes_in (link_in s.links) ms;
}

-- values of targets only, defaults of targets only, and values of leafrefs alone
abbrev pub only_kept : List TargetValue → FindingsView
only_kept ks = record { kept = ks; used = []; positions = []; notes = [] }

-- defaults in use, and nothing else
abbrev pub only_used : List TargetDefault → FindingsView
only_used us = record { kept = []; used = us; positions = []; notes = [] }

-- values of leafrefs, and nothing else
abbrev pub only_notes : List LeafrefValue → FindingsView
only_notes ns = record { kept = []; used = []; positions = []; notes = ns }

-- ---- what has been found, as it grows

-- what an index keeps, where there is one
abbrev pub pairs_in : Option (List Pair) → List Pair
pairs_in None = []
pairs_in (Some pairs) = pairs

-- the indexes of targets, by the targets' numbers
abbrev pub Indexes : Type 0
Indexes = List (ℕ × List Pair)

-- the values of a node, with their places
abbrev pub index_of : Indexes → ℕ → List Pair
index_of indexes n = pairs_in (lookup (is_at (nat_cmp n)) indexes)

-- the numbers of objects, where there are any
abbrev pub places_in : Option (List ℕ) → List ℕ
places_in None = []
places_in (Some places) = places

-- the objects in which the defaults of targets are in use, by the targets' numbers
abbrev pub Uses : Type 0
Uses = List (ℕ × List ℕ)

-- the places at which a node's default is in use
abbrev pub places_of : Uses → ℕ → List ℕ
places_of uses n = places_in (lookup (is_at (nat_cmp n)) uses)

-- the indexes, where defaults are in use, the objects that were entered, and the values of leafrefs
pub record Findings : Type 0 where
  pub indexes : Indexes
  pub uses : Uses
  pub positions : List Position
  pub notes : List LeafrefValue

-- nothing was found
abbrev pub none_found : Findings
none_found = record { indexes = []; uses = []; positions = []; notes = [] }

-- this value of this target was kept at this place
abbrev pub IsKept : List TargetValue → ℕ → Val → ℕ → Type 0
IsKept [] n v p = ⊥
IsKept (k ∷ ks) n v p = ((k.target ≡ n) × (k.value ≡ v) × (k.place ≡ p)) ⊎ IsKept ks n v p

-- the indexes keep what they kept, and these
pub record Gains (old new : Indexes) (more : List TargetValue) : Type 0 where
  pub each : (n : ℕ) (v : Val) (p : ℕ) → Keeps (index_of new n) (v ∷ []) p
      ↔ (Keeps (index_of old n) (v ∷ []) p ⊎ IsKept more n v p)

-- the defaults of this target are in use at this place
abbrev pub IsUsed : List TargetDefault → ℕ → ℕ → Type 0
IsUsed [] n p = ⊥
IsUsed (u ∷ us) n p = ((u.target ≡ n) × (u.place ≡ p)) ⊎ IsUsed us n p

-- the defaults are in use where they were, and at these places
pub record Spreads (old new : Uses) (more : List TargetDefault) : Type 0 where
  pub each : (n p : ℕ) → IsPlace (places_of new n) p
      ↔ (IsPlace (places_of old n) p ⊎ IsUsed more n p)

-- these were met
pub record Finds (old new : Findings) (more : FindingsView) : Type 0 where
  pub indexes : Gains old.indexes new.indexes more.kept
  pub uses : Spreads old.uses new.uses more.used
  pub positions : new.positions ≡ old.positions ++ more.positions
  pub notes : new.notes ≡ old.notes ++ more.notes

-- no object, for a number that none has
abbrev pub nowhere : Position
nowhere = record { parent = 0; node = 0; item = None; last = 0 }

-- the object of a number
abbrev pub position_at : List Position → ℕ → Position
position_at ps n = slice_index_or ps n nowhere

-- an object whose end isn't known yet
abbrev pub open_object : ℕ → ℕ → Option ℕ → Position
open_object parent n number = record { parent = parent; node = n; item = number; last = 0 }

-- an object with another last object in it
abbrev pub with_last : Position → ℕ → Position
with_last p last = record { parent = p.parent; node = p.node; item = p.item; last = last }

-- an object ends with the last object that was entered
abbrev pub end_object : List Position → ℕ → List Position
end_object ps n = slice_set ps n (with_last (position_at ps n) (length ps - 1))

-- a walk over a whole document met these
abbrev pub HasMet : Kind → Rows → Members → Findings → Type 0
HasMet k s ms found = Finds none_found found (met_in s (all_met k s (object ms)))
