-- Only private clauses cite this: the values of leafs as the walk notes them.
use Rattle.std.specs.Prelude.{◌≡◌, ℕ, ◌<◌, true, List, [], ◌∷◌, length, Option, Some, None}
use Rattle.std.specs.List.{slice_index_or}
use Rattle.std.specs.Ordering.{nat_cmp}
use Rattle.std.specs.BTreeMap.{get_by}
use Rattle.serde_json.specs.Data.{Data}
use Rattle.yv_nodes.specs.declared.node.NodeId.{NodeId}
use Rattle.yv_values.specs.Reads.{or_else}
use Rattle.yv_values.specs.Values.{Val}
use Rattle.yv_nodes.specs.Defaults.{defaults_of}
use Rattle.yv_nodes.specs.Rows.{Rows, below, rank, row_at}
use Rattle.yv_nodes.specs.Tree.{Label}
use Rattle.yv_data_leafrefs.specs.Meetings.{Meeting, Spot}
use Rattle.yv_data_leafrefs.specs.Values.{values_in}
use Rattle.yv_text_statement.specs.declared.document_kind.Kind.{Kind}
use Rattle.yv_data_quiet.specs.NamedLeafs.{is_named, keys_at, uniques_at}
use Rattle.yv_validate.specs.Values.{entry_tuple, tuple_of, value_in}
use Rattle.yv_validate.specs.declared.notes.Notes.{Notes}

-- the last of these values
abbrev pub last_of : List Val → Option Val
last_of [] = None
last_of (v ∷ vs) = or_else (last_of vs) (Some v)

-- the default of a leaf, which has one at most: a key and a mandatory leaf have none
abbrev pub default_value : Label → Option Val
default_value l = last_of (defaults_of l)

-- what a note at this number says: nothing, that the default is in use, or a value
abbrev pub note_value : Rows → ℕ → Option (Option Val) → Option Val
note_value s n None = None
note_value s n (Some None) = default_value (row_at s (record { 0 = n })).label
note_value s n (Some (Some v)) = Some v

abbrev pub noted_at : Rows → Notes → ℕ → Option Val
noted_at s notes n = note_value s n (get_by (nat_cmp n) notes.values)

-- more notes, with these values of leafs that make entries differ: nothing asks for the notes of
-- others
pub record Gains (s : Rows) (old new : Notes) (values : ℕ → Option Val) : Type 0 where
  pub each : (n : ℕ) → is_named s n ≡ true
      → noted_at s new n ≡ or_else (values n) (noted_at s old n)

-- the value of a leaf in the entry in which a spot is, of what is met
abbrev pub own_value : Spot → List Meeting → ℕ → Option Val
own_value spot ms n = value_in spot.entry n (values_in ms)

-- with the values of what is met in an entry, wherever that is: objects in it have greater numbers
abbrev pub GainsBy : Rows → Notes → Notes → (Spot → ℕ → List Meeting) → Type 0
GainsBy s old new met_at = (spot : Spot) (next : ℕ) → spot.entry < next
    → Gains s old new (own_value spot (met_at spot next))

-- a tuple of what was noted at an entry, if it is an object
abbrev pub tuple_in : Rows → Option Notes → List (Option NodeId) → Option (List Val)
tuple_in s None leafs = None
tuple_in s (Some notes) leafs = tuple_of (noted_at s notes) leafs

-- the tuple of these leafs in an entry of a list
abbrev pub list_tuple : Kind → Rows → NodeId → List (Option NodeId) → Data → Option (List Val)
list_tuple k s n leafs d = entry_tuple k s (rank n) (below s n) leafs d

-- these notes have the tuple of the entry for these leafs
abbrev pub HasTuple : Kind → Rows → NodeId → Option Notes → Data → List (Option NodeId) → Type 0
HasTuple k s n notes d leafs = tuple_in s notes leafs ≡ list_tuple k s n leafs d

-- for those of the list's key and of its `unique` statements
pub record HasTuples (k : Kind) (s : Rows) (n : NodeId) (notes : Option Notes)
    (d : Data) : Type 0 where
  pub keys : HasTuple k s n notes d (keys_at s n)
  pub uniques : (i : ℕ) → i < length (uniques_at s n)
      → HasTuple k s n notes d (slice_index_or (uniques_at s n) i [])
