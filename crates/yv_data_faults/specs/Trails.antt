-- The way to a node, as the walk of a validation keeps it, and faults in order.
use Rattle.std.specs.Prelude.{◌<◌, List, [], ◌∷◌, ◌++◌, length}
use Rattle.yv_nodes.specs.Rows.{Rows, row_at}
use Rattle.yv_data_leafrefs.specs.Place.{Place, step_name}
use Rattle.yv_data_faults.specs.Flaw.{Flaw}
use Rattle.yv_data_faults.specs.declared.trail.Trail.{Trail, Root, Below'}

-- faults in order
pub record Flaws : Type 0 where
  pub items : List Flaw

-- the places on a way
abbrev pub places : Rows → Trail → List Place
places s Root = []
places s (Below' p trail id item) =
    places s trail ++ record { member = step_name (row_at s id).label; item = item } ∷ []

-- each node on it is one of the schema
abbrev pub IsWithin : Rows → Trail → Type 0
IsWithin s Root = Unit {0}
IsWithin s (Below' p trail id item) = IsWithin s trail × (id.0 < length s.nodes)
