-- Only private clauses cite this: a path as faults keep it, by what its steps are called and by the
-- numbers of the entries on it, the innermost first.
use Rattle.std.specs.Prelude.{ℕ, List, [], ◌∷◌, ◌++◌, map, Bool, true, false, Option, Some, None, is_some}
use Rattle.yv_nodes.specs.Rows.{Rows, row_at}
use Rattle.yv_data_leafrefs.specs.InnerSteps.{left_steps as value_steps}
use Rattle.yv_data_leafrefs.specs.Place.{Place, step_name}
use Rattle.yv_data_faults.specs.Part.{part_of}
use Rattle.yv_data_faults.specs.declared.path.Entries.{Entries, Outside, Within'}
use Rattle.yv_data_faults.specs.declared.path.KeptWay.{KeptWay}
use Rattle.yv_data_faults.specs.declared.path.KeptWay.TheVariants.{Shared, Value}
use Rattle.yv_data_faults.specs.declared.path.Left.{Left}
use Rattle.yv_data_faults.specs.declared.path.Left.TheVariants as left
use Rattle.yv_data_faults.specs.declared.path.Part.{Part}
use Rattle.yv_data_faults.specs.declared.path.Way.{Way, Start, After'}
use Rattle.yv_data_faults.specs.declared.trail.Trail.{Trail, Root, Below'}

-- what a step is called, and whether the one before it is an entry or an item
pub record Name : Type 0 where
  pub member : List ℕ
  pub is_in_entry : Bool

abbrev pub way_names : Way → List Name
way_names Start = []
way_names (After' p before is_entry step) =
    record { member = step.member; is_in_entry = is_entry } ∷ way_names before

abbrev pub numbers : Entries → List ℕ
numbers Outside = []
numbers (Within' p outer number count) = number ∷ numbers outer

-- the first number, if there is one, and those that are left
abbrev pub first_if : Bool → List ℕ → Option ℕ
first_if true (n ∷ ns) = Some n
first_if _ _ = None

abbrev pub rest_if : Bool → List ℕ → List ℕ
rest_if true (n ∷ ns) = ns
rest_if _ ns = ns

-- the places of steps of these names, the last of which has this number, in entries of these
abbrev pub places_of : List Name → List ℕ → Option ℕ → List Place
places_of [] ns item = []
places_of (name ∷ names) ns item =
    places_of names (rest_if name.is_in_entry ns) (first_if name.is_in_entry ns)
    ++ record { member = name.member; item = item } ∷ []

abbrev pub kept_steps : KeptWay → List Place
kept_steps (Shared way entries item) = places_of (way_names way.value) (numbers entries.value) item
kept_steps (Value path) = path

abbrev pub left_steps : Left → List Place
left_steps (left.Shared way entries item) = places_of (way_names way.now) (numbers entries.now) item
left_steps (left.Value steps) = value_steps steps

-- ---- a way as the walk keeps it

abbrev pub is_entry : Trail → Bool
is_entry Root = false
is_entry (Below' p trail id item) = is_some item

abbrev pub trail_names : Rows → Trail → List Name
trail_names s Root = []
trail_names s (Below' p trail id item) =
    record { member = step_name (row_at s id).label; is_in_entry = is_entry trail }
    ∷ trail_names s trail

abbrev pub number_if : Option ℕ → List ℕ → List ℕ
number_if None ns = ns
number_if (Some n) ns = n ∷ ns

abbrev pub trail_numbers : Trail → List ℕ
trail_numbers Root = []
trail_numbers (Below' p trail id item) = number_if item (trail_numbers trail)
