-- Only private clauses cite this: where objects are, and values in them.
use Rattle.std.specs.Prelude.{ℕ, zero, suc, ◌==◌, ◌||◌, nat_le, nat_lt, List, [], ◌∷◌, ◌++◌, length, None, if◌then◌else◌}
use Rattle.std.specs.List.{slice_index_or}
use Rattle.yv_data_leafrefs.specs.Place.{Place}

-- the number of the object around it, and the last step of its path
pub record Location : Type 0 where
  pub outer : ℕ
  pub place : Place

abbrev pub location_at : List Location → ℕ → Location
location_at ls n =
    slice_index_or ls n (record { outer = 0; place = record { member = []; item = None } })

-- the path of the object of this number, by those around it; `most` is at least as many as there
-- are
abbrev pub path_in : List Location → (most : ℕ) → ℕ → List Place
path_in os zero n = []
path_in os (suc most) n =
    if n == 0 || nat_le (length os) n then []
    else path_in os most (location_at os n).outer ++ (location_at os n).place ∷ []

-- the path of something in such an object
abbrev pub value_path : List Location → Location → List Place
value_path os v = path_in os v.outer v.outer ++ v.place ∷ []

-- that of the value of this number
abbrev pub numbered_path : List Location → List Location → ℕ → List Place
numbered_path os vs n = if nat_lt n (length vs) then value_path os (location_at vs n) else []
