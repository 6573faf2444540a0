-- Only private clauses cite this: a table with one more name, and the lesser of two numbers.
use Rattle.std.specs.Prelude.{◌≡◌, ℕ, nat_lt, List, Option, Some, None, if◌then◌else◌}
use Rattle.yv_link_scopes.specs.Tables.{Table, first_of, is_same, table_of}
use Rattle.yv_link_scopes.specs.Rows.{Row}
use Rattle.yv_link_scopes.specs.declared.kind.NameKind.{NameKind}
use Rattle.yv_link_scopes.specs.declared.places.NamePlaces.{NamePlaces}

abbrev pub first_some : Option ℕ → Option ℕ → Option ℕ
first_some None b = b
first_some (Some a) b = Some a

-- the first place of a name is kept
abbrev pub keep_first : Table → ℕ → List ℕ → ℕ → Table
keep_first table scope name place s n =
    first_some (table s n) (if is_same s n scope name then Some place else None)

-- the lesser of two, or the one that there is
abbrev pub lesser_of : Option ℕ → Option ℕ → Option ℕ
lesser_of None b = b
lesser_of (Some a) None = Some a
lesser_of (Some a) (Some b) = Some (if nat_lt b a then b else a)

-- these are the first statements of the kind with each name
abbrev pub AreFirst : NameKind → List Row → NamePlaces → Type 0
AreFirst kind rows places = (s : ℕ) (n : List ℕ) → table_of places s n ≡ first_of kind rows s n
