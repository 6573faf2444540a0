-- Inner definitions, which only private clauses and the tables cite: where statements are first.
use Rattle.std.specs.Prelude.{◌≡◌, ℕ, ◌<◌, ◌==◌, ◌&&◌, ◌||◌, Bool, true, List, Option, Some, None, if◌then◌else◌, slice_get}
use Rattle.std.specs.BTreeMap.{BTreeMap, get}
use Rattle.std.specs.Ordering.{nat_cmp}
use Rattle.yv_link_scopes.specs.Rows.{Row}
use Rattle.yv_link_scopes.specs.InnerPlaces.{first_some}
use Rattle.yv_link_scopes.specs.declared.kind.NameKind.TheVariants.{Typedef, Grouping}
use Rattle.yv_link_definitions.specs.Duplicates.{is_of}
use Rattle.yv_link_definitions.specs.References.{ref_of}
use Rattle.yv_link_definitions.specs.declared.references.DefRef.{DefRef}
use Rattle.yv_link_definitions.specs.Places.{placed_in}
use Rattle.yv_link_definitions.specs.declared.place.Place.{Place}
use Rattle.yv_link_definitions.specs.declared.place_list.PlaceList.{PlaceList}

-- the first number of a place is kept
abbrev pub keep_first : (ℕ → ℕ → Option ℕ) → ℕ → ℕ → ℕ → ℕ → ℕ → Option ℕ
keep_first table f o number file offset =
    first_some (table file offset)
    (if (f == file) && (o == offset) then Some number else None)

abbrev pub IsKept : Place → PlaceList → PlaceList → Type 0
IsKept p old new =
    (f o : ℕ) → placed_in new f o ≡ keep_first (placed_in old) p.file p.offset p.number f o

-- a typedef or a grouping
abbrev pub is_definition : Row → Bool
is_definition r = is_of Typedef r || is_of Grouping r

-- the reference to the numbered definition
abbrev pub ref_in : BTreeMap ℕ DefRef → ℕ → Option DefRef
ref_in definitions d = get nat_cmp definitions d

-- there is one to each definition among the first n statements
abbrev pub ReferToFirst : List Row → ℕ → BTreeMap ℕ DefRef → Type 0
ReferToFirst rows n definitions =
    (d : ℕ) (r : Row) → d < n → slice_get rows d ≡ Some r → is_definition r ≡ true
    → ref_in definitions d ≡ Some (ref_of r)
