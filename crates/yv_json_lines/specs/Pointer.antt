-- The pointer to the place of a fault (RFC 6901).
use Rattle.std.specs.Prelude.{ℕ, ◌-◌, ◌==◌, ◌&&◌, List, [], ◌∷◌, ◌++◌, Bool, true, false, Option, Some, None, codes, decimal, if◌then◌else◌}
use Rattle.std.specs.List.{flat_map}
use Rattle.yv_data_leafrefs.specs.Place.{Place}
use Rattle.yv_data_faults.specs.declared.fault.FaultKind.{FaultKind}
use Rattle.yv_data_faults.specs.declared.fault.FaultKind.TheVariants.{Unknown, Shape, Value, MissingKey, Duplicate, Unique, Mandatory, Min, Max, Choice, Reference, State}

-- a byte of a member's name: `~0` for `~`, and `~1` for `/`
abbrev pub pointer_byte : ℕ → List ℕ
pointer_byte b = if b == 126 then codes "~0" else if b == 47 then codes "~1" else b ∷ []

-- the name of a member
abbrev pub pointer_name : List ℕ → List ℕ
pointer_name name = flat_map pointer_byte name

-- the place of an entry or an item in its array, from 0; its number is from 1
abbrev pub index_text : Option ℕ → List ℕ
index_text None = []
index_text (Some n) = codes "/" ++ decimal (n - 1)

-- a step of a path: the member, and the entry or the item in it
abbrev pub place_pointer : Place → List ℕ
place_pointer p = codes "/" ++ pointer_name p.member ++ index_text p.item

-- the steps of a path
abbrev pub places_pointer : List Place → List ℕ
places_pointer ps = flat_map place_pointer ps

-- a text begins with an opening parenthesis
abbrev pub opens : List ℕ → Bool
opens [] = false
opens (b ∷ bs) = b == 40

-- faults of this kind are at choices: two cases of one exist, or what must be there is missing,
-- which may be a choice or a data node
abbrev pub is_of_choices : FaultKind → Bool
is_of_choices Unknown = false
is_of_choices Shape = false
is_of_choices Value = false
is_of_choices MissingKey = false
is_of_choices Duplicate = false
is_of_choices Unique = false
is_of_choices Mandatory = true
is_of_choices Min = false
is_of_choices Max = false
is_of_choices Choice = true
is_of_choices Reference = false
is_of_choices State = false

-- a fault of this kind at a place of this name is at a choice. A path has the name of a choice in
-- parentheses, and no data node has a name that begins with one (RFC 7950, section 6.2). A member
-- that names no node may have any name, and isn't a choice.
abbrev pub is_choice_at : FaultKind → (member : List ℕ) → Bool
is_choice_at kind member = is_of_choices kind && opens member

-- the places without the last one, where that is a choice's, which no member writes
abbrev pub without_choice : FaultKind → List Place → List Place
without_choice kind [] = []
without_choice kind (p ∷ []) = if is_choice_at kind p.member then [] else p ∷ []
without_choice kind (p ∷ q ∷ ps) = p ∷ without_choice kind (q ∷ ps)

-- the pointer to the place of a fault of this kind, or to where it would be if the member were
-- there; the whole document has the empty pointer
abbrev pub pointer_text : FaultKind → List Place → List ℕ
pointer_text kind ps = places_pointer (without_choice kind ps)
