-- The line of a fault (its kind, and the path to its place).
use Rattle.std.specs.Prelude.{ℕ, ◌+◌, ◌-◌, ◌/◌, ◌%◌, ◌==◌, ◌&&◌, List, [], ◌∷◌, ◌++◌, Bool, not, nat_le, nat_lt, Option, Some, None, codes, decimal, if◌then◌else◌}
use Rattle.std.specs.List.{flat_map}
use Rattle.yv_data_faults.specs.declared.fault.FaultKind.{FaultKind}
use Rattle.yv_data_faults.specs.declared.fault.FaultKind.TheVariants.{Unknown, Shape, Value, MissingKey, Duplicate, Unique, Mandatory, Min, Max, Choice, Reference, State}
use Rattle.yv_data_leafrefs.specs.Place.{Place}
use Rattle.yv_data_faults.specs.Flaw.{Flaw}

-- the name of a kind of fault
abbrev pub kind_name : FaultKind → List ℕ
kind_name Unknown = codes "unknown"
kind_name Shape = codes "shape"
kind_name Value = codes "value"
kind_name MissingKey = codes "missing-key"
kind_name Duplicate = codes "duplicate"
kind_name Unique = codes "unique"
kind_name Mandatory = codes "mandatory"
kind_name Min = codes "min"
kind_name Max = codes "max"
kind_name Choice = codes "choice"
kind_name Reference = codes "reference"
kind_name State = codes "state"

-- a visible ASCII character but for the percent sign
abbrev pub is_plain : ℕ → Bool
is_plain b = nat_le 33 b && nat_le b 126 && not (b == 37)

-- an upper case digit
abbrev pub hexadecimal : ℕ → ℕ
hexadecimal n = if nat_lt n 10 then 48 + n else 65 + n - 10

-- a byte of a name as a line shows it: plain, or as two hexadecimal digits after `%`
abbrev pub escaped_byte : ℕ → List ℕ
escaped_byte b =
    if is_plain b then b ∷ [] else 37 ∷ hexadecimal (b / 16) ∷ hexadecimal (b % 16) ∷ []

-- a name as a line shows it
abbrev pub escape : List ℕ → List ℕ
escape name = flat_map escaped_byte name

-- the number of a list entry or item, in brackets
abbrev pub item_text : Option ℕ → List ℕ
item_text None = []
item_text (Some n) = codes "[" ++ decimal n ++ codes "]"

-- a step of a path
abbrev pub place_text : Place → List ℕ
place_text p = codes "/" ++ escape p.member ++ item_text p.item

-- the steps of a path
abbrev pub places_text : List Place → List ℕ
places_text ps = flat_map place_text ps

-- a path; `/` is the whole document
abbrev pub path_text : List Place → List ℕ
path_text [] = codes "/"
path_text (p ∷ ps) = places_text (p ∷ ps)

-- the line of a fault: its kind, its path, and the number of a `unique` statement
abbrev pub line_text : Flaw → List ℕ
line_text f = kind_name f.kind ++ codes " " ++ path_text f.path
    ++ (if f.number == 0 then [] else codes " " ++ decimal f.number)
