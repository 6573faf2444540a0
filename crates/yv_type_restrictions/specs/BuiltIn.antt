-- The built-in types whose values are numbers, texts, octets or a truth value, and empty, before
-- any restriction (RFC 7950, sections 9.2 to 9.5, 9.8 and 9.11).
use Rattle.std.specs.Prelude.{ℕ, ◌-◌, ◌^◌, pos, negsuc, true, false, List, [], ◌∷◌, Option, Some, None, codes, if◌then◌else◌}
use Rattle.std.specs.Str.{bytes_eq}
use Rattle.yv_base_numbers.specs.Intervals.{Interval}
use Rattle.yv_values.specs.Types.{Plain, wholes, decimals, strings, booleans, octets, empties}

-- the whole numbers of so many bits, one of them for the sign
abbrev pub signed_range : ℕ → List Interval
signed_range bits =
    record { low = negsuc (2 ^ (bits - 1) - 1); high = pos (2 ^ (bits - 1) - 1) } ∷ []

-- the natural numbers of so many bits
abbrev pub unsigned_range : ℕ → List Interval
unsigned_range bits = record { low = pos 0; high = pos (2 ^ bits - 1) } ∷ []

-- the type of whole numbers of this name (section 9.2); JSON writes numbers of 64 bits as texts
-- (RFC 7951, section 6.1)
abbrev pub whole_type : List ℕ → Option Plain
whole_type name =
    if bytes_eq name (codes "int8") then Some (wholes false (signed_range 8))
    else if bytes_eq name (codes "int16") then Some (wholes false (signed_range 16))
    else if bytes_eq name (codes "int32") then Some (wholes false (signed_range 32))
    else if bytes_eq name (codes "int64") then Some (wholes true (signed_range 64))
    else if bytes_eq name (codes "uint8") then Some (wholes false (unsigned_range 8))
    else if bytes_eq name (codes "uint16") then Some (wholes false (unsigned_range 16))
    else if bytes_eq name (codes "uint32") then Some (wholes false (unsigned_range 32))
    else if bytes_eq name (codes "uint64") then Some (wholes true (unsigned_range 64))
    else None

-- the type of this name; decimal64 has so many digits after the point
abbrev pub built_in : List ℕ → ℕ → Option Plain
built_in name digits =
    if bytes_eq name (codes "decimal64") then Some (decimals digits (signed_range 64))
    else if bytes_eq name (codes "string") then Some (strings (unsigned_range 64) [])
    else if bytes_eq name (codes "binary") then Some (octets (unsigned_range 64))
    else if bytes_eq name (codes "boolean") then Some booleans
    else if bytes_eq name (codes "empty") then Some empties
    else whole_type name
