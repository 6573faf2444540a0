-- What a JSON value is, read by plain types (RFC 7951, section 6).
use Rattle.std.specs.Prelude.{ℕ, ◌+◌, ℤ, List, [], ◌∷◌, Bool, true, false, ◌==◌, Option, Some, None, is_some, option_and_then, position, if◌then◌else◌}
use Rattle.base64.specs.Engines.{standard}
use Rattle.base64.specs.GeneralPurpose.{decode_of}
use Rattle.serde_json.specs.Data.{Data, boolean as truth, number, string, array, Items, item, no_items}
use Rattle.serde_json.specs.Find.{as_integer, as_null}
use Rattle.yv_base_numbers.specs.Intervals.{Interval, are_among}
use Rattle.yv_base_numbers.specs.Numbers.{integer_of, scaled_of}
use Rattle.yv_values.specs.Texts.{text_in, name_in, bits_in, binary_in, identity_at}
use Rattle.yv_values.specs.Types.{Plain, wholes, decimals, strings, booleans, names, flags, octets, identities, empties}
use Rattle.yv_values.specs.Values.{Val, whole, decimal, boolean, empty}

-- a whole number, if it is in one of the intervals
abbrev pub whole_in : List Interval → ℤ → Option Val
whole_in spans z = if are_among spans z then Some (whole z) else None

-- a decimal, if it is in one of the intervals
abbrev pub decimal_in : ℕ → List Interval → ℤ → Option Val
decimal_in digits spans z = if are_among spans z then Some (decimal digits z) else None

-- numbers of 64 bits are texts, the others numbers that aren't floats
abbrev pub whole_from : Bool → List Interval → Data → Option Val
whole_from true spans (string s) = option_and_then (whole_in spans) (integer_of s)
whole_from false spans (number n) = option_and_then (whole_in spans) (as_integer n)
whole_from _ spans _ = None

-- the value of a Boolean (RFC 7951, section 6.3)
abbrev pub boolean_from : Data → Option Val
boolean_from (truth b) = Some (boolean b)
boolean_from _ = None

-- `[null]`
abbrev pub is_lone_null : Items → Bool
is_lone_null no_items = false
is_lone_null (item d no_items) = is_some (as_null d)
is_lone_null (item d (item e ds)) = false

-- the value of type empty (RFC 7951, section 6.9)
abbrev pub empty_from : Data → Option Val
empty_from (array ds) = if is_lone_null ds then Some empty else None
empty_from _ = None

-- the value of a JSON text by a type that JSON writes as texts
abbrev pub string_in : Plain → List ℕ → List ℕ → Option Val
string_in (decimals digits spans) m s =
    option_and_then (decimal_in digits spans) (scaled_of digits s)
string_in (strings lengths tests) m s = text_in lengths tests s
string_in (names ns) m s = name_in ns s
string_in (flags ns) m s = bits_in ns s
string_in (octets lengths) m s = binary_in lengths (decode_of standard s)
string_in (identities ids) m s = identity_at ids m s (position (λ b. b == 58) s)
string_in _ m s = None

-- the value that a string writes
abbrev pub string_from : Plain → List ℕ → Data → Option Val
string_from p m (string s) = string_in p m s
string_from p m _ = None

-- the value by the type and the JSON kind; the module is that of the leaf that is written
abbrev pub read_kind : Plain → List ℕ → Data → Option Val
read_kind (wholes is_text spans) m d = whole_from is_text spans d
read_kind booleans m d = boolean_from d
read_kind empties m d = empty_from d
read_kind p m d = string_from p m d

-- the first value, or else the second
abbrev pub or_else : Option Val → Option Val → Option Val
or_else (Some v) w = Some v
or_else None w = w

-- the value of the first type that has one
abbrev pub first_read : List Plain → List ℕ → Data → Option Val
first_read [] m d = None
first_read (t ∷ ts) m d = or_else (read_kind t m d) (first_read ts m d)

-- the place of that type from 1, or the number of types where none has one
abbrev pub types_tried : List Plain → List ℕ → Data → ℕ
types_tried [] m d = 0
types_tried (t ∷ ts) m d = 1 + (if is_some (read_kind t m d) then 0 else types_tried ts m d)
