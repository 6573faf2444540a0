-- The value of a default's text, by the module and the prefixes of the file in which it is written.
use Rattle.std.specs.Prelude.{ℕ, ◌+◌, List, [], ◌∷◌, take, drop, position, true, false, ◌==◌, codes, Option, Some, None, option_and_then, String, string_bytes, map, if◌then◌else◌}
use Rattle.std.specs.Str.{bytes_eq}
use Rattle.base64.specs.Engines.{standard}
use Rattle.base64.specs.GeneralPurpose.{decode_of}
use Rattle.std.specs.declared.alloc.Global.{Global}
use Rattle.yv_values.specs.declared.scope.Scope.{Scope}
use Rattle.yv_base_numbers.specs.Numbers.{based_integer_of, scaled_of}
use Rattle.yv_values.specs.Reads.{whole_in, decimal_in}
use Rattle.yv_values.specs.Texts.{text_in, name_in, bits_in, binary_in, identity_in}
use Rattle.yv_values.specs.Types.{Plain, wholes, decimals, strings, booleans, names, flags, octets, identities, empties, Id}
use Rattle.yv_values.specs.Values.{Val, boolean}

-- a prefix and its module
pub record PrefixBinding : Type 0 where
  pub prefix : List ℕ
  pub module_name : List ℕ

-- the module of a file, and its prefixes
pub record Place : Type 0 where
  pub module_name : List ℕ
  pub bindings : List PrefixBinding

-- a prefix with the module that it refers to
abbrev pub binding_of : String Global × String Global → PrefixBinding
binding_of p = record { prefix = string_bytes p.0; module_name = string_bytes p.1 }

-- a module with the prefixes that are declared there
abbrev pub place_of : Scope → Place
place_of s =
    record { module_name = string_bytes s.module; bindings = map binding_of s.prefixes.items }

-- the module that a prefix means
abbrev pub module_of : List PrefixBinding → List ℕ → Option (List ℕ)
module_of [] prefix = None
module_of (b ∷ bs) prefix =
    if bytes_eq b.prefix prefix then Some b.module_name else module_of bs prefix

-- an identity without prefix is of the file's module
abbrev pub identity_in_scope : List Id → Place → List ℕ → Option ℕ → Option Val
identity_in_scope ids place s None = identity_in ids place.module_name s
identity_in_scope ids place s (Some i) =
    option_and_then (λ module_name. identity_in ids module_name (drop (i + 1) s))
    (module_of place.bindings (take i s))

-- the Boolean value that a text writes
abbrev pub truth_of : List ℕ → Option Val
truth_of s =
    if bytes_eq s (codes "true") then Some (boolean true)
    else (if bytes_eq s (codes "false") then Some (boolean false) else None)

-- the value of a text by its type (RFC 7950, section 9); no text is a value of empty
abbrev pub text_value : Plain → List ℕ → Place → Option Val
text_value (wholes is_text spans) s place = option_and_then (whole_in spans) (based_integer_of s)
text_value (decimals digits spans) s place =
    option_and_then (decimal_in digits spans) (scaled_of digits s)
text_value (strings lengths tests) s place = text_in lengths tests s
text_value booleans s place = truth_of s
text_value (names ns) s place = name_in ns s
text_value (flags ns) s place = bits_in ns s
text_value (octets lengths) s place = binary_in lengths (decode_of standard s)
text_value (identities ids) s place = identity_in_scope ids place s (position (λ b. b == 58) s)
text_value empties s place = None
