-- Whether two values are the same (RFC 7950, section 9): of one kind, with one content.
use Rattle.std.specs.Prelude.{List, [], ◌∷◌, Bool, true, false, ◌==◌, ◌&&◌, ◌||◌}
use Rattle.std.specs.Cmp.Lexicographic.{pointwise}
use Rattle.std.specs.Ordering.{int_eq}
use Rattle.std.specs.Str.{bytes_eq}
use mathlib.Core.Bool.{beq}
use Rattle.yv_values.specs.Values.{Val, whole, decimal, text, boolean, name, bits, binary, identity, empty}

-- two values are the same
abbrev pub same_value : Val → Val → Bool
same_value (whole x) (whole y) = int_eq x y
same_value (decimal d x) (decimal e y) = d == e && int_eq x y
same_value (text x) (text y) = bytes_eq x y
same_value (boolean x) (boolean y) = beq x y
same_value (name x) (name y) = bytes_eq x y
same_value (bits xs) (bits ys) = pointwise bytes_eq xs ys
same_value (binary x) (binary y) = bytes_eq x y
same_value (identity m x) (identity n y) = bytes_eq m n && bytes_eq x y
same_value empty empty = true
same_value _ _ = false

-- tuples are the same part by part
abbrev pub same_values : List Val → List Val → Bool
same_values [] [] = true
same_values (v ∷ vs) (w ∷ ws) = same_value v w && same_values vs ws
same_values _ _ = false

-- some value of these is the same
abbrev pub is_among : Val → List Val → Bool
is_among v [] = false
is_among v (w ∷ ws) = same_value v w || is_among v ws

-- two of these values are the same
abbrev pub has_same : List Val → Bool
has_same [] = false
has_same (v ∷ vs) = is_among v vs || has_same vs
