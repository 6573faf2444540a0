-- What a value is (RFC 7950, section 9): its kind and content. Two values are the same where they
-- are one of these.
use Rattle.std.specs.Prelude.{ℕ, ℤ, List, Bool, map}
use Rattle.std.specs.Rc.{rc_str_bytes, rc_slice_items}
use Rattle.std.specs.declared.rc.RcStr.{RcStr}
use Rattle.std.specs.declared.alloc.Global.{Global}
use Rattle.yv_base_numbers.specs.Numbers.{integer}
use Rattle.yv_base_numbers.specs.declared.integer.Integer.TheVariants.{Natural, Below}
use Rattle.yv_values.specs.declared.value.Atom.{Atom}
use Rattle.yv_values.specs.declared.value.Atom.TheVariants as atom

-- A decimal is its number of digits after the point and the number scaled by them. A set of bits is
-- its names, in ascending order by bytes. An identity is its module and its name.
pub data Val : Type 0 where
  whole : ℤ → Val
  decimal : ℕ → ℤ → Val
  text : List ℕ → Val
  boolean : Bool → Val
  name : List ℕ → Val
  bits : List (List ℕ) → Val
  binary : List ℕ → Val
  identity : List ℕ → List ℕ → Val
  empty : Val

-- the bytes of each text
abbrev pub texts : List (RcStr Global) → List (List ℕ)
texts ss = map (λ s. rc_str_bytes s) ss

-- the value that the program keeps
abbrev pub value_of : Atom → Val
value_of (atom.Whole n) = whole (integer n)
value_of (atom.Decimal d n) = decimal d (integer (Natural n))
value_of (atom.DecimalBelow d n) = decimal d (integer (Below n))
value_of (atom.Text s) = text (rc_str_bytes s)
value_of (atom.Boolean b) = boolean b
value_of (atom.Name s) = name (rc_str_bytes s)
value_of (atom.Bits ss) = bits (texts (rc_slice_items ss))
value_of (atom.Binary v) = binary (rc_slice_items v)
value_of (atom.Identity s m) = identity (rc_str_bytes m) (rc_str_bytes s)
value_of atom.Empty = empty
