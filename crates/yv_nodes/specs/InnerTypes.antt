-- Only private clauses cite this: types that are shared.
use Rattle.std.specs.Prelude.{ℕ, List, map, Some, None, slice_get}
use Rattle.std.specs.Rc.{rc_slice_items}
use Rattle.std.specs.declared.rc.RcSlice.{RcSlice}
use Rattle.std.specs.declared.alloc.Global.{Global}
use Rattle.yv_values.specs.Types.{Plain, plain_of}
use Rattle.yv_values.specs.declared.plain.PlainType.{PlainType}
use Rattle.yv_nodes.specs.Rows.{Row}
use Rattle.yv_nodes.specs.NodeTypes.{typed_row}

abbrev pub types_in : RcSlice PlainType Global → List Plain
types_in types = map plain_of (rc_slice_items types)

-- the row of a number with the types that are known of it: where none are, it stays
abbrev pub with_own_types : List (List Plain) → ℕ → Row → Row
with_own_types lists n row = elim (slice_get lists n) [
  | None ↦ row
  | Some types ↦ typed_row types row
]
