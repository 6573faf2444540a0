-- What is at numbers.
use Rattle.std.specs.Prelude.{ℕ, zero, suc, List, Option, None, slice_get, slice_index_or}
use Rattle.yv_base_tables.specs.declared.table.Table.{Table}

-- what is at a place that is counted from 1; nothing at 0
abbrev pub item_from : {T : Type 0} → List T → ℕ → Option T
item_from items zero = None
item_from items (suc place) = slice_get items place

-- what is at a number, if anything does
abbrev pub item_of : {T : Type 0} → Table T → ℕ → Option T
item_of table number = item_from table.items.items (slice_index_or table.places.items number 0)
