-- What is at some of many places.
use Rattle.std.specs.Prelude.{ℕ, List, Option, slice_get}
use Rattle.std.specs.Option.{option_and_then}
use Rattle.std.specs.Ordering.{nat_cmp}
use Rattle.std.specs.BTreeMap.{get}
use Rattle.yv_base_tables.specs.declared.sparse.Sparse.{Sparse}

-- what is at a place of a list, if anything does; nothing past the last
abbrev pub item_at : {T : Type 0} → List (Option T) → ℕ → Option T
item_at items place = option_and_then (λ item. item) (slice_get items place)

-- the same of what is kept of one
abbrev pub at : {T : Type 0} → Sparse T → ℕ → Option T
at sparse place = get nat_cmp sparse.map place
