-- Inner definitions, which only private clauses and the tables cite: plain types by number.
use Rattle.std.specs.Prelude.{ℕ, Option}
use Rattle.std.specs.Option.{option_map}
use Rattle.yv_base_tables.specs.Table.{item_of}
use Rattle.yv_base_tables.specs.declared.table.Table.{Table}
use Rattle.yv_values.specs.Types.{Plain, plain_of}
use Rattle.yv_values.specs.declared.plain.PlainType.{PlainType}

-- the plain type at a place, if there is one
abbrev pub plain_at : Table PlainType → ℕ → Option Plain
plain_at types k = option_map plain_of (item_of types k)
