-- What the names of a type tell.
use Rattle.std.specs.Prelude.{ℕ, Option}
use Rattle.std.specs.Option.{option_map}
use Rattle.yv_base_tables.specs.Table.{item_of}
use Rattle.yv_base_tables.specs.declared.table.Table.{Table}
use Rattle.yv_type_enums.specs.Names.{is_value, number_of}
use Rattle.yv_type_enums.specs.Types.{NamesView}
use Rattle.yv_type_enums.specs.declared.table.TypeNames.{TypeNames}

-- what contracts see of a type's names
abbrev pub told_of : TypeNames → NamesView
told_of names =
    record { kind = names.kind; number = number_of names.names; value = is_value names.names }

-- what is known at a place, if anything is
abbrev pub told_at : Table TypeNames → ℕ → Option NamesView
told_at types k = option_map told_of (item_of types k)
