-- What is known of the `type` statements of files when their types were read.
use Rattle.std.specs.Prelude.{[]}
use Rattle.std.specs.Option.{unwrap_or}
use Rattle.yv_types.specs.Types.{default_at, referring_at, space_at}
use Rattle.yv_types.specs.declared.type_table.Types.{Types}
use Rattle.yv_node_statements.specs.Kinds.{Kinds, TypeMeanings}

-- the plain types that are known; no types, where none are known
abbrev pub kinds_of : Types → Kinds
kinds_of types file offset = unwrap_or (space_at types file offset) []

-- what is known of the meaning of `type` statements
abbrev pub typing_of : Types → TypeMeanings
typing_of types =
    record { kinds = kinds_of types; defaults = default_at types; referrals = referring_at types }
