-- What items are (RFC 7950, sections 7.13 and 7.17).
use Rattle.std.specs.Prelude.{ℕ, ◌==◌, ◌&&◌, Bool, false, List, Option, Some, None, slice_get}
use Rattle.yv_expand_rounds.specs.declared.label.Label.{Label}
use Rattle.yv_expand_statements.specs.Kinds.{is_node}

-- an item is there, is a node, and has this name
abbrev pub is_some_named : ℕ → Option Label → Bool
is_some_named name None = false
is_some_named name (Some l) = is_node l.kind && (l.name == name)

-- the item is a node of this name
abbrev pub is_named : List Label → ℕ → ℕ → Bool
is_named labels name i = is_some_named name (slice_get labels i)
