-- The values that defaults give leafs and leaf-lists (RFC 7950, sections 7.6.1, 7.7.2 and 9.12).
use Rattle.std.specs.Prelude.{ℕ, nat_le, Bool, true, false, ◌&&◌, List, [], ◌∷◌, ◌++◌, map, length, Option, Some, None, if◌then◌else◌, slice_get}
use Rattle.std.specs.Option.{option_and_then, option_map}
use Rattle.yv_link_scopes.specs.Files.{Files, brief_of}
use Rattle.yv_values.specs.Scopes.{Place}
use Rattle.yv_values.specs.Types.{Plain}
use Rattle.yv_values.specs.Values.{Val}
use Rattle.yv_node_content.specs.Definition.{Definition, defaults_said}
use Rattle.yv_text_statement.specs.TextInFile.{TextInFile}
use Rattle.yv_node_content.specs.declared.kind.NodeKind.{NodeKind}
use Rattle.yv_node_content.specs.declared.kind.NodeKind.TheVariants as kind
use Rattle.yv_types.specs.Scopes.{place_at}
use Rattle.yv_types.specs.Values.{first_value}
use Rattle.yv_node_content.specs.Kinds.{has_values}

-- by which the texts of a file are read
abbrev pub scope_of : Files → ℕ → Option Place
scope_of files file = option_map (place_at files file) (slice_get (map brief_of files) file)

-- the value that a text has by these types, in the file in which it is written
abbrev pub value_of : Files → List Plain → TextInFile → Option Val
value_of files types w = option_and_then (first_value types w.text) (scope_of files w.file)

-- a value that may be there, as a list
abbrev pub alone : Option Val → List Val
alone None = []
alone (Some v) = v ∷ []

-- the values of texts, in order: those that are not read have none
abbrev pub values_of : Files → List Plain → List TextInFile → List Val
values_of files types [] = []
values_of files types (w ∷ ws) = alone (value_of files types w) ++ values_of files types ws

-- these are no more defaults than a node may have
abbrev pub are_few : List TextInFile → Bool
are_few said = nat_le (length said) 1024

-- the values of a node of this kind by these defaults; of too many defaults none is read
abbrev pub values_at : Files → NodeKind → List Plain → List TextInFile → List Val
values_at files kind types said =
    if has_values kind && are_few said then values_of files types said else []

-- those of the defaults that are said of a node
abbrev pub defaults_of : Files → Definition → List Val
defaults_of files d = values_at files d.kind d.types (defaults_said d)

-- a definition with the values of its defaults
abbrev pub with_defaults : Files → Definition → Definition
with_defaults files d = record d { defaults = defaults_of files d }
