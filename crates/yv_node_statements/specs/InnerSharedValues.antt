-- Only private clauses cite this: the values of defaults of typedefs, which nodes share.
use Rattle.std.specs.Prelude.{◌≡◌, ℕ, ◌==◌, Bool, ◌&&◌, List, Option, Some, option_to_list}
use Rattle.std.specs.Ordering.{nat_cmp, ordering_then}
use Rattle.std.specs.BTreeMap.{BTreeMap, get_by}
use Rattle.std.specs.declared.alloc.Global.{Global}
use Rattle.std.specs.declared.cmp.Ordering.{Ordering}
use Rattle.std.specs.declared.rc.Rc.{Rc}
use Rattle.yv_link_scopes.specs.Files.{Files}
use Rattle.yv_values.specs.Types.{Plain}
use Rattle.yv_values.specs.Values.{Val}
use Rattle.yv_node_content.specs.Definition.{Definition}
use Rattle.yv_text_statement.specs.TextInFile.{TextInFile}
use Rattle.yv_types.specs.Types.{default_at, sharing_at}
use Rattle.yv_types.specs.declared.type_table.Types.{Types}
use Rattle.yv_types.specs.Scopes.{AreScopes}
use Rattle.yv_node_statements.specs.declared.reader.DefaultReader.{DefaultReader}
use Rattle.yv_node_statements.specs.InnerRefines.{are_none}
use Rattle.yv_node_statements.specs.KnownTypes.{kinds_of}
use Rattle.yv_node_statements.specs.Values.{values_of}
use Rattle.yv_node_content.specs.Kinds.{has_values}

-- the values that this default of a type has by these plain types
abbrev pub type_values : Files → List Plain → Option TextInFile → List Val
type_values files types default = values_of files types (option_to_list default)

-- these are the values that the default of its type has by the types of a node
abbrev pub IsByType : Files → Definition → List Val → Type 0
IsByType files d values = values ≡ type_values files d.types d.type_default

-- of defaults, only that of its type is said of a node
abbrev pub has_type_default : Definition → Bool
has_type_default d = has_values d.kind && are_none d.own_defaults && d.min == 0

-- the number of a list of plain types, and that of a typedef
abbrev pub Numbers : Type 0
Numbers = ℕ × ℕ

abbrev pub numbers_cmp : Numbers → Numbers → Ordering
numbers_cmp j k = ordering_then (nat_cmp j.0 k.0) (nat_cmp j.1 k.1)

-- these are the values of the default of each `type` statement with these numbers
abbrev pub AreValues : Types → Files → Numbers → List Val → Type 0
AreValues types files numbers values =
    (file offset : ℕ) → sharing_at types file offset ≡ Some numbers
    → values ≡ type_values files (kinds_of types file offset) (default_at types file offset)

-- what is kept for two numbers is the values of the default of each `type` statement with these
-- numbers
abbrev pub AreShared : Types → Files → BTreeMap Numbers (Rc (List Val) Global) → Type 0
AreShared types files shared = (numbers : Numbers) (values : Rc (List Val) Global)
    → get_by (numbers_cmp numbers) shared ≡ Some values
    → AreValues types files numbers values.value

-- the scopes are those of these files, and the values those of the defaults of their `type`
-- statements
pub record IsReader (types : Types) (files : Files) (reader : DefaultReader) : Type 0 where
  pub scopes : AreScopes files reader.scopes.items
  pub shared : AreShared types files reader.shared
