-- What the nodes above a schema node make of it.
use Rattle.std.specs.Prelude.{◌==◌, ℕ, Bool, true, false, not, ◌&&◌, ◌||◌, List, [], ◌∷◌, Option, Some, None}
use Rattle.std.specs.List.{list_any}
use Rattle.std.specs.Option.{unwrap_or}
use Rattle.std.specs.Str.{bytes_eq}
use Rattle.yv_node_content.specs.Steps.{Step}
use Rattle.yv_node_content.specs.Kinds.{is_input, is_leaf, is_operation_or_notification}
use Rattle.yv_node_content.specs.Definition.{Definition}
use Rattle.yv_nodes.specs.Member.{data_module_file, member_name}
use Rattle.yv_nodes.specs.Tree.{Label}

-- In what follows `above` are the nodes above one, the nearest first.

-- one of the nodes is an rpc, an action or a notification
abbrev pub in_operation_or_notification : (above : List Label) → Bool
in_operation_or_notification [] = false
in_operation_or_notification (l ∷ ls) =
    is_operation_or_notification l.defined.kind || in_operation_or_notification ls

-- whether a node without a `config` statement is configuration: as the one just above, and at the
-- top it is (RFC 7950, section 7.21.1)
abbrev pub inherited_config : (above : List Label) → Bool
inherited_config [] = true
inherited_config (l ∷ ls) = l.is_config

-- what is stated, or else what is inherited
abbrev pub stated_or : Option Bool → Bool → Bool
stated_or None inherited = inherited
stated_or (Some stated) inherited = stated

-- a node is configuration: by its `config` statement, or as the one just above; nothing is in an
-- operation or a notification
abbrev pub is_configuration : Definition → (above : List Label) → Bool
is_configuration d above =
    not (is_operation_or_notification d.kind || in_operation_or_notification above)
    && stated_or d.stated_config (inherited_config above)

-- a name in the key of a list of the module `list_module_file` is that of a node of the module
-- `module_file` and of this name: a name without a prefix is of the list's module
abbrev pub is_key_name : (list_module_file module_file : ℕ) → (name : List ℕ) → Option Step → Bool
is_key_name list_module_file module_file name None = false
is_key_name list_module_file module_file name (Some s) =
    bytes_eq name s.name && module_file == unwrap_or s.module_file list_module_file

-- the node just above has a key of the module `module_file` and of this name (RFC 7950, section
-- 7.8.2)
abbrev pub has_key_called : (above : List Label) → (module_file : ℕ) → (name : List ℕ) → Bool
has_key_called [] module_file name = false
has_key_called (l ∷ ls) module_file name =
    list_any (is_key_name l.module_file module_file name) l.defined.keys

-- the node just above is an operation's input, or is in it
abbrev pub in_input : (above : List Label) → Bool
in_input [] = false
in_input (l ∷ ls) = l.is_input

-- what a schema node is of the module of this name, the number of whose file is `module_file`, by
-- what its statement and refines say, and by the nodes above it
abbrev pub label_of : Definition → (module_file : ℕ) → (module_name : List ℕ) → (above : List Label)
    → Label
label_of d module_file module_name above = record {
  defined = d;
  module_file = module_file;
  module_name = module_name;
  member = member_name (data_module_file above) module_file module_name d.name;
  is_config = is_configuration d above;
  is_key = is_leaf d.kind && has_key_called above module_file d.name;
  is_input = is_input d.kind || in_input above;
}
