-- What a statement says of the schema node that it defines (RFC 7950, section 7).
use Rattle.std.specs.Prelude.{ℕ, ◌==◌, Bool, List, [], Option, None, true, false, ◌∷◌, map, option_to_list, slice_get, if◌then◌else◌}
use Rattle.std.specs.declared.vec.Vec.{Vec}
use Rattle.std.specs.declared.alloc.Global.{Global}
use Rattle.yv_text_statement.specs.TextInFile.{TextInFile, or_list}
use Rattle.yv_values.specs.Types.{Plain}
use Rattle.yv_values.specs.Values.{Val}
use Rattle.yv_node_content.specs.Steps.{Piece, Step}
use Rattle.yv_node_content.specs.declared.kind.NodeKind.{NodeKind}
use Rattle.yv_node_content.specs.declared.kind.NodeKind.TheVariants.{Leaf}
use Rattle.yv_node_content.specs.declared.kind.NodeStatus.{NodeStatus}
use Rattle.yv_node_content.specs.declared.kind.NodeStatus.TheVariants.{Current}

-- what a statement says of the schema node that it defines: `file`, `offset` and `line` say where
-- its keyword is. `keys` has the names of its `key` statement, each the one step of a path, and
-- `uniques` the paths of each `unique` statement. A step is None where its prefix refers to no
-- module. `path` has the pieces of the path of its leafref, as it is written: nothing where its
-- type isn't written as a leafref
pub record Definition : Type 0 where
  pub file : ℕ
  pub offset : ℕ
  pub line : ℕ
  pub kind : NodeKind
  pub name : List ℕ
  pub types : List Plain
  pub has_presence : Bool
  pub status : NodeStatus
  pub features : List ℕ
  pub type_text : List ℕ
  pub path : List Piece
  pub stated_config : Option Bool
  pub is_mandatory : Bool
  pub min : ℕ
  pub max : Option ℕ
  pub keys : List (Option Step)
  pub uniques : List (List (List (Option Step)))
  pub own_defaults : List TextInFile
  pub type_default : Option TextInFile
  pub defaults : List Val

-- its own default, where it can have one alone, as a leaf and a choice can
abbrev pub own_default : Definition → Option TextInFile
own_default d = slice_get d.own_defaults 0

-- the defaults that are said of a node: its own, or else that of its type, but not where entries
-- are asked for (sections 7.3.4, 7.6.1 and 7.7.2)
abbrev pub defaults_said : Definition → List TextInFile
defaults_said d = or_list d.own_defaults (if d.min == 0 then option_to_list d.type_default else [])

-- a path has no steps
abbrev pub is_empty : List (Option Step) → Bool
is_empty [] = true
is_empty (step ∷ steps) = false

-- the paths of a `unique` statement
abbrev pub paths_in : Vec (Vec (Option Step) Global) Global → List (List (Option Step))
paths_in paths = map (λ path. path.items) paths.items

-- what is where no statement says anything
abbrev pub blank : Definition
blank = record {
  file = 0;
  offset = 0;
  line = 0;
  kind = Leaf;
  name = [];
  types = [];
  has_presence = false;
  status = Current;
  features = [];
  type_text = [];
  path = [];
  stated_config = None;
  is_mandatory = false;
  min = 0;
  max = None;
  keys = [];
  uniques = [];
  own_defaults = [];
  type_default = None;
  defaults = [];
}

-- what is said of a node, but that its values have these types
abbrev pub with_types : List Plain → Definition → Definition
with_types types d = record {
  file = d.file;
  offset = d.offset;
  line = d.line;
  kind = d.kind;
  name = d.name;
  types = types;
  has_presence = d.has_presence;
  status = d.status;
  features = d.features;
  type_text = d.type_text;
  path = d.path;
  stated_config = d.stated_config;
  is_mandatory = d.is_mandatory;
  min = d.min;
  max = d.max;
  keys = d.keys;
  uniques = d.uniques;
  own_defaults = d.own_defaults;
  type_default = d.type_default;
  defaults = d.defaults;
}
