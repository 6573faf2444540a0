-- What the statements of files say of the schema nodes that they define (RFC 7950, sections 7.5 to
-- 7.11, 7.13.2 to 7.16, and 7.21.2).
use Rattle.std.specs.Prelude.{ℕ, false, List, [], ◌++◌, Option, Some, None, if◌then◌else◌, codes, map}
use Rattle.std.specs.Option.{unwrap_or}
use Rattle.std.specs.Str.{bytes_eq}
use Rattle.yv_text_statement.specs.Tree.{Head, Tree, Forest, End, Then, trees, name_of}
use Rattle.yv_text_statement.specs.declared.keyword.Keyword.{Keyword}
use Rattle.yv_text_statement.specs.declared.keyword.Keyword.TheVariants as word
use Rattle.yv_text_statement.specs.Keywords.{keyword_of}
use Rattle.yv_link_scopes.specs.Files.{Files}
use Rattle.yv_expand_statements.specs.declared.origin.Origin.{Origin}
use Rattle.yv_expand_statements.specs.declared.origin.Origin.TheVariants as origin
use Rattle.yv_values.specs.Types.{Plain}
use Rattle.yv_node_paths.specs.Steps.{names_of, paths_of}
use Rattle.yv_node_paths.specs.Referral.{pieces_of}
use Rattle.yv_types.specs.declared.leafref_path.TypeLeafref.{TypeLeafref}
use Rattle.yv_node_content.specs.Steps.{Piece, Step}
use Rattle.yv_node_content.specs.Definition.{Definition, blank}
use Rattle.yv_text_statement.specs.TextInFile.{TextInFile}
use Rattle.yv_node_content.specs.declared.kind.NodeKind.{NodeKind}
use Rattle.yv_node_content.specs.declared.kind.NodeKind.TheVariants as kind
use Rattle.yv_node_content.specs.declared.kind.NodeStatus.{NodeStatus}
use Rattle.yv_node_content.specs.declared.kind.NodeStatus.TheVariants.{Current, Deprecated, Obsolete}
use Rattle.yv_node_statements.specs.Kinds.{Kinds, TypeDefaults, TypeReferrals, TypeMeanings}
use Rattle.yv_node_properties.specs.Statements.{argument_of, arguments_among, file_at, first_of, statement_at}
use Rattle.yv_node_statements.specs.Features.{all_expressions, if_features, expressions, with_expressions}
use Rattle.yv_node_properties.specs.Properties.{Properties, defaults_of, last_defaults, last_said, properties_of, substatements_of, statements_of_origin}
use Rattle.yv_node_statements.specs.Values.{with_defaults}

-- what the statements of this keyword define, where they define nodes
abbrev pub node_kind : Keyword → Option NodeKind
node_kind word.Container = Some kind.Container
node_kind word.Leaf = Some kind.Leaf
node_kind word.LeafList = Some kind.LeafList
node_kind word.List = Some kind.List
node_kind word.Choice = Some kind.Choice
node_kind word.Case = Some kind.Case
node_kind word.Anydata = Some kind.Anydata
node_kind word.Anyxml = Some kind.Anyxml
node_kind word.Rpc = Some kind.Rpc
node_kind word.Action = Some kind.Action
node_kind word.Notification = Some kind.Notification
node_kind word.Input = Some kind.Input
node_kind word.Output = Some kind.Output
node_kind _ = None

-- the same; of those that define none, a container
abbrev pub kind_of : Keyword → NodeKind
kind_of keyword = unwrap_or (node_kind keyword) kind.Container

-- the name of a node whose statement has this argument; `input` and `output` statements have none
-- (sections 7.14.2 and 7.14.3)
abbrev pub node_name : NodeKind → List ℕ → List ℕ
node_name kind.Input argument = codes "input"
node_name kind.Output argument = codes "output"
node_name _ argument = argument

-- the types of a block, where a statement of this keyword comes before those that name these
abbrev pub types_at : Kinds → ℕ → Keyword → Head → List Plain → List Plain
types_at kinds file word.Type h others = kinds file h.offset
types_at kinds file _ h others = others

-- what the `type` statement of a block of a file means; it is the first, where there
-- are more
abbrev pub types_in : Kinds → ℕ → Forest → List Plain
types_in kinds file End = []
types_in kinds file (Then h c o) =
    types_at kinds file (keyword_of h.keyword) h (types_in kinds file o)

-- the default that a `type` statement of a file has by its typedefs; none, where there is no
-- statement (section 7.3.4)
abbrev pub default_of_type : TypeDefaults → ℕ → Option Tree → Option TextInFile
default_of_type defaults file None = None
default_of_type defaults file (Some t) = defaults file t.head.offset

-- the status that a text tells (section 7.21.2)
abbrev pub status_of : List ℕ → NodeStatus
status_of text =
    if bytes_eq text (codes "deprecated") then Deprecated
    else (if bytes_eq text (codes "obsolete") then Obsolete else Current)

-- what the key of a list with this block names, as it is written in a file (section 7.8.2)
abbrev pub keys_in : Files → (file : ℕ) → Forest → List (Option Step)
keys_in files file block = names_of files file (argument_of (first_of word.Key block))

-- the paths of each of those of these statements of a file that are `unique` statements, in order
-- (section 7.8.3)
abbrev pub uniques_in : Files → (file : ℕ) → List Tree → List (List (List (Option Step)))
uniques_in files file ts = map (paths_of files file) (arguments_among word.Unique ts)

-- the pieces of the path of a `type` statement of a file, where that is written as a leafref
-- (section 9.9.2)
abbrev pub path_of_type : Files → (file : ℕ) → Tree → List Piece
path_of_type files file t =
    if bytes_eq (name_of t.head) (codes "leafref")
    then pieces_of files file (argument_of (first_of word.Path t.children)) else []

-- the pieces of the leafref path of a type that may be there
abbrev pub path_of_tree : Files → (file : ℕ) → Option Tree → List Piece
path_of_tree files file None = []
path_of_tree files file (Some t) = path_of_type files file t

-- those of the `type` statement of a block
abbrev pub path_in : Files → (file : ℕ) → Forest → List Piece
path_in files file block = path_of_tree files file (first_of word.Type block)

-- a definition with these properties and these defaults of its own: what isn't said isn't
-- mandatory, and bounds no number of entries
abbrev pub with_properties : Properties → List TextInFile → Definition → Definition
with_properties p defaults d = record d {
  stated_config = p.config;
  is_mandatory = unwrap_or p.mandatory false;
  has_presence = p.presence;
  min = unwrap_or p.min 0;
  max = unwrap_or p.max None;
  own_defaults = defaults;
}

-- what a statement of a file says of the node that it defines
abbrev pub definition_of_tree : TypeMeanings → Files → (file : ℕ) → Tree → Definition
definition_of_tree typing files file t =
    let kind : NodeKind = kind_of (keyword_of t.head.keyword) in
    with_properties (properties_of (substatements_of file t)) (defaults_of file t) (record blank {
      file = file;
      offset = t.head.offset;
      line = t.head.line;
      kind = kind;
      name = node_name kind (name_of t.head);
      types = types_in typing.kinds file t.children;
      status = status_of (argument_of (first_of word.Status t.children));
      features = if_features (expressions (trees t.children));
      type_text = argument_of (first_of word.Type t.children);
      path = path_in files file t.children;
      keys = keys_in files file t.children;
      uniques = uniques_in files file (trees t.children);
      type_default = default_of_type typing.defaults file (first_of word.Type t.children);
    })

-- what the numbered statement says
abbrev pub defined_at : TypeMeanings → Files → ℕ → Definition
defined_at typing files number =
    definition_of_tree typing files (file_at files number) (statement_at files number)

-- an input or output that the operation of this number doesn't write is where that does, and says
-- nothing else
abbrev pub unwritten : NodeKind → Files → ℕ → Definition
unwritten kind files number = let head : Head = (statement_at files number).head in record blank {
  file = file_at files number;
  offset = head.offset;
  line = head.line;
  kind = kind;
  name = node_name kind [];
}

-- what is said of a node of this origin where it is defined
abbrev pub definition_of : TypeMeanings → Files → Origin → Definition
definition_of typing files (origin.Statement number) = defined_at typing files number
definition_of typing files (origin.Input number) = unwritten kind.Input files number
definition_of typing files (origin.Output number) = unwritten kind.Output files number

-- what is said of it, as these refines change it: of each property what the last of these
-- statements says, the defaults that the last of them gives that gives some, the features of all,
-- and the values of the defaults that there are then
abbrev pub refined_definition : TypeMeanings → Files → Origin → List ℕ → Definition
refined_definition typing files from refines =
    let d : Definition = definition_of typing files from in
    let statements : List ℕ = statements_of_origin from ++ refines in
    with_defaults files (with_properties (properties_of (last_said files statements))
    (last_defaults files statements)
    (record d { features = with_expressions d.features (all_expressions files refines) }))

-- what a `type` statement of a file says as a leafref; nothing, where there is no statement
abbrev pub leafref_of_tree : TypeReferrals → ℕ → Option Tree → Option TypeLeafref
leafref_of_tree referrals file None = None
leafref_of_tree referrals file (Some t) = referrals file t.head.offset

-- what the type of a node of this origin says as a leafref (section 9.9)
abbrev pub leafref_of : TypeMeanings → Files → Origin → Option TypeLeafref
leafref_of typing files (origin.Statement number) =
    leafref_of_tree typing.referrals (file_at files number)
    (first_of word.Type (statement_at files number).children)
leafref_of typing files (origin.Input number) = None
leafref_of typing files (origin.Output number) = None
