-- The augments of modules that add nodes, as nodes of the tree to which files expand (RFC 7950,
-- section 7.17).
use Rattle.std.specs.Prelude.{◌≡◌, ℕ, ◌+◌, List, [], ◌∷◌, ◌++◌, map, Option, Some, None, slice_get, slice_index_or}
use Rattle.yv_text_statement.specs.Selection.{ModuleChoice}
use Rattle.yv_base_tables.specs.Families.{numbers_at}
use Rattle.yv_link_scopes.specs.Files.{Files, brief_of, module_file_at}
use Rattle.yv_link_scopes.specs.RowList.{rows_of}
use Rattle.yv_link_scopes.specs.Rows.{Row, name_in}
use Rattle.yv_expand_statements.specs.StatementBlocks.{augments_of}
use Rattle.yv_expand_statements.specs.FileOrder.{marks_of}
use Rattle.yv_expand_definition.specs.Nodes.{Forest, Node, node, none}
use Rattle.yv_nodes.specs.Rows.{Note}
use Rattle.yv_schema.specs.Schema.{Basis, HoldsOfBasis, node_list}

-- the numbers of the nodes that the augment of a module gives
abbrev pub nodes_added : Basis → (augment : ℕ) → List ℕ
nodes_added b augment = numbers_at (map (λ (g : Node). g.giver) (node_list b.nodes)) augment

-- how many nodes there are, at any depth
abbrev pub count : Forest → ℕ
count none = 0
count (node g below behind) = 1 + count below + count behind

-- of each node in order the number of the one above it, where the first has the number `first`
abbrev pub parents_from : (parent : Option ℕ) → (first : ℕ) → Forest → List (Option ℕ)
parents_from parent first none = []
parents_from parent first (node g below behind) =
    parent
    ∷ parents_from (Some first) (first + 1) below
    ++ parents_from parent (first + 1 + count below) behind

-- the node above those that an augment gives: the one above the first of them
abbrev pub target_of : Basis → (added : List ℕ) → Option ℕ
target_of b [] = None
target_of b (n ∷ others) = slice_index_or (parents_from None 0 b.nodes) n None

-- an augment statement that gives these nodes below a target is noted by its module and argument;
-- one of which nothing is left isn't
abbrev pub note_of_augment : Files → Option Row → (target : Option ℕ) → (added : List ℕ) → List Note
note_of_augment files None target added = []
note_of_augment files (Some r) None added = []
note_of_augment files (Some r) (Some target) added = record {
  module_file = module_file_at (map brief_of files) r.file;
  argument = name_in r;
  target = record { 0 = target };
  nodes = map (λ n. record { 0 = n }) added;
} ∷ []

-- the notes of these augments that add nodes
abbrev pub notes_from : Basis → (augments : List ℕ) → List Note
notes_from b [] = []
notes_from b (a ∷ others) =
    let added : List ℕ = nodes_added b a in
    note_of_augment b.files (slice_get (rows_of b.files) a) (target_of b added) added
    ++ notes_from b others

-- the augments at the tops of the implemented modules and their submodules of which a node is left,
-- by file and statement
abbrev pub notes_of : ModuleChoice → Basis → List Note
notes_of choice b =
    notes_from b (augments_of (map brief_of b.files) (rows_of b.files) (marks_of choice b.files))

-- these are the augments of the files' modules that add nodes to the tree to which files expand
abbrev pub AreNotes : ModuleChoice → Files → List Note → Type 0
AreNotes choice files notes =
    HoldsOfBasis choice files (λ b. notes ≡ notes_of choice b)
