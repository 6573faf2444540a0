-- The augments of modules that add nodes, by numbered items (RFC 7950, section 7.17).
use Rattle.std.specs.Prelude.{ℕ, ◌+◌, ◌==◌, List, [], ◌∷◌, ◌++◌, map, Option, Some, None, slice_get, slice_index_or}
use Rattle.std.specs.Option.{option_and_then}
use Rattle.yv_base_tables.specs.Families.{numbers_at}
use Rattle.yv_link_scopes.specs.Files.{brief_of, module_file_at}
use Rattle.yv_link_scopes.specs.RowList.{rows_of}
use Rattle.yv_link_scopes.specs.Names.{first_where}
use Rattle.yv_link_scopes.specs.Rows.{Row, name_in}
use Rattle.yv_expand.specs.Tree.{Node}
use Rattle.yv_nodes.specs.declared.node.NodeId.{NodeId}
use Rattle.yv_nodes.specs.Rows.{Note}
use Rattle.yv_expand_tree.specs.Final.{spots_of}
use Rattle.yv_expand_tree.specs.FinalTree.{source_at, targets_of}
use Rattle.yv_schema.specs.InnerBasis.{NumberedBasis, nodes_in}

-- the nodes that the augment at this place among those of modules adds, and that are left
abbrev pub nodes_added : NumberedBasis → (place : ℕ) → List NodeId
nodes_added b place =
    map (λ number. record { 0 = number })
    (numbers_at (map (λ x. source_at (spots_of b.files b.final) b.final.augments x.origin)
    (nodes_in b)) place)

-- the node of a numbered item, if it is left
abbrev pub node_of : NumberedBasis → (item : ℕ) → Option ℕ
node_of b item = first_where (λ (x : Node). x.origin == item) (nodes_in b)

-- the node to which the augment at this place adds
abbrev pub target_of : NumberedBasis → (place : ℕ) → Option ℕ
target_of b place =
    option_and_then (node_of b) (slice_index_or (targets_of b.files b.final) place None)

-- an augment statement that adds these nodes below a target is noted by its module and argument;
-- one of which nothing is left isn't
abbrev pub note_of_augment : NumberedBasis → Option Row → (target : Option ℕ) → List NodeId
    → List Note
note_of_augment b None target nodes = []
note_of_augment b (Some r) None nodes = []
note_of_augment b (Some r) (Some target) [] = []
note_of_augment b (Some r) (Some target) (n ∷ ns) =
    record {
      module_file = module_file_at (map brief_of b.files) r.file;
      argument = name_in r;
      target = record { 0 = target };
      nodes = n ∷ ns;
    } ∷ []

abbrev pub notes_from : NumberedBasis → (place : ℕ) → (augments : List ℕ) → List Note
notes_from b place [] = []
notes_from b place (a ∷ others) =
    note_of_augment b (slice_get (rows_of b.files) a) (target_of b place) (nodes_added b place)
    ++ notes_from b (place + 1) others

-- the augments at the tops of modules and submodules of which a node is left, by file and statement
abbrev pub notes_of : NumberedBasis → List Note
notes_of b = notes_from b 0 b.final.augments
