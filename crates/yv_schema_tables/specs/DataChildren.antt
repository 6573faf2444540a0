-- Choices and cases opened, and of the other nodes the data nodes. No data tree has choices and
-- cases, and what is in them takes their place (RFC 7950, section 7.9); rpcs, actions and
-- notifications aren't data nodes (sections 7.14 to 7.16), so that no member of a document names
-- one, or what is in it.
use Rattle.std.specs.Prelude.{ℕ, ◌+◌, List, [], ◌∷◌, ◌++◌, if◌then◌else◌}
use Rattle.yv_node_content.specs.Kinds.{is_data, is_passed}
use Rattle.yv_nodes.specs.declared.node.NodeId.{NodeId}
use Rattle.yv_nodes.specs.Tree.{count, Forest, no_trees, node, tree}
use Rattle.yv_schema_tables.specs.Groups.{join}

-- the trees of data nodes, those in choices and cases among them, in order
abbrev pub opened_trees : Forest → Forest
opened_trees no_trees = no_trees
opened_trees (tree (node l kids) ts) =
    join (if is_passed l.defined.kind then opened_trees kids
    else (if is_data l.defined.kind then tree (node l kids) no_trees else no_trees))
    (opened_trees ts)

-- their numbers, where the first node has the number `first`
abbrev pub opened_from : ℕ → Forest → List NodeId
opened_from first no_trees = []
opened_from first (tree (node l kids) ts) =
    (if is_passed l.defined.kind then opened_from (first + 1) kids
    else (if is_data l.defined.kind then record { 0 = first } ∷ [] else []))
    ++ opened_from (first + 1 + count kids) ts
