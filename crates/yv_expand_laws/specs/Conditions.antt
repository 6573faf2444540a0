-- Which conditions are asked at which node (RFC 7950, sections 7.13, 7.17 and 7.20.2). Those of the
-- uses and augments round a node are asked at the node only up to the next node in whose block one
-- of them is: the others are asked at nodes above it.
use Rattle.std.specs.Prelude.{◌≡◌, ◌≢◌, ◌↔◌, ℕ, ◌⊎◌, Bool, true, false, IsTrue, List, [], ◌∷◌, ◌++◌, if◌then◌else◌, Option, Some, None, slice_get}
use Rattle.std.specs.List.{Contains, list_all}
use Rattle.yv_link_scopes.specs.Files.{Files}
use Rattle.yv_link_scopes.specs.RowList.{rows_of}
use Rattle.yv_link_scopes.specs.Rows.{Row, is_extended}
use Rattle.yv_link_features.specs.On.{AllHoldBy}
use Rattle.yv_expand_statements.specs.Origin.{number_of}
use Rattle.yv_expand.specs.Tree.{Item}
use Rattle.yv_expand_statements.specs.declared.origin.Origin.{Origin}
use Rattle.yv_expand_statements.specs.declared.origin.Origin.TheVariants.{Statement, Input, Output}
use Rattle.yv_expand.specs.Expansion.{IsWhole}
use Rattle.yv_expand_statements.specs.declared.statement_kind.StatementKind.{StatementKind}
use Rattle.yv_expand_statements.specs.Kinds.{is_node, kind_of_keyword}
use Rattle.yv_base_graph.specs.Marks.{is_marked}
use Rattle.yv_expand_uses.specs.On.{AreOn}
use Rattle.yv_expand_augments.specs.RefineMeanings.{refined_all}
use Rattle.yv_expand_uses.specs.Spots.{layout_of}
use Rattle.yv_expand_changes.specs.Changes.{all_changes}
use Rattle.yv_expand_statements.specs.Truth.{Truth}
use Rattle.yv_expand_changes.specs.IfFeatures.{item_marks, statement_marks}
use Rattle.yv_expand_definition.specs.Expansion.{Expand}
use Rattle.yv_expand_definition.specs.Gives.{Product}
use Rattle.yv_expand_definition.specs.Nodes.{Forest, Node, if_feature_statements, none, node}
use Rattle.yv_expand_laws.specs.Files.{ShowFiles, expansion_of}
use Rattle.yv_expand_laws.specs.Shows.{Items}

-- a statement is that of a node
abbrev pub is_node_kind : Option StatementKind → Bool
is_node_kind None = false
is_node_kind (Some k) = is_node k

-- a statement gives a schema node; a grouping, an augment and a uses give none themselves
abbrev pub gives_node : Option Row → Bool
gives_node None = false
gives_node (Some r) = is_node_kind (kind_of_keyword r.head.keyword)

-- a statement is in the block of one that gives a node
abbrev pub stands_in_node : List Row → Option Row → Bool
stands_in_node rows None = false
stands_in_node rows (Some r) = gives_node (slice_get rows r.scope)

-- of the uses and augments round a numbered statement, innermost first, those up to the next node
abbrev pub near : List Row → (statement : ℕ) → (under : List ℕ) → List ℕ
near rows k [] = []
near rows k (u ∷ us) = if stands_in_node rows (slice_get rows k) then [] else u ∷ near rows u us

-- an operation's part that isn't written is right below the operation
abbrev pub near_by : List Row → Origin → (under : List ℕ) → List ℕ
near_by rows (Statement k) under = near rows k under
near_by rows (Input k) under = []
near_by rows (Output k) under = []

-- those round a node
abbrev pub near_node : List Row → Node → List ℕ
near_node rows g = near_by rows g.origin g.under

-- a numbered statement is in a block, and isn't an extension's
abbrev pub IsAsked : List Row → ℕ → Type 0
IsAsked rows k =
    (r : Row) × (slice_get rows k ≡ Some r) × (r.scope ≢ k) × (is_extended r.head.keyword ≡ false)

-- Of the uses and augments round each of these nodes those beyond the next node are among the
-- statements whose conditions are those of nodes above it, or among `above`. All statements whose
-- conditions are a node's stand in blocks.
abbrev pub AreAsked : List Row → (above : List ℕ) → Forest → Type 0
AreAsked rows above none = Unit {0}
AreAsked rows above (node g below behind) =
    ((k : ℕ) → Contains g.under k → Contains (near_node rows g) k ⊎ Contains above k)
    × (((k : ℕ) → Contains (if_feature_statements g) k → IsAsked rows k)
    × (AreAsked rows (above ++ if_feature_statements g) below × AreAsked rows above behind))

-- So it is of what files expand to: wherever an augment of a uses adds nodes, they are below the
-- node in whose block the uses is, and around an augment of a module there is no node.
abbrev pub FilesAsk : Files → Type 0
FilesAsk files = (marks : List Bool) (order : List ℕ) (m : Product) → Expand files marks order m
    → AreAsked (rows_of files) [] m.nodes

-- a statement of a block has a mark exactly where each of its conditions is true in the file in
-- which it is
abbrev pub MarksAreConditions : Files → Type 0
MarksAreConditions files =
    (truth : Truth) (k : ℕ) → IsAsked (rows_of files) k
    → IsTrue (is_marked (statement_marks truth files) k)
    ↔ AllHoldBy (λ file text. truth file text ≡ true) (rows_of files) k

-- these are the marks of items, where statements have these
abbrev pub AreMarks : Files → (modules : List Bool) → List Item → (statements marks : List Bool)
    → Type 0
AreMarks files modules items statements marks =
    AreOn (rows_of files) (layout_of (expansion_of files modules items) items).spots items
    (is_marked statements)
    (is_marked (item_marks statements (layout_of (expansion_of files modules items) items).spots
    (all_changes files (layout_of (expansion_of files modules items) items).spots
    (refined_all (expansion_of files modules items) items)))) marks

-- the conditions that are asked at a node itself: its own, those of its refines, and of the uses
-- and augments up to the next node
abbrev pub asked_at : List Row → Node → List ℕ
asked_at rows g = number_of g.origin ∷ near_node rows g ++ g.refines

-- An item that is a node has a mark where all statements have one whose conditions are those of
-- its node; and where it has one, all have whose conditions are asked at the node itself.
abbrev pub MarksAsk : Files → Type 0
MarksAsk files =
    (modules : List Bool) (order : List ℕ) (own : ℕ) (items : List Item) (its : Items)
    (statements marks : List Bool) (i : ℕ)
    → IsWhole files modules order own items → ShowFiles files modules items its
    → AreMarks files modules items statements marks
    → its.is_node i ≡ true
    → (list_all (is_marked statements) (if_feature_statements (its.node_of i)) ≡ true
    → is_marked marks i ≡ true)
    × (is_marked marks i ≡ true
    → list_all (is_marked statements) (asked_at (rows_of files) (its.node_of i)) ≡ true)
