-- Only private clauses cite this: the graph of leafrefs.
use Rattle.std.specs.Prelude.{◌≡◌, ◌↔◌, ℕ, ◌<◌, Bool, List, length, slice_index, Option, Some, None}
use Rattle.std.specs.List.{slice_index_or}
use Rattle.yv_base_graph.specs.Graph.{Graph, IsGraph, HasEdge, IsMarked}
use Rattle.yv_nodes.specs.Rows.{Row}
use Rattle.yv_node_leafrefs.specs.Schema.{Referral, Schema}
use Rattle.yv_node_leafrefs.specs.Targets.{IsLeafref, RefersTo, LeadsTo}

-- the targets of nodes, none where a node refers to none
abbrev pub AreTargets : Schema → List (Option ℕ) → Type 0
AreTargets s targets =
    (n target : ℕ) → (slice_index_or targets n None ≡ Some target) ↔ RefersTo s n target

-- a node for each row, and an edge from each leafref to its target
pub record AreSteps (s : Schema) (g : Graph) : Type 0 where
  pub each : length g ≡ length s.rows
  pub within : IsGraph g
  pub exact : (a b : ℕ) → HasEdge g a b ↔ RefersTo s a b

-- those are marked that lead to themselves
abbrev pub AreLeafrefCycles : Schema → List Bool → Type 0
AreLeafrefCycles s marks = (n : ℕ) → IsMarked marks n ↔ LeadsTo s n n

-- the node is a leafref
abbrev pub IsOne : Schema → ℕ → Type 0
IsOne s n = (row : Row) × (ref : Referral) × IsLeafref s n row ref

-- the first n nodes have an edge to their target each, and no other
abbrev pub AreEdges : List (Option ℕ) → ℕ → Graph → Type 0
AreEdges targets n g =
    (length g ≡ n) × ((a b : ℕ) → a < n → HasEdge g a b ↔ (slice_index_or targets a None ≡ Some b))

-- one of the first n of these is x
abbrev pub IsVisited : List ℕ → ℕ → ℕ → Type 0
IsVisited order n x = (k : ℕ) × (k < n) × (k < length order) × (slice_index order k ≡ x)

-- each node comes after its target
abbrev pub IsBehind : List (Option ℕ) → List ℕ → Type 0
IsBehind targets order = (i b : ℕ) → i < length order
    → slice_index_or targets (slice_index order i) None ≡ Some b → IsVisited order i b

-- the node whose types a node has, where that is known of its target
abbrev pub origin_of : Option ℕ → ℕ → List ℕ → ℕ
origin_of None n origins = n
origin_of (Some target) n origins = slice_index origins target
