-- Only private clauses cite this: the nodes that have an edge to a node of their own rank.
use Rattle.std.specs.Prelude.{◌≡◌, ℕ, ◌<◌, Bool, List, length, slice_index}
use Rattle.yv_base_graph.specs.Graph.{Graph, HasEdge, IsMarked}

-- an edge to a node of the same rank
abbrev pub HasPeer : Graph → List ℕ → ℕ → Type 0
HasPeer g ranks a = (c : ℕ) × HasEdge g a c × (slice_index ranks c ≡ slice_index ranks a)

-- of all nodes exactly those are marked
pub record ArePeers (g : Graph) (ranks : List ℕ) (marks : List Bool) : Type 0 where
  pub each : length marks ≡ length g
  pub peer : (a : ℕ) → IsMarked marks a → HasPeer g ranks a
  pub marked : (a : ℕ) → a < length g → HasPeer g ranks a → IsMarked marks a
