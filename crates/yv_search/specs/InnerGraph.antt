-- Only private clauses cite this: edges between modules in their roles as a graph of numbers.
use Rattle.std.specs.Prelude.{◌≡◌, ◌<◌, ◌+◌, ◌⊎◌, ℕ, List, [], length, take}
use Rattle.std.specs.List.{Contains}
use Rattle.yv_base_graph.specs.Graph.{Graph, HasEdge}
use Rattle.yv_search.specs.declared.edges.Node.{Node}
use Rattle.yv_search.specs.declared.edges.Node.TheVariants as node
use Rattle.yv_search.specs.declared.edges.Edge.{Edge}

-- the number of a node among so many modules
abbrev pub number_of : ℕ → Node → ℕ
number_of count node.Start = count + count
number_of count (node.Required m) = m
number_of count (node.Lender m) = count + m

-- the module of a node has one of so many numbers
abbrev pub IsWithin : ℕ → Node → Type 0
IsWithin count node.Start = Unit {0}
IsWithin count (node.Required m) = m < count
IsWithin count (node.Lender m) = m < count

-- a graph with one more edge
pub record HasOneMore (old new : Graph) (from to : ℕ) : Type 0 where
  pub each : length new ≡ length old
  pub there : HasEdge new from to
  pub kept : (a b : ℕ) → HasEdge old a b → HasEdge new a b
  pub others : (a b : ℕ) → HasEdge new a b → HasEdge old a b ⊎ ((a ≡ from) × (b ≡ to))

-- a graph of so many nodes without edges
pub record IsBare (count : ℕ) (g : Graph) : Type 0 where
  pub each : length g ≡ count
  pub none : (a b : ℕ) → HasEdge g a b → ⊥

-- an edge of a list goes from the one number to the other
pub record IsListed (count : ℕ) (edges : List Edge) (a b : ℕ) : Type 0 where
  pub edge : Edge
  pub among : Contains edges edge
  pub from : number_of count edge.from ≡ a
  pub to : number_of count edge.to ≡ b

-- a graph of such modules has just these edges
pub record IsGraphOf (count : ℕ) (edges : List Edge) (g : Graph) : Type 0 where
  pub each : length g ≡ count + count + 1
  pub sound : (a b : ℕ) → HasEdge g a b → IsListed count edges a b
  pub complete : (e : Edge) → Contains edges e → HasEdge g (number_of count e.from) (number_of count e.to)
