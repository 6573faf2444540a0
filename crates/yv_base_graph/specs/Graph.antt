-- Graphs of numbered nodes: what a node leads to, cycles, ranks and orders.
use Rattle.std.specs.Prelude.{◌≡◌, ℕ, ◌<◌, Bool, true, false, List, length, take, slice_get, slice_index_or, slice_index, Some}
use Rattle.std.specs.List.{All, Contains}
use Rattle.std.specs.declared.vec.Vec.{Vec}
use Rattle.std.specs.declared.alloc.Global.{Global}

-- a row for each node, with the nodes to which an edge goes from it
abbrev pub Graph : Type 0
Graph = List (Vec ℕ Global)

-- each edge goes to a node of the graph
abbrev pub IsGraph : Graph → Type 0
IsGraph g = All (λ row. All (λ b. b < length g) row.items) g

-- an edge goes from a to b
abbrev pub HasEdge : Graph → ℕ → ℕ → Type 0
HasEdge g a b = (row : Vec ℕ Global) × (slice_get g a ≡ Some row) × Contains row.items b

-- a leads to b by one edge or more
pub data LeadsTo (g : Graph) : ℕ → ℕ → Type 0 where
  by_edge : {a b : ℕ} → HasEdge g a b → LeadsTo g a b
  by_way : {a b c : ℕ} → HasEdge g a b → LeadsTo g b c → LeadsTo g a c

-- a node is marked; none is past the end of the marks
abbrev pub IsMarked : List Bool → ℕ → Type 0
IsMarked marks b = slice_index_or marks b false ≡ true

-- of all nodes exactly those are marked to which a leads
pub record AreReached (g : Graph) (a : ℕ) (marks : List Bool) : Type 0 where
  pub each : length marks ≡ length g
  pub led_to : (b : ℕ) → IsMarked marks b → LeadsTo g a b
  pub marked : (b : ℕ) → LeadsTo g a b → IsMarked marks b

-- no node leads to itself
abbrev pub HasNoCycle : Graph → Type 0
HasNoCycle g = (a : ℕ) → LeadsTo g a a → ⊥

-- the least node that leads to itself
pub record IsFirstOnCycle (g : Graph) (a : ℕ) : Type 0 where
  pub within : a < length g
  pub cycle : LeadsTo g a a
  pub least : (b : ℕ) → LeadsTo g b b → b < a → ⊥

-- of all nodes exactly those are marked that lead to themselves
pub record AreOnCycles (g : Graph) (marks : List Bool) : Type 0 where
  pub each : length marks ≡ length g
  pub cycle : (a : ℕ) → IsMarked marks a → LeadsTo g a a
  pub marked : (a : ℕ) → LeadsTo g a a → IsMarked marks a

-- ranks that fall along each edge: what a recursion along the edges needs to end
abbrev pub HasRanks : Graph → Type 0
HasRanks g = (rank : ℕ → ℕ) × ((a b : ℕ) → HasEdge g a b → rank b < rank a)

-- a rank for each node, which falls along each edge
pub record AreRanks (g : Graph) (ranks : List ℕ) : Type 0 where
  pub each : length ranks ≡ length g
  pub falls : (a b : ℕ) → HasEdge g a b → slice_index ranks b < slice_index ranks a

-- numbers below a count: all of them, each once, and each after all that it leads to
pub record IsOrderBy (Leads : ℕ → ℕ → Type 0) (count : ℕ) (order : List ℕ) : Type 0 where
  pub each : length order ≡ count
  pub within : All (λ a. a < count) order
  pub stands : (a : ℕ) → a < count → Contains order a
  pub once : (i j : ℕ) → i < length order → j < length order
      → slice_index order i ≡ slice_index order j → i ≡ j
  pub behind : (i b : ℕ) → i < length order → Leads (slice_index order i) b
      → Contains (take i order) b

-- all nodes, each once and after all that it leads to
abbrev pub IsOrder : Graph → List ℕ → Type 0
IsOrder g order = IsOrderBy (LeadsTo g) (length g) order

-- the rank of a node is its place in the order
pub record ArePlaces (ranks order : List ℕ) : Type 0 where
  pub each : length order ≡ length ranks
  pub within : (i : ℕ) → i < length order → slice_index order i < length ranks
  pub placed : (i : ℕ) → i < length order → slice_index ranks (slice_index order i) ≡ i
  pub found : (a : ℕ) → a < length ranks
      → (slice_index ranks a < length order) × (slice_index order (slice_index ranks a) ≡ a)
