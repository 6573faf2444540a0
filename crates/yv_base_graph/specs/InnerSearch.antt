-- Only private clauses cite this: the search along the edges, and what it keeps.
use Rattle.std.specs.Prelude.{◌≡◌, ℕ, ◌+◌, ◌-◌, ◌*◌, ◌<◌, ◌≤◌, ◌⊎◌, Bool, true, false, min}
use Rattle.std.specs.Prelude.{List, [], ◌∷◌, ◌++◌, length, set, take, drop, slice_get, slice_index_or, slice_index, Some}
use Rattle.std.specs.List.{count_by}
use Rattle.std.specs.declared.vec.Vec.{Vec}
use Rattle.std.specs.declared.alloc.Global.{Global}
use Rattle.yv_base_graph.specs.declared.search.State.{State}
use Rattle.yv_base_graph.specs.declared.search.State.TheVariants.{New, Pending, Done}
use Rattle.yv_base_graph.specs.Graph.{Graph, HasEdge, LeadsTo}

-- what the search keeps; each list is known at the struct's field
pub record Progress : Type 0 where
  pub states : List State
  pub cursors : List ℕ
  pub pending : List ℕ
  pub heads : List ℕ
  pub path : List ℕ
  pub order : List ℕ
  pub least : ℕ

abbrev pub Among : ℕ → List ℕ → Type 0
Among x [] = ⊥
Among x (y ∷ ys) = (x ≡ y) ⊎ Among x ys

-- each is below those after it
abbrev pub IsSorted : List ℕ → Type 0
IsSorted [] = Unit {0}
IsSorted (x ∷ xs) = ((y : ℕ) → Among y xs → x < y) × IsSorted xs

-- the numbers above a place are gone
pub record Merges (place : ℕ) (old new : List ℕ) : Type 0 where
  pub sorted : IsSorted new
  pub kept : (h : ℕ) → Among h old → h ≤ place → Among h new
  pub below : (h : ℕ) → Among h new → Among h old × (h ≤ place)

abbrev pub state_of : List State → ℕ → State
state_of states x = slice_index_or states x New

-- these nodes have the rank, and the others what they had
pub record Closes (rank : ℕ) (nodes : List ℕ) (old new : List State) : Type 0 where
  pub each : length new ≡ length old
  pub closed : (x : ℕ) → Among x nodes → state_of new x ≡ Done rank
  pub kept : (x : ℕ) → (Among x nodes → ⊥) → state_of new x ≡ state_of old x

-- a node is met: it waits last, as a group of its own, and its edges come next
pub record Enters (node : ℕ) (old new : Progress) : Type 0 where
  pub states : new.states ≡ set old.states node (Pending (length old.pending))
  pub cursors : new.cursors ≡ old.cursors
  pub pending : new.pending ≡ old.pending ++ node ∷ []
  pub heads : new.heads ≡ old.heads ++ length old.pending ∷ []
  pub path : new.path ≡ old.path ++ length old.pending ∷ []
  pub order : new.order ≡ old.order
  pub least : new.least ≡ old.least

-- so many edges of the node were passed
pub record Skips (node next : ℕ) (old new : Progress) : Type 0 where
  pub states : new.states ≡ old.states
  pub cursors : new.cursors ≡ set old.cursors node next
  pub pending : new.pending ≡ old.pending
  pub heads : new.heads ≡ old.heads
  pub path : new.path ≡ old.path
  pub order : new.order ≡ old.order
  pub least : new.least ≡ old.least

-- the groups after a place are one with its group, since the node leads there and so to itself
pub record Joins (node place : ℕ) (old new : Progress) : Type 0 where
  pub states : new.states ≡ old.states
  pub cursors : new.cursors ≡ old.cursors
  pub pending : new.pending ≡ old.pending
  pub heads : Merges place old.heads new.heads
  pub path : new.path ≡ old.path
  pub order : new.order ≡ old.order
  pub least : new.least ≡ min old.least node

-- a node's edges were all passed, and its group isn't whole yet
pub record Retreats (old new : Progress) : Type 0 where
  pub states : new.states ≡ old.states
  pub cursors : new.cursors ≡ old.cursors
  pub pending : new.pending ≡ old.pending
  pub heads : new.heads ≡ old.heads
  pub path : new.path ≡ take (length old.path - 1) old.path
  pub order : new.order ≡ old.order
  pub least : new.least ≡ old.least

-- a group is whole: its nodes have their rank and are next in the order
pub record Leaves (place : ℕ) (old new : Progress) : Type 0 where
  pub states : Closes (length old.order) (drop place old.pending) old.states new.states
  pub cursors : new.cursors ≡ old.cursors
  pub pending : new.pending ≡ take place old.pending
  pub heads : new.heads ≡ take (length old.heads - 1) old.heads
  pub path : new.path ≡ take (length old.path - 1) old.path
  pub order : new.order ≡ old.order ++ drop place old.pending
  pub least : new.least ≡ old.least

-- nothing, or one edge or more
abbrev pub Reaches : Graph → ℕ → ℕ → Type 0
Reaches g a b = (a ≡ b) ⊎ LeadsTo g a b

-- no group begins after the one place and up to the other
abbrev pub NoHead : List ℕ → ℕ → ℕ → Type 0
NoHead heads q p = (h : ℕ) → Among h heads → q < h → h ≤ p → ⊥

-- an edge that was followed leads to a node that is done, or to one of the same group or a later
-- one
abbrev pub IsFollowed : Progress → ℕ → ℕ → ℕ → Type 0
IsFollowed s x p y =
    ((r : ℕ) × (state_of s.states y ≡ Done r))
    ⊎ ((q : ℕ) × (state_of s.states y ≡ Pending q) × NoHead s.heads q p × (s.least ≤ x))

abbrev pub is_new : State → Bool
is_new New = true
is_new (Pending p) = false
is_new (Done r) = false

-- ranks never rise along an edge and fall from each node below the least, and the least leads to
-- itself; so at the end it is the first on a cycle; nodes of one rank lead to one another, so an
-- edge between them is one of a cycle
pub record IsSearch (g : Graph) (s : Progress) : Type 0 where
  pub each : length s.states ≡ length g
  pub each_cursor : length s.cursors ≡ length g
  pub placed : (x p : ℕ) → state_of s.states x ≡ Pending p
      → (p < length s.pending) × (slice_index s.pending p ≡ x)
  pub waits : (p : ℕ) → p < length s.pending
      → state_of s.states (slice_index s.pending p) ≡ Pending p
  pub path_sorted : IsSorted s.path
  pub path_within : (p : ℕ) → Among p s.path → p < length s.pending
  pub heads_sorted : IsSorted s.heads
  pub heads_on_path : (h : ℕ) → Among h s.heads → Among h s.path
  pub first_head : 0 < length s.pending → Among 0 s.heads
  pub onward : (p q : ℕ) → p ≤ q → q < length s.pending
      → Reaches g (slice_index s.pending p) (slice_index s.pending q)
  pub back : (p q : ℕ) → q ≤ p → p < length s.pending → NoHead s.heads q p
      → Reaches g (slice_index s.pending p) (slice_index s.pending q)
  pub followed : (x p : ℕ) → state_of s.states x ≡ Pending p → (row : Vec ℕ Global)
      → slice_get g x ≡ Some row
      → (e : ℕ) → e < slice_index s.cursors x → e < length row.items
      → IsFollowed s x p (slice_index row.items e)
  pub finished : (p : ℕ) → p < length s.pending
      → Among p s.path
      ⊎ ((row : Vec ℕ Global) → slice_get g (slice_index s.pending p) ≡ Some row
      → length row.items ≤ slice_index s.cursors (slice_index s.pending p))
  pub counted : count_by is_new s.states + length s.pending + length s.order ≡ length g
  pub fresh : (x : ℕ) → state_of s.states x ≡ New → slice_index s.cursors x ≡ 0
  pub ranked : (x r : ℕ) → state_of s.states x ≡ Done r → r < length s.order
  pub falls : (x r y : ℕ) → state_of s.states x ≡ Done r → HasEdge g x y
      → (t : ℕ) × (state_of s.states y ≡ Done t) × (t ≤ r) × (x < s.least → t < r)
  pub same : (x y r : ℕ) → state_of s.states x ≡ Done r → state_of s.states y ≡ Done r
      → Reaches g x y
  pub bound : s.least ≤ length g
  pub cycle : s.least < length g → LeadsTo g s.least s.least
  pub alone : s.least ≡ length g → (p : ℕ) → p < length s.pending → Among p s.heads
  pub found : s.least ≡ length g → (x r : ℕ) → state_of s.states x ≡ Done r
      → slice_index s.order r ≡ x
  pub numbered : s.least ≡ length g → (i : ℕ) → i < length s.order
      → state_of s.states (slice_index s.order i) ≡ Done i

-- for the end of the search
abbrev pub edges_left : Graph → List ℕ → ℕ
edges_left [] cursors = 0
edges_left (row ∷ rows) [] = 0
edges_left (row ∷ rows) (c ∷ cursors) = (length row.items - c) + edges_left rows cursors

abbrev pub left_of : Graph → Progress → ℕ
left_of g s = edges_left g s.cursors + 2 * count_by is_new s.states + length s.path

-- a step goes on with the search, forgets no node that was met, and comes nearer to the end
pub record Steps (g : Graph) (old new : Progress) : Type 0 where
  pub searching : IsSearch g new
  pub kept : (x : ℕ) → (state_of old.states x ≡ New → ⊥) → state_of new.states x ≡ New → ⊥
  pub smaller : left_of g new < left_of g old

abbrev pub IsVisited : Progress → ℕ → Type 0
IsVisited s x = state_of s.states x ≡ New → ⊥

abbrev pub KeepsVisited : Progress → Progress → Type 0
KeepsVisited old new = (x : ℕ) → IsVisited old x → IsVisited new x

abbrev pub IsIdle : Progress → Type 0
IsIdle s = s.path ≡ []

-- the next edge of the last node on the path
pub record IsNext (g : Graph) (s : Progress) (node cursor target : ℕ) : Type 0 where
  pub busy : 0 < length s.path
  pub last : node ≡ slice_index s.pending (slice_index s.path (length s.path - 1))
  pub next : cursor ≡ slice_index s.cursors node
  pub row : Vec ℕ Global
  pub at : slice_get g node ≡ Some row
  pub inside : cursor < length row.items
  pub reads : target ≡ slice_index row.items cursor

-- the last node on the path, and its place
pub record IsTop (g : Graph) (s : Progress) (p x : ℕ) : Type 0 where
  pub on_path : Among p s.path
  pub greatest : (y : ℕ) → Among y s.path → y ≤ p
  pub state : state_of s.states x ≡ Pending p
  pub within : p < length s.pending
  pub node : slice_index s.pending p ≡ x
  pub path : s.path ≡ take (length s.path - 1) s.path ++ p ∷ []

-- all nodes were met and none is on the path
pub record IsSearched (g : Graph) (s : Progress) : Type 0 where
  pub searching : IsSearch g s
  pub idle : s.path ≡ []
  pub visited : (x : ℕ) → x < length g → IsVisited s x

abbrev pub rank_of : State → ℕ
rank_of New = 0
rank_of (Pending p) = 0
rank_of (Done r) = r
