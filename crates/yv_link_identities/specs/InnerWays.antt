-- Only private clauses cite this: ways from identities to their bases, and back.
use Rattle.std.specs.Prelude.{◌≡◌, ◌↔◌, ℕ, ◌≤◌, ◌⊎◌, ◌==◌, Bool, false, IsTrue, List, length, slice_get, slice_index}
use Rattle.std.specs.Option.{option_map, unwrap_or}
use Rattle.std.specs.List.{Contains, list_any}
use Rattle.std.specs.Ordering.{nat_cmp}
use Rattle.std.specs.BTreeSet.{BTreeSet, contains}
use Rattle.yv_base_graph.specs.Graph.{Graph, HasEdge, LeadsTo}

-- in the set are those that lead to one
abbrev pub AreBelow : Graph → ℕ → BTreeSet ℕ → Type 0
AreBelow g to found = (a : ℕ) → IsTrue (contains nat_cmp found a) ↔ LeadsTo g a to

-- whether there is an edge from a to b
abbrev pub has_edge : Graph → ℕ → ℕ → Bool
has_edge g a b =
    unwrap_or (option_map (λ row. list_any (λ x. x == b) row.items) (slice_get g a)) false

-- an edge back for each edge, and no other
pub record AreReversed (g back : Graph) : Type 0 where
  pub each : length back ≡ length g
  pub edge : (a b : ℕ) → has_edge back b a ≡ has_edge g a b

-- edges to a node are added, one from each of these
pub record AddsEdges (froms : List ℕ) (node : ℕ) (old new : Graph) : Type 0 where
  pub each : length new ≡ length old
  pub edge : (a b : ℕ) → HasEdge new b a → HasEdge old b a ⊎ ((a ≡ node) × Contains froms b)
  pub kept : (a b : ℕ) → HasEdge old b a → HasEdge new b a
  pub all : (b : ℕ) → Contains froms b → HasEdge new b node

-- one of these nodes has a rank
abbrev pub HasRank : List ℕ → List ℕ → ℕ → Type 0
HasRank ranks nodes r = (a : ℕ) × Contains nodes a × (slice_index ranks a ≡ r)

-- the ranks of these nodes are added to a set
pub record AddsRanks (ranks nodes : List ℕ) (old new : BTreeSet ℕ) : Type 0 where
  pub rank : (r : ℕ) → IsTrue (contains nat_cmp new r)
      → IsTrue (contains nat_cmp old r) ⊎ HasRank ranks nodes r
  pub kept : (r : ℕ) → IsTrue (contains nat_cmp old r) → IsTrue (contains nat_cmp new r)
  pub all : (a : ℕ) → Contains nodes a → IsTrue (contains nat_cmp new (slice_index ranks a))

-- an edge that ends up to a rank, from which nothing or a way is left
pub record EntersBelow (g : Graph) (ranks : List ℕ) (middle node to : ℕ) : Type 0 where
  pub base : ℕ
  pub edge : HasEdge g node base
  pub below : slice_index ranks base ≤ middle
  pub onward : (base ≡ to) ⊎ LeadsTo g base to
