-- Only private clauses cite this: the graph of definitions.
use Rattle.std.specs.Prelude.{◌≡◌, ◌↔◌, ℕ, Bool, List, length}
use Rattle.yv_link_scopes.specs.Files.{Briefs}
use Rattle.yv_link_scopes.specs.Rows.{Row}
use Rattle.yv_base_graph.specs.Graph.{Graph, IsGraph, HasEdge, IsMarked}
use Rattle.yv_link_definitions.specs.Leads.{Joins, LeadsTo}

abbrev pub HasNoEdge : Graph → Type 0
HasNoEdge g = (a b : ℕ) → HasEdge g a b → ⊥

-- a node for each statement, and an edge from each definition to each that a statement joins to it
pub record AreSteps (files : Briefs) (rows : List Row) (g : Graph) : Type 0 where
  pub each : length g ≡ length rows
  pub within : IsGraph g
  pub edge : (a b : ℕ) → HasEdge g a b → (k : ℕ) × Joins files rows k a b
  pub all : (k a b : ℕ) → Joins files rows k a b → HasEdge g a b

-- those are marked that lead to themselves
pub record AreDefinitionCycles (files : Briefs) (rows : List Row) (marks : List Bool) : Type 0 where
  pub exact : (a : ℕ) → IsMarked marks a ↔ LeadsTo files rows a a
