-- Inner definitions, which only private clauses and the tables cite: the graph of identities and
-- bases.
use Rattle.std.specs.Prelude.{◌≡◌, ◌↔◌, ℕ, ◌<◌, Bool, List, length, Option, None, if◌then◌else◌}
use Rattle.std.specs.Option.{option_map, option_and_then}
use Rattle.yv_link_scopes.specs.Files.{Briefs}
use Rattle.yv_link_scopes.specs.Rows.{Row}
use Rattle.yv_base_graph.specs.Graph.{Graph, IsGraph, HasEdge, IsMarked}
use Rattle.yv_link_identities.specs.Names.{is_base, identity_meant, HasBase}
use Rattle.yv_link_identities.specs.Derivation.{IsDerivedFrom}
use Rattle.yv_link_identities.specs.InnerIdentityNumbers.{node_of, number_at, count_of}

-- the identity in whose block a base is, and the one that the base means, each by its place
abbrev pub pair_of : Briefs → List Row → Row → Option (ℕ × ℕ)
pair_of files rows r =
    if is_base r then
    option_and_then (λ own. option_and_then
    (λ meant. option_map (λ base. (own, base)) (node_of rows meant))
    (identity_meant files rows r)) (node_of rows r.scope)
    else None

abbrev pub HasNoEdge : Graph → Type 0
HasNoEdge g = (a b : ℕ) → HasEdge g a b → ⊥

-- an edge goes from each identity to each base that it names
pub record AreBases (files : Briefs) (rows : List Row) (g : Graph) : Type 0 where
  pub each : length g ≡ count_of rows
  pub within : IsGraph g
  pub edge : (a b : ℕ) → HasEdge g a b → HasBase files rows (number_at rows a) (number_at rows b)
  pub all : (a b : ℕ) → a < count_of rows → b < count_of rows
      → HasBase files rows (number_at rows a) (number_at rows b) → HasEdge g a b

-- those are marked that are derived from themselves
pub record AreIdentityCycles (files : Briefs) (rows : List Row) (marks : List Bool) : Type 0 where
  pub exact : (a : ℕ) → a < count_of rows → IsMarked marks a
      ↔ IsDerivedFrom files rows (number_at rows a) (number_at rows a)
