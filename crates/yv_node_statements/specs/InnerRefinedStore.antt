-- Only private clauses cite this: what is kept of nodes that refines change, and how more refines
-- lead on from it.
use Rattle.std.specs.Prelude.{◌≡◌, ℕ, List, [], ◌∷◌, ◌++◌, Some, map}
use Rattle.std.specs.Ordering.{nat_cmp, ordering_then}
use Rattle.std.specs.BTreeMap.{BTreeMap, get_by}
use Rattle.std.specs.declared.cmp.Ordering.{Ordering}
use Rattle.yv_link_scopes.specs.Files.{Files}
use Rattle.yv_expand_statements.specs.declared.origin.Origin.{Origin}
use Rattle.yv_node_content.specs.Definition.{Definition}
use Rattle.yv_node_statements.specs.Kinds.{TypeMeanings}
use Rattle.yv_node_statements.specs.Definitions.{refined_definition}
use Rattle.yv_expand_refines.specs.Changes.{sequence_at}
use Rattle.yv_node_statements.specs.declared.chain.Chain.{Chain}
use Rattle.yv_node_statements.specs.declared.refined_definitions.RefinedNode.{RefinedNode}

-- this is said of a node of an origin that the refines of a sequence change
abbrev pub IsRefined : TypeMeanings → Files → List (List ℕ) → Origin → (sequence : ℕ) → Definition
    → Type 0
IsRefined typing files sequences from sequence d =
    d ≡ refined_definition typing files from (sequence_at sequences (Some sequence))

abbrev pub Key : Type 0
Key = ℕ × ℕ × ℕ

abbrev pub key_cmp : Key → Key → Ordering
key_cmp j k = ordering_then (ordering_then (nat_cmp j.0 k.0) (nat_cmp j.1 k.1)) (nat_cmp j.2 k.2)

-- what is kept is said of the nodes for which it is
abbrev pub AreRefined : TypeMeanings → Files → List (List ℕ) → BTreeMap Key RefinedNode → Type 0
AreRefined typing files sequences kept =
    (key : Key) (r : RefinedNode) → get_by (key_cmp key) kept ≡ Some r
    → IsRefined typing files sequences r.origin r.sequence r.said

-- these refines, and after them those of the runs, of which the last is first
abbrev pub with_runs : List ℕ → List (List ℕ) → List ℕ
with_runs refines [] = refines
with_runs refines (run ∷ runs) = with_runs refines runs ++ run

-- with those of its runs, the refines that changed what is said are these
pub record IsChain (typing : TypeMeanings) (files : Files) (from : Origin) (refines : List ℕ)
    (chain : Chain) : Type 0 where
  pub before : List ℕ
  pub said : chain.said ≡ refined_definition typing files from before
  pub all : with_runs before (map (λ run. run.now) chain.runs.items) ≡ refines
