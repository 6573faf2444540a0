-- Only private clauses cite this: the numbers of identities, and runs of them.
use Rattle.std.specs.Prelude.{◌≡◌, ◌↔◌, ℕ, ◌<◌, ◌==◌, ◌&&◌, ◌||◌, Bool, true, false, IsTrue, List, length, map, Option, Some, None, slice_get, slice_index, nat_lt, if◌then◌else◌}
use Rattle.std.specs.BTreeMap.{get_by}
use Rattle.std.specs.List.{list_any}
use Rattle.std.specs.Option.{option_map, option_and_then, unwrap_or}
use Rattle.std.specs.Ordering.{nat_cmp, ordering_then}
use Rattle.yv_base_graph.specs.Graph.{Graph, HasEdge, LeadsTo}
use Rattle.yv_text_statement.specs.Selection.{ModuleChoice}
use Rattle.yv_link_scopes.specs.Files.{Files, Briefs, brief_of}
use Rattle.yv_link_scopes.specs.RowList.{rows_of}
use Rattle.yv_link_scopes.specs.Rows.{Row}
use Rattle.yv_link_identities.specs.Names.{is_identity, HasBase}
use Rattle.yv_link_identities.specs.References.{ref_of}
use Rattle.yv_link_identities.specs.declared.references.IdentityRef.{IdentityRef}
use Rattle.yv_link.specs.LinkedFiles.{AreLinked}
use Rattle.yv_link.specs.declared.linked_files.Linked.{Linked}
use Rattle.yv_values.specs.Identities.{NumberedId, id_of, is_between}
use Rattle.yv_type_identities.specs.Bases.{IsBelow}
use Rattle.yv_type_identities.specs.InnerBases.{base_of}
use Rattle.yv_type_identities.specs.declared.candidates.Candidate.{Candidate}
use Rattle.yv_type_identities.specs.declared.identity_places.IdentityPlaces.{IdentityPlaces}
use Rattle.yv_type_identities.specs.declared.runs.Run.{Run}
use Rattle.yv_type_identities.specs.declared.shared_members.SharedMembers.{SharedMembers}

-- the number that is kept for a place
abbrev pub number_at : IdentityPlaces → IdentityRef → Option ℕ
number_at places place =
    get_by (λ k. ordering_then (nat_cmp place.file k.0) (nat_cmp place.offset k.1)) places.map

-- for each place the number of the identity there is kept
pub record AreIdentityPlaces (rows : List Row) (places : IdentityPlaces) : Type 0 where
  pub found : (k : ℕ) (r : Row) → slice_get rows k ≡ Some r → is_identity r ≡ true
      → number_at places (ref_of r) ≡ Some k
  pub only : (place : IdentityRef) (k : ℕ) → number_at places place ≡ Some k
      → (r : Row) × (slice_get rows k ≡ Some r) × (is_identity r ≡ true) × (ref_of r ≡ place)

-- whether the numbered statement is an identity
abbrev pub is_identity_in : List Row → ℕ → Bool
is_identity_in rows k = unwrap_or (option_map is_identity (slice_get rows k)) false

-- a base, and the identity in whose block a statement gives it, each by its number
abbrev pub pair_of : Briefs → List Row → List Row → IdentityPlaces → Row → Option (ℕ × ℕ)
pair_of files rows entries places s =
    option_and_then (λ place. option_and_then
    (λ base. if (nat_lt base (length entries)
    && (is_identity_in entries s.scope && nat_lt s.scope (length entries)))
    then Some (base, s.scope) else None) (number_at places place)) (base_of files rows s)

-- an edge goes from each base to each identity that names it, and no other from an identity
pub record AreDerived (files : Briefs) (rows : List Row) (g : Graph) : Type 0 where
  pub each : length g ≡ length rows
  pub edge : (base own : ℕ) → HasEdge g base own → is_identity_in rows base ≡ true
      → HasBase files rows own base
  pub all : (base own : ℕ) → HasBase files rows own base → HasEdge g base own

-- whether a run has a number
abbrev pub is_in : Run → ℕ → Bool
is_in run n = is_between run.low run.high n

abbrev pub run_at : List (Option Run) → ℕ → Option Run
run_at runs r = option_and_then (λ o. o) (slice_get runs r)

-- there is a run
abbrev pub IsKnown : List (Option Run) → ℕ → Type 0
IsKnown runs r = (run : Run) × (run_at runs r ≡ Some run)

abbrev pub in_run : Option Run → ℕ → Bool
in_run None n = false
in_run (Some run) n = is_in run n

-- a number is that of a node, or in its run
abbrev pub in_node : List (Option Run) → ℕ → ℕ → Bool
in_node runs rank n = in_run (run_at runs rank) n || (rank == n)

-- the run has the ranks of exactly those to which the node leads
abbrev pub IsRunOf : Graph → List ℕ → ℕ → Run → Type 0
IsRunOf g ranks a run =
    (b : ℕ) → b < length g → IsTrue (is_in run (slice_index ranks b)) ↔ LeadsTo g a b

-- such runs, in an order of the nodes
abbrev pub AreRuns : Graph → (ranks order : List ℕ) → List (Option Run) → Type 0
AreRuns g ranks order runs =
    (r : ℕ) (run : Run) → run_at runs r ≡ Some run → IsRunOf g ranks (slice_index order r) run

-- the rank of the identity at a place
abbrev pub rank_by : IdentityPlaces → List ℕ → IdentityRef → Option ℕ
rank_by places ranks place = option_and_then (λ k. slice_get ranks k) (number_at places place)

-- a candidate with its number
abbrev pub numbered_by : IdentityPlaces → List ℕ → Candidate → NumberedId
numbered_by places ranks c =
    record { id = id_of c.member; number = unwrap_or (rank_by places ranks c.identity) 0 }

-- the run of the identity at a place
abbrev pub run_of : SharedMembers → IdentityRef → Option Run
run_of shared place =
    option_and_then (λ r. run_at shared.runs.items r)
    (rank_by shared.places shared.ranks.items place)

-- there is a run
abbrev pub HasRun : SharedMembers → ℕ × ℕ → Type 0
HasRun shared k = (run : Run) × (run_of shared (record { file = k.0; offset = k.1 }) ≡ Some run)

-- what is in a run, or everything where there is none
abbrev pub is_met : Option Run → ℕ → Bool
is_met None n = true
is_met (Some run) n = is_in run n

-- the candidates are listed, and a run has the numbers of exactly those derived from the identity
-- at a place
pub record AreShared (linked : Linked) (cs : List Candidate) (shared : SharedMembers) : Type 0 where
  pub listed : (p : NumberedId → Bool)
      → list_any p shared.all ≡ list_any p (map (numbered_by shared.places shared.ranks.items) cs)
  pub exact : (files : Files) (choice : ModuleChoice) → AreLinked files choice linked
      → (base : IdentityRef) (run : Run) → run_of shared base ≡ Some run
      → (i : ℕ) (r : Row) → slice_get (rows_of files) i ≡ Some r → is_identity r ≡ true
      → IsTrue (is_in run (unwrap_or (rank_by shared.places shared.ranks.items (ref_of r)) 0))
      ↔ IsBelow (map brief_of files) (rows_of files) (ref_of r) base
