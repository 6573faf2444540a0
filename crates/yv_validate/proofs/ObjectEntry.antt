-- An object that is entered, and containers.
use Rattle.std.proofs.Common.{◌≡◌, ℕ, ◌+◌, List, [], ◌∷◌, ◌++◌, length, length-append, Bool, true, false, cond, Option, Some, None, sym, ap, ◌∙◌, subst, arith}
use Rattle.std.proofs.lemmas.List.Sums.{sum_by-cons}
use Rattle.std.specs.List.{flat_map}
use Rattle.serde_json.specs.Data.{Data, object, Members, no_members}
use Rattle.yv_text_statement.specs.declared.document_kind.Kind.{Kind}
use Rattle.yv_nodes.specs.declared.node.NodeId.{NodeId}
use Rattle.yv_nodes.specs.Rows.{below, Rows, row_at}
use Rattle.yv_nodes.specs.Tree.{Forest}
use Rattle.yv_values.specs.Count.{count_up}
use Rattle.yv_walk.specs.Context.{members_len}
use Rattle.yv_data_leafrefs.specs.declared.scope.RuleScope.{RuleScope}
use Rattle.yv_data_leafrefs.specs.declared.scope.RuleScope.TheVariants.{Always}
use Rattle.yv_data_leafrefs.specs.Findings.{end_object, Findings, Finds, first_of, met_in, open_object, second_of}
use Rattle.yv_data_leafrefs.specs.Meetings.{count_entered, in_container, in_no_object, Meeting, object_met, Spot, stand, Stand}
use Rattle.yv_data_leafrefs.specs.Place.{Place}
use Rattle.yv_validate.specs.Faults.{faults_at}
use Rattle.yv_data_faults.specs.Flaw.{Flaw}
use Rattle.yv_validate.specs.InnerWalk.{children_met, container_at, Grows, inside_at, next_of, ProgressView, unknowns}
use Rattle.yv_validate.specs.Work.{work_at}
use Rattle.yv_validate.proofs.Steps.{told_both}

abbrev pub Enters : Type 0
Enters = (s : Rows) (a b c d : Findings) (n : NodeId) (item : Option ℕ) (spot : Spot) (ts : Forest) (ms : Members) (inside : List Meeting)
    → b.positions ≡ a.positions ++ open_object (second_of spot.around) n.0 item ∷ [] → b.indexes ≡ a.indexes → b.uses ≡ a.uses → b.notes ≡ a.notes
    → Finds b c (met_in s inside)
    → d.positions ≡ end_object c.positions (length a.positions) → d.indexes ≡ c.indexes → d.uses ≡ c.uses → d.notes ≡ c.notes
    → Finds a d (met_in s (stand (record { node = n; item = item; spot = spot; last = length a.positions + count_entered inside; trees = ts; found = object ms }) ∷ inside))

-- an object is entered, walked over and left
pub object_grows : Enters → (k : Kind) (s : Rows) (n : NodeId) (item : Option ℕ) (path : List Place) (outer : List ℕ) (entry position numbered : ℕ) (ms : Members) (before : ProgressView) (begun : Findings) (faults : List Flaw) (steps : ℕ) (walked : ProgressView) (left : Findings)
    → first_of outer ≡ position → numbered ≡ next_of before
    → begun.positions ≡ before.found.positions ++ open_object position n.0 item ∷ [] → begun.indexes ≡ before.found.indexes → begun.uses ≡ before.found.uses → begun.notes ≡ before.found.notes
    → faults ≡ before.faults ++ unknowns path (below s n) ms → count_up steps ≡ count_up (before.steps + members_len ms)
    → Grows k s (record { faults = faults; found = begun; steps = steps }) walked
    (children_met k s Always n ms (record { path = path; around = numbered ∷ outer; entry = entry }) (length begun.positions))
    → left.positions ≡ end_object walked.found.positions numbered → left.indexes ≡ walked.found.indexes → left.uses ≡ walked.found.uses → left.notes ≡ walked.found.notes
    → Grows k s before (record { faults = walked.faults; found = left; steps = walked.steps })
    (object_met n item (below s n) (record { path = path; around = next_of before ∷ outer; entry = entry }) (next_of before) (object ms) (inside_at k s n))
object_grows enters k s n item path outer entry position numbered ms before begun faults steps walked left around is positions indexes uses notes told taken inner left_positions left_indexes left_uses left_notes =
    let next : ℕ = next_of before in
    let spot : Spot = record { path = path; around = next ∷ outer; entry = entry } in
    let inside : List Meeting = children_met k s Always n ms spot (next + 1) in
    let start : ProgressView = record { faults = faults; found = begun; steps = steps } in
    let later : length begun.positions ≡ next + 1 = ap length positions ∙ length-append before.found.positions (open_object position n.0 item ∷ []) in
    let grown : Grows k s start walked inside =
    subst (λ (m : ℕ). Grows k s start walked (children_met k s Always n ms spot m)) later
    (subst (λ (m : ℕ). Grows k s start walked (children_met k s Always n ms (record { path = path; around = m ∷ outer; entry = entry }) (length begun.positions))) is inner) in
    let own : Stand = record { node = n; item = item; spot = spot; last = next + count_entered inside; trees = below s n; found = object ms } in
    record {
      faults = told_both before.faults (unknowns path (below s n) ms) (flat_map (faults_at k s) inside) told grown.faults;
      found = enters s before.found begun walked.found left n item spot (below s n) ms inside
          (positions ∙ ap (λ (m : ℕ). before.found.positions ++ open_object m n.0 item ∷ []) (sym around)) indexes uses notes grown.found
          (left_positions ∙ ap (λ (m : ℕ). end_object walked.found.positions m) is) left_indexes left_uses left_notes;
      steps = omega (arith, taken, grown.steps, sum_by-cons (work_at k s) (stand own) inside);
    }

-- ---- containers

pub container_none : (k : Kind) (s : Rows) (scope : RuleScope) (n : NodeId) (found : Option Data) (spot : Spot) (next : ℕ) → found ≡ None → (row_at s n).label.defined.has_presence ≡ true
    → container_at k s scope n found spot next ≡ []
container_none k s scope n found spot next none presence =
    let inside : List Meeting = children_met k s scope n no_members (in_no_object spot (row_at s n).label) next in
    ap (λ (o : Option Data). container_at k s scope n o spot next) none ∙ ap (λ (b : Bool). cond b [] inside) presence

pub container_open : (k : Kind) (s : Rows) (scope : RuleScope) (n : NodeId) (found : Option Data) (spot : Spot) (next : ℕ) → found ≡ None → (row_at s n).label.defined.has_presence ≡ false
    → container_at k s scope n found spot next ≡ children_met k s scope n no_members (in_no_object spot (row_at s n).label) next
container_open k s scope n found spot next none presence =
    let inside : List Meeting = children_met k s scope n no_members (in_no_object spot (row_at s n).label) next in
    ap (λ (o : Option Data). container_at k s scope n o spot next) none ∙ ap (λ (b : Bool). cond b [] inside) presence

pub container_some : (k : Kind) (s : Rows) (scope : RuleScope) (n : NodeId) (found : Option Data) (spot : Spot) (next : ℕ) (d : Data) → found ≡ Some d
    → container_at k s scope n found spot next ≡ object_met n None (below s n) (in_container spot next (row_at s n).label) next d (inside_at k s n)
container_some k s scope n found spot next d some = ap (λ (o : Option Data). container_at k s scope n o spot next) some
