-- Nodes that are passed over at once, one after the other.
use Rattle.std.proofs.Common.{◌≡◌, ◌<◌, ℕ, zero, suc, ◌+◌, List, [], ◌∷◌, length, drop, refl, sym, ap, ◌∙◌, subst, arith}
use Rattle.std.proofs.lemmas.List.{drop-drop}
use Rattle.std.proofs.lemmas.List.Elements.{recursion_from_All}
use Rattle.std.specs.List.{AllByRecursion}
use Rattle.serde_json.specs.Data.{Members}
use Rattle.yv_text_statement.specs.declared.document_kind.Kind.{Kind}
use Rattle.yv_values.specs.Count.{count_up}
use Rattle.yv_nodes.specs.declared.node.NodeId.{NodeId}
use Rattle.yv_nodes.specs.Rows.{Rows, tree_of}
use Rattle.yv_nodes.specs.Tree.{Tree}
use Rattle.yv_data_leafrefs.specs.declared.scope.RuleScope.{RuleScope}
use Rattle.yv_data_leafrefs.specs.Meetings.{count_entered, Meeting, Spot}
use Rattle.yv_data_quiet.specs.Quiet.{tree_met}
use Rattle.yv_schema_tables.specs.Sound.{IsChild}
use Rattle.yv_data_quiet.specs.Runs.{ArePassed, IsPast, run_steps}
use Rattle.yv_validate.specs.InnerWalk.{Grows, next_of, one_met, ones_met, ProgressView, scope_at}
use Rattle.yv_validate.specs.declared.notes.Notes.{Notes}
use Rattle.yv_validate.proofs.Beneath.{AreKids, children_within}
use Rattle.yv_validate.proofs.WalkGrowth.{Behind, Counts, next_behind, Quiet, turn}
use Rattle.yv_validate.proofs.Own.{NotesLeft, notes_turn}
use Rattle.yv_validate.proofs.Silent.{one_says, quiet_gains, quiet_grows}

-- the nodes have numbers of the schema
abbrev pub AreWithin : Rows → List NodeId → Type 0
AreWithin s cs = AllByRecursion (λ (c : NodeId). c.0 < length s.nodes) cs

kids_within : (s : Rows) (p : NodeId) (cs : List NodeId) → AreKids s p cs → AreWithin s cs
kids_within s p cs are = children_within s p cs (recursion_from_All (IsChild s p) cs are.each)

-- what is left to be met, without those that are passed over, leads from the start to all
pub run_turn : Quiet → Behind → Counts → (k : Kind) (s : Rows) (of : ℕ → Tree → RuleScope) (ms : Members) (spot : Spot) (start a : ProgressView) (all : List Meeting) (many : ℕ) (cs : List NodeId) (steps : ℕ)
    → AreWithin s cs → ArePassed s ms many cs → count_up steps ≡ count_up (a.steps + run_steps s many cs)
    → ((x : ProgressView) → Grows k s a x (ones_met k s of cs ms spot (next_of a)) → Grows k s start x all)
    → (x : ProgressView) → Grows k s (record { faults = a.faults; found = a.found; steps = steps }) x (ones_met k s of (drop many cs) ms spot (next_of a)) → Grows k s start x all
run_turn quiet behind counts k s of ms spot start a all zero cs steps within passed counted whole x h =
    let same : count_up steps ≡ count_up (a.steps + 0) = counted in
    whole x (record { faults = h.faults; found = h.found; steps = omega (arith, same, h.steps) })
run_turn quiet behind counts k s of ms spot start a all (suc m) [] steps within passed counted whole x h = absurd passed
run_turn quiet behind counts k s of ms spot start a all (suc m) (c ∷ cs) steps within passed counted whole x h =
    let own : ℕ = tree_met (tree_of s c) in
    let scope : RuleScope = scope_at k s (of c.0 (tree_of s c)) c in
    let one : List Meeting = one_met k s scope c ms spot (next_of a) in
    let mid : ProgressView = record { faults = a.faults; found = a.found; steps = count_up (a.steps + own) } in
    let grows : Grows k s a mid one = quiet_grows quiet k s a (count_up (a.steps + own)) own one (one_says k s scope c ms spot (next_of a) own within.0 passed.0) refl in
    let sum : count_up steps ≡ count_up (a.steps + (own + run_steps s m cs)) = counted in
    let rest : count_up steps ≡ count_up (count_up (a.steps + own) + run_steps s m cs) = omega (arith, sum) in
    run_turn quiet behind counts k s of ms spot start mid all m cs steps within.1 passed.1 rest
    (λ y g. turn behind k s start a mid one (ones_met k s of cs ms spot (next_of a + count_entered one)) (ones_met k s of (c ∷ cs) ms spot (next_of a)) all grows refl whole y
    (subst (λ (n : ℕ). Grows k s mid y (ones_met k s of cs ms spot n)) (next_behind counts k s a mid one grows) g))
    x h

-- nor has any of them values to be noted
pub notes_run : (k : Kind) (s : Rows) (of : ℕ → Tree → RuleScope) (many : ℕ) (cs : List NodeId) (ms : Members) (spot : Spot) (now start : Notes) (all : List Meeting)
    → AreWithin s cs → ArePassed s ms many cs → NotesLeft k s of cs ms spot now start all → NotesLeft k s of (drop many cs) ms spot now start all
notes_run k s of zero cs ms spot now start all within passed h = h
notes_run k s of (suc m) [] ms spot now start all within passed h = absurd passed
notes_run k s of (suc m) (c ∷ cs) ms spot now start all within passed h =
    let scope : RuleScope = scope_at k s (of c.0 (tree_of s c)) c in
    let own : ℕ = tree_met (tree_of s c) in
    notes_run k s of m cs ms spot now start all within.1 passed.1
    (notes_turn k s of c (c ∷ cs) cs ms spot now now start all refl h
    (quiet_gains k s now own (one_met k s scope c ms) (λ spot2 next. one_says k s scope c ms spot2 next own within.0 passed.0)))

-- the nodes from a place on
pub within_drop : (s : Rows) (i : ℕ) (cs : List NodeId) → AreWithin s cs → AreWithin s (drop i cs)
within_drop s zero cs h = h
within_drop s (suc i) [] h = h
within_drop s (suc i) (c ∷ cs) h = within_drop s i cs h.1

-- ---- the children of a node, from a place on

-- what is left behind those that are passed over leads from the start to all
pub past_turn : Quiet → Behind → Counts → (k : Kind) (s : Rows) (of : ℕ → Tree → RuleScope) (ms : Members) (spot : Spot) (start a : ProgressView) (all : List Meeting) (p : NodeId) (cs : List NodeId) (from to steps : ℕ)
    → AreKids s p cs → IsPast s p ms from to a.steps steps
    → ((x : ProgressView) → Grows k s a x (ones_met k s of (drop from cs) ms spot (next_of a)) → Grows k s start x all)
    → (x : ProgressView) → Grows k s (record { faults = a.faults; found = a.found; steps = steps }) x (ones_met k s of (drop to cs) ms spot (next_of a)) → Grows k s start x all
past_turn quiet behind counts k s of ms spot start a all p cs from to steps are past whole x h =
    let new : ProgressView = record { faults = a.faults; found = a.found; steps = steps } in
    let end : drop past.many (drop from cs) ≡ drop to cs = drop-drop past.many from cs ∙ ap (λ (n : ℕ). drop n cs) (sym past.place) in
    run_turn quiet behind counts k s of ms spot start a all past.many (drop from cs) steps (within_drop s from cs (kids_within s p cs are))
    (subst (λ (ns : List NodeId). ArePassed s ms past.many (drop from ns)) (sym are.same) past.passed)
    (past.steps ∙ ap (λ (ns : List NodeId). count_up (a.steps + run_steps s past.many (drop from ns))) (sym are.same)) whole x
    (subst (λ (ns : List NodeId). Grows k s new x (ones_met k s of ns ms spot (next_of a))) (sym end) h)

-- and so do the values
pub past_notes : (k : Kind) (s : Rows) (of : ℕ → Tree → RuleScope) (ms : Members) (spot : Spot) (now start : Notes) (all : List Meeting) (p : NodeId) (cs : List NodeId) (from to old new : ℕ)
    → AreKids s p cs → IsPast s p ms from to old new → NotesLeft k s of (drop from cs) ms spot now start all → NotesLeft k s of (drop to cs) ms spot now start all
past_notes k s of ms spot now start all p cs from to old new are past h =
    let end : drop past.many (drop from cs) ≡ drop to cs = drop-drop past.many from cs ∙ ap (λ (n : ℕ). drop n cs) (sym past.place) in
    subst (λ (ns : List NodeId). NotesLeft k s of ns ms spot now start all) end
    (notes_run k s of past.many (drop from cs) ms spot now start all (within_drop s from cs (kids_within s p cs are))
    (subst (λ (ns : List NodeId). ArePassed s ms past.many (drop from ns)) (sym are.same) past.passed) h)
