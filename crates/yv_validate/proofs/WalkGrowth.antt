-- How a walk grows by what it meets.
use Rattle.std.proofs.Common.{◌≡◌, ◌≤◌, ℕ, ◌+◌, List, [], ◌∷◌, ◌++◌, length, Bool, true, false, cond, not, ◌&&◌, Option, Some, None, is_some, refl, sym, ap, ◌∙◌, subst, append_assoc, append-nil, length-append, arith}
use Rattle.std.specs.List.{flat_map}
use Rattle.std.proofs.lemmas.Bool.{true≢false}
use Rattle.std.proofs.lemmas.Grind.{flat_map-append}
use Rattle.std.proofs.lemmas.List.Sums.{sum_by-append, sum_by-cons}
use Rattle.serde_json.specs.Data.{Data, Members, object}
use Rattle.yv_node_content.specs.declared.kind.NodeKind.{NodeKind}
use Rattle.yv_node_content.specs.declared.kind.NodeKind.TheVariants as kind
use Rattle.yv_node_content.specs.Kinds.{is_data}
use Rattle.yv_text_statement.specs.declared.document_kind.Kind.{Kind}
use Rattle.yv_values.specs.Count.{count_up}
use Rattle.yv_values.specs.Values.{Val}
use Rattle.yv_nodes.specs.Defaults.{defaults_of, width}
use Rattle.yv_nodes.specs.Link.{is_target}
use Rattle.yv_nodes.specs.Rows.{root, Rows}
use Rattle.yv_nodes.specs.Tree.{Label}
use Rattle.yv_data_leafrefs.specs.declared.scope.RuleScope.{RuleScope}
use Rattle.yv_data_leafrefs.specs.declared.scope.RuleScope.TheVariants.{Always, InCase, InDefault, Unasked}
use Rattle.yv_data_leafrefs.specs.Findings.{Findings, Finds, first_of, met_in, none_found, only_used, positions_in, used_if}
use Rattle.yv_data_leafrefs.specs.InUse.{in_use, is_asked, is_empty_at, uses_defaults}
use Rattle.yv_data_leafrefs.specs.Meetings.{all_met, count_entered, found_of, is_left, Meeting, at_node, Node}
use Rattle.yv_validate.specs.Faults.{faults_at, kind_faults, state_faults}
use Rattle.yv_data_faults.specs.Flaw.{Flaw}
use Rattle.yv_validate.specs.InnerWalk.{Closes, Grows, GrowsWith, next_of, object_at, ProgressView}
use Rattle.yv_data_faults.specs.declared.trail.Trail.{Root}
use Rattle.yv_validate.specs.Work.{work_at}
use Rattle.yv_validate.proofs.Steps.{told_both}

-- what the laws say that the walk calls
abbrev pub Behind : Type 0
Behind = (s : Rows) (a b c : Findings) (xs ys : List Meeting) → Finds a b (met_in s xs) → Finds b c (met_in s ys) → Finds a c (met_in s (xs ++ ys))

abbrev pub Quiet : Type 0
Quiet = (s : Rows) (a : Findings) → Finds a a (met_in s [])

abbrev pub Counts : Type 0
Counts = (ms : List Meeting) → length (positions_in ms) ≡ count_entered ms

abbrev pub Defaults : Type 0
Defaults = (s : Rows) (m : Node) → met_in s (at_node m ∷ [])
    ≡ only_used (used_if (is_target s.links m.node.0) m.node.0 (first_of m.spot.around) (in_use m.label.defined.kind m.label m.scope (found_of m)))

-- ---- one part after the other

-- nothing is met
pub grows_nothing : Quiet → (k : Kind) (s : Rows) (a : ProgressView) → Grows k s a a []
grows_nothing quiet k s a = record { faults = sym (append-nil a.faults); found = quiet s a.found; steps = omega arith }

pub grows_as : (k : Kind) (s : Rows) (a b : ProgressView) (xs ys : List Meeting) → xs ≡ ys → Grows k s a b xs → Grows k s a b ys
grows_as k s a b xs ys e h = subst (λ (ms : List Meeting). Grows k s a b ms) e h

-- two parts
pub grows_both : Behind → (k : Kind) (s : Rows) (a b c : ProgressView) (xs ys : List Meeting) → Grows k s a b xs → Grows k s b c ys → Grows k s a c (xs ++ ys)
grows_both behind k s a b c xs ys p q = record {
  faults = q.faults ∙ ap (λ fs. fs ++ flat_map (faults_at k s) ys) p.faults ∙ append_assoc a.faults (flat_map (faults_at k s) xs) (flat_map (faults_at k s) ys)
      ∙ ap (λ fs. a.faults ++ fs) (sym (flat_map-append (faults_at k s) xs ys));
  found = behind s a.found b.found c.found xs ys p.found q.found;
  steps = omega (arith, p.steps, q.steps, sum_by-append (work_at k s) xs ys);
}

-- one more turn of a loop: what is left to be met leads from the start to all
pub turn : Behind → (k : Kind) (s : Rows) (start old new : ProgressView) (here rest from all : List Meeting) → Grows k s old new here → from ≡ here ++ rest
    → ((x : ProgressView) → Grows k s old x from → Grows k s start x all) → (x : ProgressView) → Grows k s new x rest → Grows k s start x all
turn behind k s start old new here rest from all p split whole x q =
    whole x (grows_as k s old x (here ++ rest) from (sym split) (grows_both behind k s old new x here rest p q))

-- so many objects more are numbered
pub next_behind : Counts → (k : Kind) (s : Rows) (a b : ProgressView) (xs : List Meeting) → Grows k s a b xs → next_of b ≡ next_of a + count_entered xs
next_behind counts k s a b xs p =
    ap length p.found.positions ∙ length-append a.found.positions (positions_in xs) ∙ ap (λ n. next_of a + n) (counts xs)

pub not_fewer : {k : Kind} {s : Rows} (a b : ProgressView) {xs : List Meeting} → Grows k s a b xs → next_of a ≤ next_of b
not_fewer {k} {s} a b {xs} p = omega (arith, ap length p.found.positions, length-append a.found.positions (positions_in xs))

-- ---- a node's own faults and defaults, behind what is below it

-- its own faults
pub grows_with : (k : Kind) (s : Rows) (a b : ProgressView) (xs : List Meeting) (faults own : List Flaw) → Grows k s a b xs → faults ≡ b.faults ++ own
    → GrowsWith k s a (record { faults = faults; found = b.found; steps = b.steps }) xs own
grows_with k s a b xs faults own p told = record { faults = told_both a.faults (flat_map (faults_at k s) xs) own p.faults told; found = p.found; steps = p.steps }

-- none
pub grows_alone : (k : Kind) (s : Rows) (a b : ProgressView) (xs : List Meeting) → Grows k s a b xs → GrowsWith k s a b xs []
grows_alone k s a b xs p = record { faults = p.faults ∙ ap (λ fs. a.faults ++ fs) (sym (append-nil (flat_map (faults_at k s) xs))); found = p.found; steps = p.steps }

-- nothing else than these
pub grows_only : Quiet → (k : Kind) (s : Rows) (a : ProgressView) (faults own : List Flaw) → faults ≡ a.faults ++ own
    → GrowsWith k s a (record { faults = faults; found = a.found; steps = a.steps }) [] own
grows_only quiet k s a faults own told = grows_with k s a a [] faults own (grows_nothing quiet k s a) told

pub with_as : (k : Kind) (s : Rows) (a b : ProgressView) (xs ys : List Meeting) (own : List Flaw) → xs ≡ ys → GrowsWith k s a b xs own → GrowsWith k s a b ys own
with_as k s a b xs ys own e h = subst (λ (ms : List Meeting). GrowsWith k s a b ms own) e h

one_behind : (k : Kind) (s : Rows) (xs : List Meeting) (y : Meeting) → flat_map (faults_at k s) (xs ++ y ∷ []) ≡ flat_map (faults_at k s) xs ++ faults_at k s y
one_behind k s xs y = flat_map-append (faults_at k s) xs (y ∷ []) ∙ ap (λ (fs : List Flaw). flat_map (faults_at k s) xs ++ fs) (append-nil (faults_at k s y))

-- the node itself is met
pub closes : Behind → (k : Kind) (s : Rows) (a b : ProgressView) (xs : List Meeting) (own : List Flaw) (m : Node) (found : Findings) → GrowsWith k s a b xs own
    → faults_at k s (at_node m) ≡ own → Finds b.found found (met_in s (at_node m ∷ []))
    → Closes k s a (record { faults = b.faults; found = found; steps = b.steps }) xs m
closes behind k s a b xs own m found p is used = record {
  faults = p.faults ∙ ap (λ (fs : List Flaw). a.faults ++ (flat_map (faults_at k s) xs ++ fs)) (sym is) ∙ ap (λ (fs : List Flaw). a.faults ++ fs) (sym (one_behind k s xs (at_node m)));
  found = behind s a.found b.found found xs (at_node m ∷ []) p.found used;
  steps = p.steps;
}

-- its visit was counted before
pub visited : (k : Kind) (s : Rows) (a : ProgressView) (steps : ℕ) (c : ProgressView) (xs : List Meeting) (m : Node) → steps ≡ count_up (a.steps + width m.label)
    → Closes k s (record { faults = a.faults; found = a.found; steps = steps }) c xs m → Grows k s a c (xs ++ at_node m ∷ [])
visited k s a steps c xs m counts p = record {
  faults = p.faults;
  found = p.found;
  steps = omega (arith, counts, p.steps, sum_by-append (work_at k s) xs (at_node m ∷ []), sum_by-cons (work_at k s) (at_node m) []);
}

-- ---- what a node's own faults and defaults are

-- no default is in use
pub quiet_node : Defaults → Quiet → (s : Rows) (a : Findings) (m : Node) → in_use m.label.defined.kind m.label m.scope (found_of m) ≡ []
    → Finds a a (met_in s (at_node m ∷ []))
quiet_node defaults quiet s a m none =
    let n : ℕ = m.node.0 in
    let here : ℕ = first_of m.spot.around in
    subst (λ x. Finds a a x)
    (sym (defaults s m ∙ ap (λ (vs : List Val). only_used (used_if (is_target s.links n) n here vs)) none)) (quiet s a)

-- none are used of what isn't empty
unused : (u : Bool) (vs : List Val) → cond (u && false) vs [] ≡ []
unused true vs = refl
unused false vs = refl

filled : (K : NodeKind) (l : Label) (scope : RuleScope) (found : Option Data) → is_empty_at K found ≡ false → in_use K l scope found ≡ []
filled K l scope found e = ap (λ (b : Bool). cond (uses_defaults scope && b) (defaults_of l) []) e ∙ unused (uses_defaults scope) (defaults_of l)

-- only leafs and leaf-lists have defaults
other_filled : (K : NodeKind) (found : Option Data) → (K ≡ kind.Leaf → ⊥) → (K ≡ kind.LeafList → ⊥) → is_empty_at K found ≡ false
other_filled kind.Leaf found h g = absurd (h refl)
other_filled kind.LeafList found h g = absurd (g refl)
other_filled _ found h g = refl

pub in_use_other : (K : NodeKind) (l : Label) (scope : RuleScope) (found : Option Data) → (K ≡ kind.Leaf → ⊥) → (K ≡ kind.LeafList → ⊥) → in_use K l scope found ≡ []
in_use_other K l scope found h g = filled K l scope found (other_filled K found h g)

-- a leaf that is written has none in use
pub in_use_written : (l : Label) (scope : RuleScope) (d : Data) → in_use kind.Leaf l scope (Some d) ≡ []
in_use_written l scope d = filled kind.Leaf l scope (Some d) refl

-- nor has a leaf-list with items
pub in_use_items : (l : Label) (scope : RuleScope) (found : Option Data) → (uses_defaults scope && is_empty_at kind.LeafList found) ≡ false → in_use kind.LeafList l scope found ≡ []
in_use_items l scope found e = ap (λ (b : Bool). cond b (defaults_of l) []) e

-- those of what is empty
used_by : (u : Bool) (vs : List Val) → cond (u && true) vs [] ≡ cond u vs []
used_by true vs = refl
used_by false vs = refl

pub in_use_empty : (K : NodeKind) (l : Label) (scope : RuleScope) (found : Option Data) → is_empty_at K found ≡ true → in_use K l scope found ≡ cond (uses_defaults scope) (defaults_of l) []
in_use_empty K l scope found e = ap (λ (b : Bool). cond (uses_defaults scope && b) (defaults_of l) []) e ∙ used_by (uses_defaults scope) (defaults_of l)

-- none of them are in use where no rule holds
pub in_use_unasked : (K : NodeKind) (l : Label) (scope : RuleScope) (found : Option Data) → is_asked scope ≡ false → in_use K l scope found ≡ []
in_use_unasked K l Unasked found e = refl
in_use_unasked K l Always found e = absurd (true≢false e)
in_use_unasked K l (InCase those) found e = absurd (true≢false e)
in_use_unasked K l InDefault found e = absurd (true≢false e)

-- the faults of a node for which some rule holds
pub asked_faults : (k : Kind) (s : Rows) (m : Node) (K : NodeKind) (found : Option Data) → m.label.defined.kind ≡ K → is_asked m.scope ≡ true → found_of m ≡ found
    → faults_at k s (at_node m) ≡ kind_faults K m found
asked_faults k s m K found is asked written =
    ap (λ (b : Bool). cond b (kind_faults m.label.defined.kind m (found_of m)) (state_faults m.label.defined.kind m (found_of m))) asked
    ∙ ap (λ (x : NodeKind). kind_faults x m (found_of m)) is ∙ ap (λ (o : Option Data). kind_faults K m o) written

-- and of one for which none does
pub unasked_faults : (k : Kind) (s : Rows) (m : Node) (K : NodeKind) (found : Option Data) → m.label.defined.kind ≡ K → is_asked m.scope ≡ false → found_of m ≡ found
    → faults_at k s (at_node m) ≡ state_faults K m found
unasked_faults k s m K found is asked written =
    ap (λ (b : Bool). cond b (kind_faults m.label.defined.kind m (found_of m)) (state_faults m.label.defined.kind m (found_of m))) asked
    ∙ ap (λ (x : NodeKind). state_faults x m (found_of m)) is ∙ ap (λ (o : Option Data). state_faults K m o) written

left_asked : (a b c : Bool) → b ≡ true → (a && not b && c) ≡ false
left_asked false b c e = refl
left_asked true true c e = refl
left_asked true false c e = absurd (true≢false (sym e))

left_absent : (a b : Bool) → (a && not b && false) ≡ false
left_absent false b = refl
left_absent true true = refl
left_absent true false = refl

left_unasked : (a b : Bool) → a ≡ true → b ≡ false → (a && not b && true) ≡ true
left_unasked false b e f = absurd (true≢false (sym e))
left_unasked true true e f = absurd (true≢false f)
left_unasked true false e f = refl

-- it is looked into
pub entered_asked : (K : NodeKind) (scope : RuleScope) (found : Option Data) → is_asked scope ≡ true → is_left K scope found ≡ false
entered_asked K scope found asked = left_asked (is_data K) (is_asked scope) (is_some found) asked

-- what isn't written can't be left
pub entered_absent : (K : NodeKind) (scope : RuleScope) → is_left K scope None ≡ false
entered_absent K scope = left_absent (is_data K) (is_asked scope)

-- state that is written is
pub left_written : (K : NodeKind) (scope : RuleScope) (d : Data) → is_data K ≡ true → is_asked scope ≡ false → is_left K scope (Some d) ≡ true
left_written K scope d is_one unasked = left_unasked (is_data K) (is_asked scope) is_one unasked

-- ---- a whole document

-- from nothing on
pub all_grown : (k : Kind) (s : Rows) (ms : Members) (start new : ProgressView) → start.faults ≡ [] → start.found ≡ none_found → start.steps ≡ 0
    → Grows k s start new (object_at k s root None Root [] 0 (next_of start) (object ms))
    → Grows k s (record { faults = []; found = none_found; steps = 0 }) new (all_met k s (object ms))
all_grown k s ms start new no_faults nothing_found no_steps h =
    let same : start ≡ record { faults = []; found = none_found; steps = 0 } =
    ap (λ (fs : List Flaw). record { faults = fs; found = start.found; steps = start.steps }) no_faults
    ∙ ap (λ (f : Findings). record { faults = []; found = f; steps = start.steps }) nothing_found
    ∙ ap (λ (n : ℕ). record { faults = []; found = none_found; steps = n }) no_steps in
    subst (λ (t : ProgressView). Grows k s t new (object_at k s root None Root [] 0 (next_of t) (object ms))) same h
