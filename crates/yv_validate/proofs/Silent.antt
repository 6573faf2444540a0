-- What is met at quiet nodes of which none exists: nothing comes of it but steps.
use Rattle.std.proofs.Common.{◌≡◌, ℕ, ◌+◌, ◌-◌, ◌<◌, ◌==◌, List, [], ◌∷◌, ◌++◌, length, Bool, true, false, cond, not, ◌&&◌, ◌||◌, Option, Some, None, refl, sym, ap, ◌∙◌, subst, append-nil, arith, eqb-true, nat_lt, inl, inr}
use Rattle.std.specs.List.{flat_map, sum_by}
use Rattle.std.specs.Option.{option_map, unwrap_or}
use Rattle.std.proofs.lemmas.Bool.{cases_Bool, true≢false}
use Rattle.std.proofs.lemmas.Bool.Decides.{nat_tests}
use Rattle.std.proofs.lemmas.Grind.{flat_map-append}
use Rattle.std.proofs.lemmas.List.Sums.{sum_by-append, sum_by-cons}
use Rattle.serde_json.specs.Data.{Data, null, boolean, number, string, array, object, Items, no_items, item, Members, no_members}
use Rattle.serde_json.specs.Find.{get_member}
use Rattle.yv_node_content.specs.Kinds.{is_data, is_operation_or_notification, is_passed}
use Rattle.yv_node_content.specs.declared.kind.NodeKind.{NodeKind}
use Rattle.yv_node_content.specs.declared.kind.NodeKind.TheVariants as kind
use Rattle.yv_text_statement.specs.declared.document_kind.Kind.{Kind}
use Rattle.yv_values.specs.Count.{count_up}
use Rattle.yv_values.specs.Reads.{or_else}
use Rattle.yv_values.specs.Values.{Val}
use Rattle.yv_nodes.specs.Defaults.{are_none, defaults_of, has_no_value, width}
use Rattle.yv_nodes.specs.Link.{is_target, link_in}
use Rattle.yv_nodes.specs.Rows.{below as below_in, rank, Rows, row_at, tree_of}
use Rattle.yv_nodes.specs.Tree.{count, Forest, Label, Tree, no_trees, node, tree}
use Rattle.yv_nodes.specs.declared.node.NodeId.{NodeId}
use Rattle.yv_schema_tables.specs.Measures.{is_container, is_open}
use Rattle.yv_schema_tables.specs.Measures as measured
use Rattle.yv_schema_tables.specs.Sound.{IsSound}
use Rattle.yv_walk.specs.Existence.{any, both, count_standing, has_items, is_there, kind_standing, row_standing, existence_of, tree_standing}
use Rattle.yv_walk.specs.declared.existence.Existence.{Existence}
use Rattle.yv_walk.specs.declared.existence.Existence.TheVariants.{Nothing, Only, Several}
use Rattle.yv_data_leafrefs.specs.declared.scope.RuleScope.{RuleScope}
use Rattle.yv_data_leafrefs.specs.declared.scope.RuleScope.TheVariants.{Always}
use Rattle.yv_data_leafrefs.specs.Findings.{Findings, Finds, first_of, kept_at, met_in, notes_at, positions_at, used_at, used_if}
use Rattle.yv_data_leafrefs.specs.InUse.{case_scope, enforces, enforces_beside, in_use, is_asked, is_empty_at, scope_in, uses_defaults}
use Rattle.yv_data_leafrefs.specs.Values.{values_of_node}
use Rattle.yv_data_leafrefs.specs.Meetings.{at, Below, container_met, count_entered, found_of, in_no_object, is_left, kind_met, Meeting, meetings, at_node, Node, node_met, Spot}
use Rattle.yv_data_faults.specs.declared.fault.FaultKind.TheVariants.{Mandatory, Max, Min, MissingKey, State}
use Rattle.yv_validate.specs.Faults.{choice_faults, count_faults, faults_at, flaw, flaw_if, kind_faults, leaf_faults, missing_fault, node_faults, state_faults}
use Rattle.yv_data_faults.specs.Flaw.{Flaw}
use Rattle.yv_validate.specs.InnerNotes.{Gains, GainsBy}
use Rattle.yv_data_quiet.specs.NamedLeafs.{is_named, is_read}
use Rattle.yv_data_quiet.specs.Quiet.{are_quiet, is_mute, is_quiet, is_unread, IsEmptied, IsPassed, tree_met}
use Rattle.yv_validate.specs.InnerWalk.{below_from, children_met, Grows, one_from, one_met, ProgressView}
use Rattle.yv_validate.specs.Values.{value_in}
use Rattle.yv_validate.specs.Work.{work_at}
use Rattle.yv_validate.specs.declared.notes.Notes.{Notes}
use Rattle.yv_validate.proofs.Beneath.{quiet_state}
use Rattle.yv_data_quiet.proofs.Children.{rank_is}
use Rattle.yv_validate.proofs.WalkGrowth.{Quiet}
use Rattle.yv_data_quiet.proofs.ListLeafs.{named_apart, or_neither}
use Rattle.yv_validate.proofs.NoteGrowth.{gains_unnamed}
use Rattle.yv_validate.proofs.Own.{met_append, own_node, own_of, valued_apart}

-- ---- truth values and standings

and_true : (a b : Bool) → (a && b) ≡ true → (a ≡ true) × (b ≡ true)
and_true true b e = (refl, e)
and_true false b e = absurd (true≢false (sym e))

and_false : (a b : Bool) → (a && b && false) ≡ false
and_false true true = refl
and_false true false = refl
and_false false b = refl

and_three : (a b c : Bool) → (a && b && c) ≡ true → (a ≡ true) × (b ≡ true) × (c ≡ true)
and_three true true true e = (refl, refl, refl)
and_three true true false e = absurd (true≢false (sym e))
and_three true false c e = absurd (true≢false (sym e))
and_three false b c e = absurd (true≢false (sym e))

or_other : (a b : Bool) → (a || b) ≡ true → a ≡ false → b ≡ true
or_other true b e f = absurd (true≢false f)
or_other false b e f = e

not_true : (a : Bool) → not a ≡ true → a ≡ false
not_true true e = absurd (true≢false (sym e))
not_true false e = refl

one_or : (b : Bool) (n : NodeId) → cond b (Only n) Several ≡ Nothing → ⊥
one_or true n e = cc
one_or false n e = cc

both_parts : (a b : Existence) → both a b ≡ Nothing → (a ≡ Nothing) × (b ≡ Nothing)
both_parts Nothing b e = (refl, e)
both_parts Several b e = absurd (cc)
both_parts (Only n) Nothing e = absurd (cc)
both_parts (Only n) Several e = absurd (cc)
both_parts (Only n) (Only m) e = absurd (one_or (n.0 == m.0) n e)

none_here : (b : Bool) (x : Existence) → x ≡ Nothing → cond b x Nothing ≡ Nothing
none_here true x e = e
none_here false x e = refl

-- nothing exists in an object without members
pub nothing : (first : ℕ) (ts : Forest) → existence_of first ts no_members ≡ Nothing
nothing first no_trees = refl
nothing first (tree (node l kids) ts) =
    ap (λ x. both x (existence_of (first + 1 + count kids) ts no_members)) (none_here (is_passed l.defined.kind) (existence_of (first + 1) kids no_members) (nothing (first + 1) kids))
    ∙ nothing (first + 1 + count kids) ts

-- and then no case does
none_counted : (first : ℕ) (ts : Forest) (ms : Members) → existence_of first ts ms ≡ Nothing → count_standing first ts ms ≡ 0
none_counted first no_trees ms e = refl
none_counted first (tree (node l kids) ts) ms e =
    let own : Existence = kind_standing l.defined.kind (record { 0 = first }) (get_member l.member ms) (existence_of (first + 1) kids ms) in
    let parts = both_parts own (existence_of (first + 1 + count kids) ts ms) e in
    let others : ℕ = count_standing (first + 1 + count kids) ts ms in
    let none : others ≡ 0 = none_counted (first + 1 + count kids) ts ms parts.1 in
    let sum : 0 + others ≡ 0 = omega (arith, none) in
    ap (λ (x : Existence). cond (any x) 1 0 + others) parts.0 ∙ sum

-- what is written so doesn't exist
not_written : (b : Bool) (n : NodeId) → cond b (Only n) Nothing ≡ Nothing → b ≡ false
not_written true n e = absurd (cc)
not_written false n e = refl

-- ---- nothing comes of what is met but these steps

pub record SaysNothing (k : Kind) (s : Rows) (xs : List Meeting) (total : ℕ) : Type 0 where
  pub faults : flat_map (faults_at k s) xs ≡ []
  pub kept : flat_map (kept_at (is_target s.links)) xs ≡ []
  pub used : flat_map (used_at (is_target s.links)) xs ≡ []
  pub positions : flat_map positions_at xs ≡ []
  pub notes : flat_map (notes_at (link_in s.links)) xs ≡ []
  pub values : (e n : ℕ) → is_named s n ≡ true → own_of e n xs ≡ None
  pub steps : sum_by (work_at k s) xs ≡ total

says_none : (k : Kind) (s : Rows) → SaysNothing k s [] 0
says_none k s = record { faults = refl; kept = refl; used = refl; positions = refl; notes = refl; values = λ e n named. refl; steps = refl }

none_both : {X Y : Type 0} (f : X → List Y) (xs ys : List X) → flat_map f xs ≡ [] → flat_map f ys ≡ [] → flat_map f (xs ++ ys) ≡ []
none_both f xs ys p q = flat_map-append f xs ys ∙ ap (λ zs. zs ++ flat_map f ys) p ∙ q

says_both : (k : Kind) (s : Rows) (xs ys : List Meeting) (v w all : ℕ) → SaysNothing k s xs v → SaysNothing k s ys w → v + w ≡ all → SaysNothing k s (xs ++ ys) all
says_both k s xs ys v w all p q sum = record {
  faults = none_both (faults_at k s) xs ys p.faults q.faults;
  kept = none_both (kept_at (is_target s.links)) xs ys p.kept q.kept;
  used = none_both (used_at (is_target s.links)) xs ys p.used q.used;
  positions = none_both positions_at xs ys p.positions q.positions;
  notes = none_both (notes_at (link_in s.links)) xs ys p.notes q.notes;
  values = λ e n named. met_append e n xs ys ∙ ap (λ (o : Option Val). or_else o (own_of e n xs)) (q.values e n named) ∙ p.values e n named;
  steps = omega (arith, p.steps, q.steps, sum, sum_by-append (work_at k s) xs ys);
}

-- values of a node, as those of its defaults in use, of which nothing comes
record IsUnused (s : Rows) (n : NodeId) (vs : List Val) : Type 0 where
  pub used : (here : ℕ) → used_if (is_target s.links n.0) n.0 here vs ≡ []
  pub values : (e m : ℕ) (l : Label) (spot : Spot) → is_named s m ≡ true → value_in e m (values_of_node n l spot vs) ≡ None

-- there are none
unused_none : (s : Rows) (n : NodeId) (vs : List Val) → vs ≡ [] → IsUnused s n vs
unused_none s n vs none = record {
  used = λ here. ap (used_if (is_target s.links n.0) n.0 here) none;
  values = λ e m l spot named. ap (λ (ws : List Val). value_in e m (values_of_node n l spot ws)) none;
}

no_target : (n here : ℕ) (vs : List Val) → used_if false n here vs ≡ []
no_target n here [] = refl
no_target n here (v ∷ vs) = refl

-- nothing asks for them
unused_unread : (s : Rows) (n : NodeId) (vs : List Val) → is_read s n.0 ≡ false → IsUnused s n vs
unused_unread s n vs unread =
    let parts = or_neither (is_target s.links n.0) (is_named s n.0) unread in
    record {
      used = λ here. ap (λ (b : Bool). used_if b n.0 here vs) parts.0 ∙ no_target n.0 here vs;
      values = λ e m l spot named. valued_apart e m n l spot vs (named_apart s n.0 m parts.1 named);
    }

-- a node of which nothing is told, and whose defaults don't matter
says_node : (k : Kind) (s : Rows) (m : Node) → node_faults m.label.defined.kind m (found_of m) ≡ []
    → IsUnused s m.node (in_use m.label.defined.kind m.label m.scope (found_of m)) → SaysNothing k s (at_node m ∷ []) (width m.label)
says_node k s m faultless unused = record {
  faults = append-nil (faults_at k s (at_node m)) ∙ faultless;
  kept = refl;
  used = append-nil (used_at (is_target s.links) (at_node m)) ∙ unused.used (first_of m.spot.around);
  positions = refl;
  notes = refl;
  values = λ e n named. own_node e n m ∙ unused.values e n m.label m.spot named;
  steps = omega (arith, sum_by-cons (work_at k s) (at_node m) []);
}

says_unless : (k : Kind) (s : Rows) (b : Bool) (xs : List Meeting) (w : ℕ) → (b ≡ false → SaysNothing k s xs w) → SaysNothing k s (cond b [] xs) (cond b 0 w)
says_unless k s true xs w h = says_none k s
says_unless k s false xs w h = h refl

says_if : (k : Kind) (s : Rows) (b : Bool) (xs : List Meeting) (w : ℕ) → (b ≡ true → w ≡ 0) → SaysNothing k s xs w → SaysNothing k s (cond b [] xs) w
says_if k s true xs w none h = subst (λ (n : ℕ). SaysNothing k s [] n) (sym (none refl)) (says_none k s)
says_if k s false xs w none h = h

says_open : (k : Kind) (s : Rows) (b : Bool) (xs : List Meeting) (w : ℕ) → (b ≡ false → SaysNothing k s xs w) → SaysNothing k s (cond b [] xs) (cond (not b) w 0)
says_open k s true xs w h = says_none k s
says_open k s false xs w h = h refl

-- ---- what is met at a node of some kind

-- what is asked of the nodes in a node of this kind
abbrev inner_of : NodeKind → Label → Bool
inner_of K l = is_passed K || is_container K && not l.defined.has_presence

-- what is known of what is below a node that says nothing
record Inner (k : Kind) (s : Rows) (first : ℕ) (kids : Forest) (below : Below) (inner : Existence) : Type 0 where
  pub inside : are_quiet s first kids ≡ true → (spot : Spot) (next : ℕ) (scope : RuleScope) → SaysNothing k s (below.inside spot next scope no_members) (measured.count_met kids)
  pub cases : are_quiet s first kids ≡ true → inner ≡ Nothing → SaysNothing k s below.cases (measured.count_met kids)
  pub nodes : are_quiet s first kids ≡ true → inner ≡ Nothing → SaysNothing k s below.nodes (measured.count_met kids)

-- a container that isn't written
open_quiet : (p q : Bool) → (not (not p) || q) ≡ true → p ≡ false → q ≡ true
open_quiet true q e f = absurd (true≢false f)
open_quiet false q e f = e

absent_left : (K : NodeKind) (scope : RuleScope) → is_left K scope None ≡ false
absent_left K scope = and_false (is_data K) (not (is_asked scope))

-- written, and not there
gone : {X : Type 0} (n : NodeId) → Only n ≡ Nothing → X
gone n e = absurd (cc)

kind_says : (k : Kind) (s : Rows) (asked : Bool) (first : ℕ) (K : NodeKind) (n : NodeId) (l : Label) (kids : Forest) (spot : Spot) (scope : RuleScope) (next : ℕ) (found : Option Data) (below : Below) (inner : Existence)
    → (is_mute asked K l && (not (inner_of K l) || are_quiet s first kids)) ≡ true → kind_standing K n found inner ≡ Nothing → Inner k s first kids below inner
    → SaysNothing k s (kind_met K n l kids spot scope next found below) (cond (inner_of K l) (measured.count_met kids) 0)
kind_says k s asked first kind.Container n l kids spot scope next None below inner quiet none h =
    says_open k s l.defined.has_presence (below.inside (in_no_object spot l) next scope no_members) (measured.count_met kids)
    (λ e. h.inside (open_quiet l.defined.has_presence (are_quiet s first kids) quiet e) (in_no_object spot l) next scope)
kind_says k s asked first kind.Container n l kids spot scope next (Some d) below inner quiet none h = gone n none
kind_says k s asked first kind.Leaf n l kids spot scope next None below inner quiet none h = says_none k s
kind_says k s asked first kind.Leaf n l kids spot scope next (Some d) below inner quiet none h = gone n none
kind_says k s asked first kind.LeafList n l kids spot scope next None below inner quiet none h = says_none k s
kind_says k s asked first kind.LeafList n l kids spot scope next (Some (array no_items)) below inner quiet none h = says_none k s
kind_says k s asked first kind.LeafList n l kids spot scope next (Some (array (item d ds))) below inner quiet none h = gone n none
kind_says k s asked first kind.LeafList n l kids spot scope next (Some null) below inner quiet none h = says_none k s
kind_says k s asked first kind.LeafList n l kids spot scope next (Some (boolean x)) below inner quiet none h = says_none k s
kind_says k s asked first kind.LeafList n l kids spot scope next (Some (number x)) below inner quiet none h = says_none k s
kind_says k s asked first kind.LeafList n l kids spot scope next (Some (string x)) below inner quiet none h = says_none k s
kind_says k s asked first kind.LeafList n l kids spot scope next (Some (object x)) below inner quiet none h = says_none k s
kind_says k s asked first kind.List n l kids spot scope next None below inner quiet none h = says_none k s
kind_says k s asked first kind.List n l kids spot scope next (Some (array no_items)) below inner quiet none h = says_none k s
kind_says k s asked first kind.List n l kids spot scope next (Some (array (item d ds))) below inner quiet none h = gone n none
kind_says k s asked first kind.List n l kids spot scope next (Some null) below inner quiet none h = says_none k s
kind_says k s asked first kind.List n l kids spot scope next (Some (boolean x)) below inner quiet none h = says_none k s
kind_says k s asked first kind.List n l kids spot scope next (Some (number x)) below inner quiet none h = says_none k s
kind_says k s asked first kind.List n l kids spot scope next (Some (string x)) below inner quiet none h = says_none k s
kind_says k s asked first kind.List n l kids spot scope next (Some (object x)) below inner quiet none h = says_none k s
kind_says k s asked first kind.Choice n l kids spot scope next found below inner quiet none h =
    h.cases (and_true (not l.defined.is_mandatory) (are_quiet s first kids) quiet).1 none
kind_says k s asked first kind.Case n l kids spot scope next found below inner quiet none h = h.nodes quiet none
kind_says k s asked first _ n l kids spot scope next found below inner quiet none h = says_none k s

-- only a container is entered that isn't left
left_none : (K : NodeKind) (n : NodeId) (l : Label) (kids : Forest) (scope : RuleScope) (found : Option Data) (inner : Existence) → kind_standing K n found inner ≡ Nothing
    → is_left K scope found ≡ true → cond (inner_of K l) (measured.count_met kids) 0 ≡ 0
left_none kind.Container n l kids scope None inner none left = absurd (true≢false (sym left ∙ absent_left kind.Container scope))
left_none kind.Container n l kids scope (Some d) inner none left = gone n none
left_none kind.Choice n l kids scope found inner none left = absurd (true≢false (sym left))
left_none kind.Case n l kids scope found inner none left = absurd (true≢false (sym left))
left_none _ n l kids scope found inner none left = refl

-- ---- what is told of it

neither : (b : Bool) (xs ys : List Flaw) → xs ≡ [] → ys ≡ [] → cond b xs ys ≡ []
neither true xs ys p q = p
neither false xs ys p q = q

state_says : (K : NodeKind) (m : Node) (n : NodeId) (found : Option Data) → row_standing K n found ≡ Nothing → state_faults K m found ≡ []
state_says K m n None none = refl
state_says K m n (Some d) none = ap (λ (b : Bool). flaw_if b State (at m.spot m.label None)) (not_written (is_there K d) n none)

missing_none : (m : Node) → m.label.defined.is_mandatory ≡ false → missing_fault m ≡ []
missing_none m e = ap (λ (b : Bool). flaw_if (b && enforces m.scope) Mandatory (at m.spot m.label None)) e

most_none : (o : Option ℕ) → unwrap_or (option_map (λ (most : ℕ). nat_lt most 0) o) false ≡ false
most_none None = refl
most_none (Some n) = let low : nat_lt n 0 ≡ false = grind (arith, nat_tests) in low

count_none : (m : Node) → (m.label.defined.min == 0) ≡ true → count_faults m 0 ≡ []
count_none m e =
    let here = at m.spot m.label None in
    ap (λ (min : ℕ). flaw_if (nat_lt 0 min && enforces_beside m.node m.scope) Min here
    ++ flaw_if (unwrap_or (option_map (λ (most : ℕ). nat_lt most 0) m.label.defined.max) false) Max here) (eqb-true m.label.defined.min 0 e)
    ∙ ap (λ (b : Bool). flaw_if b Max here) (most_none m.label.defined.max)

leaf_none : (m : Node) (rest : Bool) → (not m.label.is_key && not m.label.defined.is_mandatory && rest) ≡ true → leaf_faults m None ≡ []
leaf_none m rest e =
    let parts = and_three (not m.label.is_key) (not m.label.defined.is_mandatory) rest e in
    ap (λ (b : Bool). cond b (flaw MissingKey (at m.spot m.label None) ∷ []) (missing_fault m)) (not_true m.label.is_key parts.0)
    ∙ missing_none m (not_true m.label.defined.is_mandatory parts.1)

kind_told : (asked : Bool) (K : NodeKind) (m : Node) (n : NodeId) (found : Option Data) (inner : Existence) (rest : Bool)
    → (is_mute asked K m.label && rest) ≡ true → kind_standing K n found inner ≡ Nothing
    → (inner ≡ Nothing → count_standing (m.node.0 + 1) m.kids m.members ≡ 0) → kind_faults K m found ≡ []
kind_told asked kind.Leaf m n None inner rest quiet none counts = leaf_none m (is_unread asked m.label) (and_true (is_mute asked kind.Leaf m.label) rest quiet).0
kind_told asked kind.Leaf m n (Some d) inner rest quiet none counts = refl
kind_told asked kind.LeafList m n None inner rest quiet none counts =
    count_none m (and_true (m.label.defined.min == 0) (is_unread asked m.label) (and_true (is_mute asked kind.LeafList m.label) rest quiet).0).0
kind_told asked kind.LeafList m n (Some (array no_items)) inner rest quiet none counts =
    count_none m (and_true (m.label.defined.min == 0) (is_unread asked m.label) (and_true (is_mute asked kind.LeafList m.label) rest quiet).0).0
kind_told asked kind.LeafList m n (Some (array (item d ds))) inner rest quiet none counts = gone n none
kind_told asked kind.LeafList m n (Some null) inner rest quiet none counts = gone n none
kind_told asked kind.LeafList m n (Some (boolean x)) inner rest quiet none counts = gone n none
kind_told asked kind.LeafList m n (Some (number x)) inner rest quiet none counts = gone n none
kind_told asked kind.LeafList m n (Some (string x)) inner rest quiet none counts = gone n none
kind_told asked kind.LeafList m n (Some (object x)) inner rest quiet none counts = gone n none
kind_told asked kind.List m n None inner rest quiet none counts = count_none m (and_true (is_mute asked kind.List m.label) rest quiet).0
kind_told asked kind.List m n (Some (array no_items)) inner rest quiet none counts = count_none m (and_true (is_mute asked kind.List m.label) rest quiet).0
kind_told asked kind.List m n (Some (array (item d ds))) inner rest quiet none counts = gone n none
kind_told asked kind.List m n (Some null) inner rest quiet none counts = gone n none
kind_told asked kind.List m n (Some (boolean x)) inner rest quiet none counts = gone n none
kind_told asked kind.List m n (Some (number x)) inner rest quiet none counts = gone n none
kind_told asked kind.List m n (Some (string x)) inner rest quiet none counts = gone n none
kind_told asked kind.List m n (Some (object x)) inner rest quiet none counts = gone n none
kind_told asked kind.Choice m n found inner rest quiet none counts =
    ap (choice_faults m) (counts none) ∙ missing_none m (not_true m.label.defined.is_mandatory (and_true (is_mute asked kind.Choice m.label) rest quiet).0)
kind_told asked kind.Anydata m n None inner rest quiet none counts = missing_none m (not_true m.label.defined.is_mandatory (and_true (is_mute asked kind.Anydata m.label) rest quiet).0)
kind_told asked kind.Anydata m n (Some d) inner rest quiet none counts = gone n none
kind_told asked kind.Anyxml m n None inner rest quiet none counts = missing_none m (not_true m.label.defined.is_mandatory (and_true (is_mute asked kind.Anyxml m.label) rest quiet).0)
kind_told asked kind.Anyxml m n (Some d) inner rest quiet none counts = refl
kind_told asked _ m n found inner rest quiet none counts = refl

passed_no_data : (K : NodeKind) → is_passed K ≡ true → is_data K ≡ false
passed_no_data kind.Choice e = refl
passed_no_data kind.Case e = refl
passed_no_data _ e = absurd (true≢false (sym e))

state_told : (K : NodeKind) (m : Node) (n : NodeId) (found : Option Data) (inner : Existence) → kind_standing K n found inner ≡ Nothing → state_faults K m found ≡ []
state_told K m n found inner none = elim (cases_Bool (is_passed K)) [
  | inl e ↦ quiet_state K m found (passed_no_data K e)
  | inr e ↦ state_says K m n found (sym (ap (λ (b : Bool). cond b inner (row_standing K n found)) e) ∙ none)
]

-- ---- its defaults

none_of : (vs : List Val) → are_none vs ≡ true → vs ≡ []
none_of [] e = refl
none_of (v ∷ vs) e = absurd (true≢false (sym e))

cond_same : (b : Bool) (vs : List Val) → vs ≡ [] → cond b vs [] ≡ []
cond_same true vs e = e
cond_same false vs e = refl

cond_never : (b : Bool) (vs : List Val) → cond (b && false) vs [] ≡ []
cond_never true vs = refl
cond_never false vs = refl

-- none is in use, or nothing asks for them
unread_unused : (s : Rows) (n : NodeId) (l : Label) (u : Bool) → is_unread (is_read s n.0) l ≡ true → IsUnused s n (cond u (defaults_of l) [])
unread_unused s n l u unread = elim (cases_Bool (has_no_value l)) [
  | inl e ↦ unused_none s n (cond u (defaults_of l) []) (cond_same u (defaults_of l) (none_of (defaults_of l) e))
  | inr e ↦ unused_unread s n (cond u (defaults_of l) []) (not_true (is_read s n.0) (or_other (has_no_value l) (not (is_read s n.0)) unread e))
]

unused : (s : Rows) (n : NodeId) (K : NodeKind) (l : Label) (scope : RuleScope) (found : Option Data) (rest : Bool) → (is_mute (is_read s n.0) K l && rest) ≡ true
    → IsUnused s n (in_use K l scope found)
unused s n kind.Leaf l scope found rest quiet =
    unread_unused s n l (uses_defaults scope && is_empty_at kind.Leaf found)
    (and_three (not l.is_key) (not l.defined.is_mandatory) (is_unread (is_read s n.0) l) (and_true (is_mute (is_read s n.0) kind.Leaf l) rest quiet).0).2
unused s n kind.LeafList l scope found rest quiet =
    unread_unused s n l (uses_defaults scope && is_empty_at kind.LeafList found)
    (and_true (l.defined.min == 0) (is_unread (is_read s n.0) l) (and_true (is_mute (is_read s n.0) kind.LeafList l) rest quiet).0).1
unused s n _ l scope found rest quiet =
    unused_none s n (cond (uses_defaults scope && false) (defaults_of l) []) (cond_never (uses_defaults scope) (defaults_of l))

-- ---- a node, and what is in it

node_says : (k : Kind) (s : Rows) (n : NodeId) (l : Label) (kids : Forest) (spot : Spot) (scope : RuleScope) (next : ℕ) (ms : Members) (below : Below)
    → is_quiet s n.0 (node l kids) ≡ true → tree_standing n.0 (node l kids) ms ≡ Nothing → Inner k s (n.0 + 1) kids below (existence_of (n.0 + 1) kids ms)
    → SaysNothing k s (node_met n l kids spot scope next ms below) (tree_met (node l kids))
node_says k s n l kids spot scope next ms below quiet none h =
    let K : NodeKind = l.defined.kind in
    let found : Option Data = get_member l.member ms in
    let inner : Existence = existence_of (n.0 + 1) kids ms in
    let m : Node = record { node = n; label = l; spot = spot; scope = scope; members = ms; kids = kids } in
    let asked : Bool = is_read s n.0 in
    let rest : Bool = not (is_open l) || are_quiet s (n.0 + 1) kids in
    let within : ℕ = cond (is_open l) (measured.count_met kids) 0 in
    let here : List Meeting = kind_met K n l kids spot scope next found below in
    says_unless k s (is_operation_or_notification K) (cond (is_left K scope found) [] here ++ at_node m ∷ []) (width l + within) (λ other.
    let mute : (is_mute asked K l && rest) ≡ true = or_other (is_operation_or_notification K) (is_mute asked K l && rest) quiet other in
    says_both k s (cond (is_left K scope found) [] here) (at_node m ∷ []) within (width l) (width l + within)
    (says_if k s (is_left K scope found) here within (left_none K n l kids scope found inner none)
    (kind_says k s asked (n.0 + 1) K n l kids spot scope next found below inner mute none h))
    (says_node k s m
    (neither (is_asked scope) (kind_faults K m found) (state_faults K m found)
    (kind_told asked K m n found inner rest mute none (none_counted (n.0 + 1) kids ms))
    (state_told K m n found inner none))
    (unused s n K l scope found rest mute))
    (omega arith))

-- quiet trees of which nothing exists in an object
pub trees_say : (k : Kind) (s : Rows) (scope_of : ℕ → Tree → RuleScope) (spot : Spot) (next first : ℕ) (ts : Forest) (ms : Members) → are_quiet s first ts ≡ true → existence_of first ts ms ≡ Nothing
    → SaysNothing k s (meetings k s scope_of spot next first ts ms) (measured.count_met ts)
trees_say k s scope_of spot next first no_trees ms quiet none = says_none k s
trees_say k s scope_of spot next first (tree (node l kids) ts) ms quiet none =
    let n : NodeId = record { 0 = first } in
    let scope : RuleScope = scope_in k l.is_config (scope_of first (node l kids)) in
    let below : Below = record {
      inside = λ at from inner ds. meetings k s (λ m t. inner) at from (first + 1) kids ds;
      cases = meetings k s (case_scope s n (first + 1) kids ms) spot next (first + 1) kids ms;
      nodes = meetings k s (λ m t. scope) spot next (first + 1) kids ms;
    } in
    let here : List Meeting = node_met n l kids spot scope next ms below in
    let own = and_true (is_quiet s first (node l kids)) (are_quiet s (first + 1 + count kids) ts) quiet in
    let apart = both_parts (kind_standing l.defined.kind n (get_member l.member ms) (existence_of (first + 1) kids ms)) (existence_of (first + 1 + count kids) ts ms) none in
    says_both k s here (meetings k s scope_of spot (next + count_entered here) (first + 1 + count kids) ts ms) (tree_met (node l kids)) (measured.count_met ts)
    (tree_met (node l kids) + measured.count_met ts)
    (node_says k s n l kids spot scope next ms below own.0 apart.0 (record {
      inside = λ q at from inner. trees_say k s (λ m t. inner) at from (first + 1) kids no_members q (nothing (first + 1) kids);
      cases = λ q e. trees_say k s (case_scope s n (first + 1) kids ms) spot next (first + 1) kids ms q e;
      nodes = λ q e. trees_say k s (λ m t. scope) spot next (first + 1) kids ms q e;
    }))
    (trees_say k s scope_of spot (next + count_entered here) (first + 1 + count kids) ts ms own.1 apart.1) refl

-- ---- one node, as the walk meets it

quiet_parts : (b : Bool) (v w : ℕ) → cond b (Some v) None ≡ Some w → (b ≡ true) × (v ≡ w)
quiet_parts true v w e = let same : v ≡ w = cc in (refl, same)
quiet_parts false v w e = absurd (cc)

pub one_says : (k : Kind) (s : Rows) (scope : RuleScope) (n : NodeId) (ms : Members) (spot : Spot) (next w : ℕ) → n.0 < length s.nodes → IsPassed s n ms w
    → SaysNothing k s (one_met k s scope n ms spot next) w
one_says k s scope n ms spot next w lt h =
    let l : Label = (row_at s n).label in
    let kids : Forest = below_in s n in
    let parts = quiet_parts (is_quiet s n.0 (tree_of s n)) (tree_met (tree_of s n)) w h.quiet in
    subst (λ (r : ℕ). SaysNothing k s (one_from k s scope n r ms spot next) w) (sym (rank_is s n h.sound lt))
    (subst (λ (v : ℕ). SaysNothing k s (one_from k s scope n (n.0 + 1) ms spot next) v) parts.1
    (node_says k s n l kids spot scope next ms (below_from k s scope spot next n (n.0 + 1) ms) parts.0 h.nothing (record {
      inside = λ q at from inner. trees_say k s (λ m t. inner) at from (n.0 + 1) kids no_members q (nothing (n.0 + 1) kids);
      cases = λ q e. trees_say k s (case_scope s n (n.0 + 1) kids ms) spot next (n.0 + 1) kids ms q e;
      nodes = λ q e. trees_say k s (λ m t. scope) spot next (n.0 + 1) kids ms q e;
    })))

-- what is below a node, in an object without members
pub emptied_says : (k : Kind) (s : Rows) (p : NodeId) (ms : Members) (spot : Spot) (next w : ℕ) → IsEmptied s p ms w → SaysNothing k s (children_met k s Always p ms spot next) w
emptied_says k s p ms spot next w h =
    subst (λ (v : ℕ). SaysNothing k s (children_met k s Always p ms spot next) v) h.steps
    (trees_say k s (λ m t. Always) spot next (rank p) (below_in s p) ms h.quiet
    (ap (λ (ds : Members). existence_of (rank p) (below_in s p) ds) h.empty ∙ nothing (rank p) (below_in s p)))

-- no entries, no members
pub no_entries : {X : Type 0} (xs : List X) → length xs ≡ 0 → xs ≡ []
no_entries [] e = refl
no_entries (x ∷ xs) e = absurd (omega arith)

-- a walk that counts these steps grows by what is met
pub quiet_grows : Quiet → (k : Kind) (s : Rows) (a : ProgressView) (steps w : ℕ) (xs : List Meeting) → SaysNothing k s xs w → steps ≡ count_up (a.steps + w)
    → Grows k s a (record { faults = a.faults; found = a.found; steps = steps }) xs
quiet_grows quiet k s a steps w xs h is =
    let nothing_kept : met_in s xs ≡ met_in s [] = λ i. record { kept = h.kept i; used = h.used i; positions = h.positions i; notes = h.notes i } in
    record {
      faults = sym (append-nil a.faults) ∙ ap (λ fs. a.faults ++ fs) (sym h.faults);
      found = subst (λ x. Finds a.found a.found x) (sym nothing_kept) (quiet s a.found);
      steps = omega (arith, is, h.steps);
    }

-- and notes no values
pub quiet_gains : (k : Kind) (s : Rows) (x : Notes) (w : ℕ) (met_at : Spot → ℕ → List Meeting) → ((spot : Spot) (next : ℕ) → SaysNothing k s (met_at spot next) w)
    → GainsBy s x x met_at
quiet_gains k s x w met_at h = λ spot next lt. gains_unnamed s x _ (λ n named. (h spot next).values spot.entry n named)
