-- The values of the leafs in an entry, of what is met in it; and how they are noted.
use Rattle.std.proofs.Common.{◌≡◌, ℕ, ◌+◌, ◌<◌, List, [], ◌∷◌, ◌++◌, length, Bool, true, false, ◌==◌, ◌&&◌, Option, Some, None, cond, refl, sym, ap, ◌∙◌, arith}
use Rattle.std.proofs.lemmas.Bool.Decides.{nat_tests}
use Rattle.std.proofs.lemmas.Grind.{flat_map-append}
use Rattle.serde_json.specs.Data.{Data, null, boolean, number, string, array, object, Items, no_items, item, Members, no_members}
use Rattle.serde_json.specs.Find.{get_member}
use Rattle.yv_node_content.specs.Kinds.{is_leaf, is_operation_or_notification}
use Rattle.yv_node_content.specs.declared.kind.NodeKind.{NodeKind}
use Rattle.yv_node_content.specs.declared.kind.NodeKind.TheVariants as kind
use Rattle.yv_text_statement.specs.declared.document_kind.Kind.{Kind}
use Rattle.yv_values.specs.Reads.{or_else}
use Rattle.yv_values.specs.Values.{Val}
use Rattle.yv_nodes.specs.Defaults.{defaults_of}
use Rattle.yv_nodes.specs.Rows.{below as below_in, rank, Rows, row_at, tree_of}
use Rattle.yv_nodes.specs.Tree.{count, Label, node, Tree, Forest, no_trees, tree}
use Rattle.yv_nodes.specs.declared.node.NodeId.{NodeId}
use Rattle.yv_data_leafrefs.specs.declared.scope.RuleScope.{RuleScope}
use Rattle.yv_data_leafrefs.specs.declared.scope.RuleScope.TheVariants.{Always}
use Rattle.yv_data_leafrefs.specs.InUse.{case_scope, in_use, scope_in, some_value, uses_defaults, value_of}
use Rattle.yv_data_leafrefs.specs.Meetings.{Below, count_entered, entries_met, entry_met, found_of, in_container, in_entry, in_no_object, is_left, items_met, kind_met, leaf_met, Meeting, meetings, at_node, Node, node_met, object_met, Spot, at_value}
use Rattle.yv_data_leafrefs.specs.Values.{ValueAt, values_of_node, values_at, values_in}
use Rattle.yv_data_quiet.specs.NamedLeafs.{is_named}
use Rattle.yv_validate.specs.InnerNotes.{default_value, Gains, GainsBy, last_of, noted_at, own_value}
use Rattle.yv_validate.specs.InnerWalk.{data_met, inside_at, node_at, one_met, ones_met, scope_at, with_node}
use Rattle.yv_validate.specs.Values.{is_own, value_if, value_in}
use Rattle.yv_validate.specs.declared.notes.Notes.{Notes}
use Rattle.yv_validate.proofs.WalkGrowth.{in_use_written}
use Rattle.yv_validate.proofs.NoteGrowth.{gains_as, gains_nothing, gains_on}

-- the value of a leaf in an entry, of what is met
abbrev pub own_of : (entry n : ℕ) → List Meeting → Option Val
own_of entry n ms = value_in entry n (values_in ms)

or_none : (a : Option Val) → or_else a None ≡ a
or_none None = refl
or_none (Some v) = refl

or_assoc : (a b c : Option Val) → or_else (or_else a b) c ≡ or_else a (or_else b c)
or_assoc None b c = refl
or_assoc (Some v) b c = refl

value_append : (e n : ℕ) (xs ys : List ValueAt) → value_in e n (xs ++ ys) ≡ or_else (value_in e n ys) (value_in e n xs)
value_append e n [] ys = sym (or_none (value_in e n ys))
value_append e n (x ∷ xs) ys =
    let own : Option Val = value_if (is_own e n x) x.value in
    ap (λ (o : Option Val). or_else o own) (value_append e n xs ys) ∙ or_assoc (value_in e n ys) (value_in e n xs) own

pub met_append : (e n : ℕ) (xs ys : List Meeting) → own_of e n (xs ++ ys) ≡ or_else (own_of e n ys) (own_of e n xs)
met_append e n xs ys = ap (value_in e n) (flat_map-append values_at xs ys) ∙ value_append e n (values_in xs) (values_in ys)

join_values : (e n : ℕ) (xs ys : List Meeting) (a b : Option Val) → own_of e n xs ≡ a → own_of e n ys ≡ b → own_of e n (xs ++ ys) ≡ or_else b a
join_values e n xs ys a b p q =
    met_append e n xs ys ∙ ap (λ (o : Option Val). or_else o (own_of e n xs)) q ∙ ap (λ (o : Option Val). or_else b o) p

abbrev nothing : Option Val
nothing = None

if_none : (b : Bool) → cond b nothing nothing ≡ nothing
if_none true = refl
if_none false = refl

cond_none : (e n : ℕ) (b : Bool) (xs : List Meeting) → own_of e n xs ≡ None → own_of e n (cond b [] xs) ≡ None
cond_none e n true xs p = refl
cond_none e n false xs p = p

-- ---- values of one node

same_number : (e : ℕ) → (e == e) ≡ true
same_number e = grind (arith, nat_tests)

other_number : (d e : ℕ) → e < d → (d == e) ≡ false
other_number d e lt = grind (arith, nat_tests)

own_here : (a : Bool) (b c : Bool) (v : Val) → a ≡ true → c ≡ true → value_if (a && b && c) v ≡ cond b (Some v) None
own_here true true true v p q = refl
own_here true false true v p q = refl
own_here true b false v p q = absurd (cc)
own_here false b c v p q = absurd (cc)

own_there : (a b c : Bool) (v : Val) → c ≡ false → value_if (a && b && c) v ≡ None
own_there true true c v p = ap (λ (x : Bool). value_if x v) p
own_there true false c v p = refl
own_there false b c v p = refl

own_other : (a b c : Bool) (v : Val) → a ≡ false → value_if (a && b && c) v ≡ None
own_other true b c v p = absurd (cc)
own_other false b c v p = refl

valued_here : (e n : ℕ) (m : NodeId) (l : Label) (spot : Spot) (v : Option Val) → is_leaf l.defined.kind ≡ true → spot.entry ≡ e
    → value_in e n (values_of_node m l spot (some_value v)) ≡ cond (m.0 == n) v None
valued_here e n m l spot None leaf same = sym (if_none (m.0 == n))
valued_here e n m l spot (Some v) leaf same = own_here (is_leaf l.defined.kind) (m.0 == n) (spot.entry == e) v leaf (ap (λ x. x == e) same ∙ same_number e)

valued_there : (e n : ℕ) (m : NodeId) (l : Label) (spot : Spot) (vs : List Val) → (spot.entry == e) ≡ false → value_in e n (values_of_node m l spot vs) ≡ None
valued_there e n m l spot [] other = refl
valued_there e n m l spot (v ∷ vs) other =
    ap (λ (o : Option Val). or_else o (value_if (is_leaf l.defined.kind && (m.0 == n) && (spot.entry == e)) v)) (valued_there e n m l spot vs other)
    ∙ own_there (is_leaf l.defined.kind) (m.0 == n) (spot.entry == e) v other

own_apart : (a b c : Bool) (v : Val) → b ≡ false → value_if (a && b && c) v ≡ None
own_apart true true c v p = absurd (cc)
own_apart true false c v p = refl
own_apart false b c v p = refl

pub valued_apart : (e n : ℕ) (m : NodeId) (l : Label) (spot : Spot) (vs : List Val) → (m.0 == n) ≡ false → value_in e n (values_of_node m l spot vs) ≡ None
valued_apart e n m l spot [] other = refl
valued_apart e n m l spot (v ∷ vs) other =
    ap (λ (o : Option Val). or_else o (value_if (is_leaf l.defined.kind && (m.0 == n) && (spot.entry == e)) v)) (valued_apart e n m l spot vs other)
    ∙ own_apart (is_leaf l.defined.kind) (m.0 == n) (spot.entry == e) v other

valued_other : (e n : ℕ) (m : NodeId) (l : Label) (spot : Spot) (vs : List Val) → is_leaf l.defined.kind ≡ false → value_in e n (values_of_node m l spot vs) ≡ None
valued_other e n m l spot [] other = refl
valued_other e n m l spot (v ∷ vs) other =
    ap (λ (o : Option Val). or_else o (value_if (is_leaf l.defined.kind && (m.0 == n) && (spot.entry == e)) v)) (valued_other e n m l spot vs other)
    ∙ own_other (is_leaf l.defined.kind) (m.0 == n) (spot.entry == e) v other

-- ---- what is met in another entry than this one, which has a lower number

record IsElsewhere (e n : ℕ) (below : Below) : Type 0 where
  pub inside : (spot : Spot) (next : ℕ) (scope : RuleScope) (ms : Members) → (spot.entry == e) ≡ false → e < next → own_of e n (below.inside spot next scope ms) ≡ None

object_else : (e n : ℕ) (m : NodeId) (i : Option ℕ) (kids : Forest) (spot : Spot) (next : ℕ) (d : Data) (below : Below) → IsElsewhere e n below
    → (spot.entry == e) ≡ false → e < next → own_of e n (object_met m i kids spot next d below) ≡ None
object_else e n m i kids spot next (object ms) below h other lt = h.inside spot (next + 1) Always ms other (omega (arith, lt))
object_else e n m i kids spot next null below h other lt = refl
object_else e n m i kids spot next (boolean x) below h other lt = refl
object_else e n m i kids spot next (number x) below h other lt = refl
object_else e n m i kids spot next (string x) below h other lt = refl
object_else e n m i kids spot next (array x) below h other lt = refl

entry_else : (e n : ℕ) (m : NodeId) (l : Label) (kids : Forest) (spot : Spot) (next : ℕ) (before : List Data) (d : Data) (below : Below) → IsElsewhere e n below
    → e < next → own_of e n (entry_met m l kids spot next before d below) ≡ None
entry_else e n m l kids spot next before d below h lt =
    join_values e n (object_met m (Some (length before + 1)) kids (in_entry spot next l (length before + 1)) next d below) _ None None
    (object_else e n m (Some (length before + 1)) kids (in_entry spot next l (length before + 1)) next d below h (other_number next e lt) lt) refl

entries_else : (e n : ℕ) (m : NodeId) (l : Label) (kids : Forest) (spot : Spot) (next : ℕ) (before : List Data) (ds : Items) (below : Below) → IsElsewhere e n below
    → e < next → own_of e n (entries_met m l kids spot next before ds below) ≡ None
entries_else e n m l kids spot next before no_items below h lt = refl
entries_else e n m l kids spot next before (item d ds) below h lt =
    join_values e n (entry_met m l kids spot next before d below) _ None None (entry_else e n m l kids spot next before d below h lt)
    (entries_else e n m l kids spot (next + count_entered (entry_met m l kids spot next before d below)) (before ++ d ∷ []) ds below h (omega (arith, lt)))

items_else : (e n : ℕ) (m : NodeId) (l : Label) (spot : Spot) (before : List Data) (ds : Items) → (spot.entry == e) ≡ false → own_of e n (items_met m l spot before ds) ≡ None
items_else e n m l spot before no_items other = refl
items_else e n m l spot before (item d ds) other =
    join_values e n (at_value (record { node = m; label = l; spot = spot; before = Some before; found = d }) ∷ []) (items_met m l spot (before ++ d ∷ []) ds) None None
    (value_append e n (values_of_node m l spot (some_value (value_of l d))) [] ∙ valued_there e n m l spot (some_value (value_of l d)) other)
    (items_else e n m l spot (before ++ d ∷ []) ds other)

kind_else : (e n : ℕ) (K : NodeKind) (m : NodeId) (l : Label) (kids : Forest) (spot : Spot) (scope : RuleScope) (next : ℕ) (found : Option Data) (below : Below) → IsElsewhere e n below
    → own_of e n below.cases ≡ None → own_of e n below.nodes ≡ None
    → (spot.entry == e) ≡ false → e < next → own_of e n (kind_met K m l kids spot scope next found below) ≡ None
kind_else e n kind.Container m l kids spot scope next None below h p q other lt =
    cond_none e n l.defined.has_presence _ (h.inside (in_no_object spot l) next scope no_members other lt)
kind_else e n kind.Container m l kids spot scope next (Some d) below h p q other lt = object_else e n m None kids (in_container spot next l) next d below h other lt
kind_else e n kind.Leaf m l kids spot scope next None below h p q other lt = refl
kind_else e n kind.Leaf m l kids spot scope next (Some d) below h p q other lt =
    value_append e n (values_of_node m l spot (some_value (value_of l d))) [] ∙ valued_there e n m l spot (some_value (value_of l d)) other
kind_else e n kind.LeafList m l kids spot scope next (Some (array ds)) below h p q other lt = items_else e n m l spot [] ds other
kind_else e n kind.LeafList m l kids spot scope next None below h p q other lt = refl
kind_else e n kind.LeafList m l kids spot scope next (Some _) below h p q other lt = refl
kind_else e n kind.List m l kids spot scope next (Some (array ds)) below h p q other lt = entries_else e n m l kids spot next [] ds below h lt
kind_else e n kind.List m l kids spot scope next None below h p q other lt = refl
kind_else e n kind.List m l kids spot scope next (Some _) below h p q other lt = refl
kind_else e n kind.Choice m l kids spot scope next found below h p q other lt = p
kind_else e n kind.Case m l kids spot scope next found below h p q other lt = q
kind_else e n _ m l kids spot scope next found below h p q other lt = refl

-- a node of any kind, which may be left: where it stands, and what is below it
node_else : (e n : ℕ) (m : NodeId) (l : Label) (kids : Forest) (spot : Spot) (scope : RuleScope) (next : ℕ) (ms : Members) (below : Below)
    → own_of e n (kind_met l.defined.kind m l kids spot scope next (get_member l.member ms) below) ≡ None → (spot.entry == e) ≡ false
    → own_of e n (node_met m l kids spot scope next ms below) ≡ None
node_else e n m l kids spot scope next ms below none other =
    let own : Node = record { node = m; label = l; spot = spot; scope = scope; members = ms; kids = kids } in
    let here : List Meeting = kind_met l.defined.kind m l kids spot scope next (get_member l.member ms) below in
    let left : Bool = is_left l.defined.kind scope (get_member l.member ms) in
    cond_none e n (is_operation_or_notification l.defined.kind) (cond left [] here ++ at_node own ∷ [])
    (join_values e n (cond left [] here) (at_node own ∷ []) None None (cond_none e n left here none)
    (value_append e n (values_at (at_node own)) [] ∙ valued_there e n m l spot (in_use l.defined.kind l scope (get_member l.member ms)) other))

elsewhere : (e n : ℕ) (k : Kind) (s : Rows) (scope_of : ℕ → Tree → RuleScope) (spot : Spot) (next first : ℕ) (ts : Forest) (ms : Members) → (spot.entry == e) ≡ false → e < next
    → own_of e n (meetings k s scope_of spot next first ts ms) ≡ None
elsewhere e n k s scope_of spot next first no_trees ms other lt = refl
elsewhere e n k s scope_of spot next first (tree (node l kids) ts) ms other lt =
    let m : NodeId = record { 0 = first } in
    let scope : RuleScope = scope_in k l.is_config (scope_of first (node l kids)) in
    let below : Below = record {
      inside = λ at from inner ds. meetings k s (λ j t. inner) at from (first + 1) kids ds;
      cases = meetings k s (case_scope s m (first + 1) kids ms) spot next (first + 1) kids ms;
      nodes = meetings k s (λ j t. scope) spot next (first + 1) kids ms;
    } in
    let inner : IsElsewhere e n below = record { inside = λ at from i ds apart less. elsewhere e n k s (λ j t. i) at from (first + 1) kids ds apart less } in
    let here : List Meeting = node_met m l kids spot scope next ms below in
    join_values e n here _ None None
    (node_else e n m l kids spot scope next ms below
    (kind_else e n l.defined.kind m l kids spot scope next (get_member l.member ms) below inner
    (elsewhere e n k s (case_scope s m (first + 1) kids ms) spot next (first + 1) kids ms other lt)
    (elsewhere e n k s (λ j t. scope) spot next (first + 1) kids ms other lt) other lt) other)
    (elsewhere e n k s scope_of spot (next + count_entered here) (first + 1 + count kids) ts ms other (omega (arith, lt)))

-- ---- what is met in the entry itself

items_here : (e n : ℕ) (m : NodeId) (l : Label) (spot : Spot) (before : List Data) (ds : Items) → is_leaf l.defined.kind ≡ false → own_of e n (items_met m l spot before ds) ≡ None
items_here e n m l spot before no_items other = refl
items_here e n m l spot before (item d ds) other =
    join_values e n (at_value (record { node = m; label = l; spot = spot; before = Some before; found = d }) ∷ []) (items_met m l spot (before ++ d ∷ []) ds) None None
    (value_append e n (values_of_node m l spot (some_value (value_of l d))) [] ∙ valued_other e n m l spot (some_value (value_of l d)) other)
    (items_here e n m l spot (before ++ d ∷ []) ds other)

-- a node's own value
pub own_node : (e n : ℕ) (m : Node) → own_of e n (at_node m ∷ []) ≡ value_in e n (values_of_node m.node m.label m.spot (in_use m.label.defined.kind m.label m.scope (found_of m)))
own_node e n m = value_append e n (values_at (at_node m)) []

-- no default of it is in use
pub own_behind : (e n : ℕ) (xs : List Meeting) (m : Node) → in_use m.label.defined.kind m.label m.scope (found_of m) ≡ [] → own_of e n (xs ++ at_node m ∷ []) ≡ own_of e n xs
own_behind e n xs m none =
    join_values e n xs (at_node m ∷ []) (own_of e n xs) None refl (own_node e n m ∙ ap (λ (vs : List Val). value_in e n (values_of_node m.node m.label m.spot vs)) none)

-- the last of several values of a node
last_noted : (b : Bool) (o : Option Val) (v : Val) → or_else (cond b o None) (cond b (Some v) None) ≡ cond b (or_else o (Some v)) None
last_noted true o v = refl
last_noted false o v = refl

all_here : (e n : ℕ) (m : NodeId) (l : Label) (spot : Spot) (vs : List Val) → is_leaf l.defined.kind ≡ true → spot.entry ≡ e
    → value_in e n (values_of_node m l spot vs) ≡ cond (m.0 == n) (last_of vs) None
all_here e n m l spot [] leaf same = sym (if_none (m.0 == n))
all_here e n m l spot (v ∷ vs) leaf same =
    ap (λ (o : Option Val). or_else o (value_if (is_leaf l.defined.kind && (m.0 == n) && (spot.entry == e)) v)) (all_here e n m l spot vs leaf same)
    ∙ ap (λ (o : Option Val). or_else (cond (m.0 == n) (last_of vs) None) o)
    (own_here (is_leaf l.defined.kind) (m.0 == n) (spot.entry == e) v leaf (ap (λ x. x == e) same ∙ same_number e))
    ∙ last_noted (m.0 == n) (last_of vs) v

by_use : (e n : ℕ) (m : NodeId) (l : Label) (spot : Spot) (u : Bool) (vs : List Val) → is_leaf l.defined.kind ≡ true → spot.entry ≡ e
    → value_in e n (values_of_node m l spot (cond (u && true) vs [])) ≡ cond (m.0 == n) (cond u (last_of vs) None) None
by_use e n m l spot true vs leaf same = all_here e n m l spot vs leaf same
by_use e n m l spot false vs leaf same = sym (if_none (m.0 == n))

-- a leaf that isn't written
pub own_default : (m : Node) (n : ℕ) → m.label.defined.kind ≡ kind.Leaf → found_of m ≡ None
    → own_value m.spot ([] ++ at_node m ∷ []) n ≡ cond (m.node.0 == n) (cond (uses_defaults m.scope) (default_value m.label) None) None
own_default m n leaf none =
    own_node m.spot.entry n m
    ∙ ap (λ (o : Option Data). value_in m.spot.entry n (values_of_node m.node m.label m.spot (in_use m.label.defined.kind m.label m.scope o))) none
    ∙ ap (λ (K : NodeKind). value_in m.spot.entry n (values_of_node m.node m.label m.spot (in_use K m.label m.scope None))) leaf
    ∙ by_use m.spot.entry n m.node m.label m.spot (uses_defaults m.scope) (defaults_of m.label) (ap is_leaf leaf) refl

-- and one that is
pub own_written : (m : Node) (d : Data) (n : ℕ) → m.label.defined.kind ≡ kind.Leaf → found_of m ≡ Some d
    → own_value m.spot (leaf_met m.node m.label m.spot (Some d) ++ at_node m ∷ []) n ≡ cond (m.node.0 == n) (value_of m.label d) None
own_written m d n leaf some =
    own_behind m.spot.entry n (leaf_met m.node m.label m.spot (Some d)) m
    (ap (λ (o : Option Data). in_use m.label.defined.kind m.label m.scope o) some ∙ ap (λ (K : NodeKind). in_use K m.label m.scope (Some d)) leaf
    ∙ in_use_written m.label m.scope d)
    ∙ value_append m.spot.entry n (values_of_node m.node m.label m.spot (some_value (value_of m.label d))) []
    ∙ valued_here m.spot.entry n m.node m.label m.spot (value_of m.label d) (ap is_leaf leaf) refl

-- what is in an entry of a list below has values of that entry
at_entries : (e n : ℕ) (k : Kind) (s : Rows) (m : NodeId) → IsElsewhere e n (inside_at k s m)
at_entries e n k s m = record { inside = λ at from i ds other lt. elsewhere e n k s (λ j t. i) at from (rank m) (below_in s m) ds other lt }

-- arrays, anydata and anyxml have no values of leafs
abbrev pub IsArray : NodeKind → Type 0
IsArray kind.LeafList = Unit {0}
IsArray kind.List = Unit {0}
IsArray kind.Anydata = Unit {0}
IsArray kind.Anyxml = Unit {0}
IsArray _ = ⊥

quiet_kind : (e n : ℕ) (k : Kind) (s : Rows) (K : NodeKind) (m : NodeId) (l : Label) (kids : Forest) (spot : Spot) (scope : RuleScope) (next : ℕ) (found : Option Data) → l.defined.kind ≡ K → IsArray K → e < next
    → own_of e n (kind_met K m l kids spot scope next found (inside_at k s m)) ≡ None
quiet_kind e n k s kind.LeafList m l kids spot scope next (Some (array ds)) is h lt = items_here e n m l spot [] ds (ap is_leaf is)
quiet_kind e n k s kind.LeafList m l kids spot scope next None is h lt = refl
quiet_kind e n k s kind.LeafList m l kids spot scope next (Some _) is h lt = refl
quiet_kind e n k s kind.List m l kids spot scope next (Some (array ds)) is h lt = entries_else e n m l kids spot next [] ds (inside_at k s m) (at_entries e n k s m) lt
quiet_kind e n k s kind.List m l kids spot scope next None is h lt = refl
quiet_kind e n k s kind.List m l kids spot scope next (Some _) is h lt = refl
quiet_kind e n k s kind.Anydata m l kids spot scope next found is h lt = refl
quiet_kind e n k s kind.Anyxml m l kids spot scope next found is h lt = refl
quiet_kind e n k s kind.Container m l kids spot scope next found is h lt = absurd h
quiet_kind e n k s kind.Leaf m l kids spot scope next found is h lt = absurd h
quiet_kind e n k s kind.Choice m l kids spot scope next found is h lt = absurd h
quiet_kind e n k s kind.Case m l kids spot scope next found is h lt = absurd h
quiet_kind e n k s kind.Rpc m l kids spot scope next found is h lt = absurd h
quiet_kind e n k s kind.Action m l kids spot scope next found is h lt = absurd h
quiet_kind e n k s kind.Notification m l kids spot scope next found is h lt = absurd h
quiet_kind e n k s kind.Input m l kids spot scope next found is h lt = absurd h
quiet_kind e n k s kind.Output m l kids spot scope next found is h lt = absurd h

no_leaf : (K : NodeKind) → IsArray K → is_leaf K ≡ false
no_leaf kind.LeafList h = refl
no_leaf kind.List h = refl
no_leaf kind.Anydata h = refl
no_leaf kind.Anyxml h = refl
no_leaf kind.Container h = absurd h
no_leaf kind.Leaf h = absurd h
no_leaf kind.Choice h = absurd h
no_leaf kind.Case h = absurd h
no_leaf kind.Rpc h = absurd h
no_leaf kind.Action h = absurd h
no_leaf kind.Notification h = absurd h
no_leaf kind.Input h = absurd h
no_leaf kind.Output h = absurd h

-- what isn't a leaf has no value that counts in an entry
other_behind : (e n : ℕ) (xs : List Meeting) (m : Node) → is_leaf m.label.defined.kind ≡ false → own_of e n (xs ++ at_node m ∷ []) ≡ own_of e n xs
other_behind e n xs m other =
    join_values e n xs (at_node m ∷ []) (own_of e n xs) None refl
    (own_node e n m ∙ valued_other e n m.node m.label m.spot (in_use m.label.defined.kind m.label m.scope (found_of m)) other)

-- nothing is noted of them
pub gains_array : (k : Kind) (s : Rows) (x : Notes) (m : NodeId) (scope : RuleScope) (ms : Members) (K : NodeKind) (found : Option Data) → (row_at s m).label.defined.kind ≡ K → IsArray K
    → GainsBy s x x (with_node (data_met k s scope m found) (node_at s scope m ms))
gains_array k s x m scope ms K found is h = λ spot next lt. gains_nothing s x _ (λ n.
    let l : Label = (row_at s m).label in
    let node : Node = node_at s scope m ms spot in
    other_behind spot.entry n (data_met k s scope m found spot next) node (ap is_leaf is ∙ no_leaf K h)
    ∙ cond_none spot.entry n (is_left l.defined.kind scope found) _
    (ap (λ (x : NodeKind). own_of spot.entry n (kind_met x m l (below_in s m) spot scope next found (inside_at k s m))) is
    ∙ quiet_kind spot.entry n k s K m l (below_in s m) spot scope next found is h lt))

-- no default of a node is in use
pub gains_behind : (s : Rows) (old new : Notes) (met_at : Spot → ℕ → List Meeting) (node_of : Spot → Node)
    → ((spot : Spot) → in_use (node_of spot).label.defined.kind (node_of spot).label (node_of spot).scope (found_of (node_of spot)) ≡ [])
    → GainsBy s old new met_at → GainsBy s old new (with_node met_at node_of)
gains_behind s old new met_at node_of none h = λ spot next lt.
    gains_as s old new (own_value spot (met_at spot next)) _ (h spot next lt) (λ n. sym (own_behind spot.entry n (met_at spot next) (node_of spot) (none spot)))

-- the same is met
pub gains_met : (s : Rows) (old new : Notes) (f g : Spot → ℕ → List Meeting) → ((spot : Spot) (next : ℕ) → f spot next ≡ g spot next) → GainsBy s old new f → GainsBy s old new g
gains_met s old new f g same h = λ spot next lt.
    gains_as s old new (own_value spot (f spot next)) _ (h spot next lt) (λ n. ap (λ (ms : List Meeting). own_value spot ms n) (same spot next))

-- nothing is met
pub gains_none : (s : Rows) (x : Notes) (f : Spot → ℕ → List Meeting) → ((spot : Spot) (next : ℕ) → f spot next ≡ []) → GainsBy s x x f
gains_none s x f none = λ spot next lt. gains_nothing s x _ (λ n. ap (λ (ms : List Meeting). own_value spot ms n) (none spot next))

-- ---- nodes, one after the other

-- of these nodes there are values to be noted still: with them, what is noted is what was noted at
-- the start and all values
pub record NotesLeft (k : Kind) (s : Rows) (of : ℕ → Tree → RuleScope) (left : List NodeId) (ms : Members) (spot : Spot) (now start : Notes) (all : List Meeting) : Type 0 where
  pub later : ℕ
  pub within : spot.entry < later
  pub same : (n : ℕ) → is_named s n ≡ true → or_else (own_value spot (ones_met k s of left ms spot later) n) (noted_at s now n) ≡ or_else (own_value spot all n) (noted_at s start n)

pub notes_turn : (k : Kind) (s : Rows) (of : ℕ → Tree → RuleScope) (n : NodeId) (left rest : List NodeId) (ms : Members) (spot : Spot) (now new start : Notes) (all : List Meeting) → left ≡ n ∷ rest
    → NotesLeft k s of left ms spot now start all
    → GainsBy s now new (one_met k s (scope_at k s (of n.0 (tree_of s n)) n) n ms) → NotesLeft k s of rest ms spot new start all
notes_turn k s of n left rest ms spot now new start all split h gains =
    let one : List Meeting = one_met k s (scope_at k s (of n.0 (tree_of s n)) n) n ms spot h.later in
    let others : List Meeting = ones_met k s of rest ms spot (h.later + count_entered one) in
    record {
      later = h.later + count_entered one;
      within = omega (arith, h.within);
      same = λ m named. gains_on (noted_at s now m) (noted_at s new m) (own_value spot one m) (own_value spot (ones_met k s of left ms spot h.later) m) (own_value spot others m) _
          ((gains spot h.later h.within).each m named)
          (ap (λ (ns : List NodeId). own_value spot (ones_met k s of ns ms spot h.later) m) split ∙ met_append spot.entry m one others)
          (h.same m named);
    }

pub notes_done : (k : Kind) (s : Rows) (of : ℕ → Tree → RuleScope) (left : List NodeId) (ms : Members) (spot : Spot) (now start : Notes) (all : List Meeting) → left ≡ []
    → NotesLeft k s of left ms spot now start all → Gains s start now (own_value spot all)
notes_done k s of left ms spot now start all none h = record {
  each = λ n named. ap (λ (ns : List NodeId). or_else (own_value spot (ones_met k s of ns ms spot h.later) n) (noted_at s now n)) (sym none) ∙ h.same n named;
}

pub notes_start : (k : Kind) (s : Rows) (of : ℕ → Tree → RuleScope) (left : List NodeId) (ms : Members) (spot : Spot) (next : ℕ) (now : Notes) (all : List Meeting) → spot.entry < next
    → ones_met k s of left ms spot next ≡ all → NotesLeft k s of left ms spot now now all
notes_start k s of left ms spot next now all lt same = record {
  later = next;
  within = lt;
  same = λ n named. ap (λ (xs : List Meeting). or_else (own_value spot xs n) (noted_at s now n)) same;
}
