-- What a walk meets is where its path leads.
use Rattle.std.proofs.Common.{◌≡◌, ◌∙◌, ◌⊎◌, inl, inr, ℕ, suc, ◌+◌, ◌^◌, ◌<◌, List, [], ◌∷◌, ◌++◌, length, Bool, true, false, cond, Option, Some, None, refl, sym, ap, length-append, arith}
use Rattle.std.specs.List.{AllByRecursion}
use Rattle.std.proofs.lemmas.Bool.{cond-false}
use Rattle.serde_json.specs.Data.{Data, null, boolean, number, string, array, object, Items, no_items, item, Members, no_members}
use Rattle.serde_json.specs.Find.{get_item, get_member}
use Rattle.yv_text_statement.specs.declared.document_kind.Kind.{Kind}
use Rattle.yv_node_content.specs.Kinds.{is_choice, is_data, is_operation_or_notification}
use Rattle.yv_node_content.specs.declared.kind.NodeKind.{NodeKind}
use Rattle.yv_node_content.specs.declared.kind.NodeKind.TheVariants as kind
use Rattle.yv_nodes.specs.Rows.{Rows, root, whole}
use Rattle.yv_nodes.specs.Tree.{count, Label, node, Tree, Forest, no_trees, tree}
use Rattle.yv_nodes.specs.declared.node.NodeId.{NodeId}
use Rattle.yv_data_leafrefs.specs.declared.scope.RuleScope.{RuleScope}
use Rattle.yv_data_leafrefs.specs.declared.scope.RuleScope.TheVariants.{Always}
use Rattle.yv_data_leafrefs.specs.InUse.{case_scope, scope_in}
use Rattle.yv_data_leafrefs.specs.Meetings.{all_met, at, at_end, at_node, at_value, Below, count_entered, entries_met, entry_met, in_container, in_entry, in_no_object, is_left, items_met, kind_met, Meeting, meetings, Node, node_met, object_met, Spot, stand, top}
use Rattle.yv_data_leafrefs.specs.Place.{Place, step_name, under}
use Rattle.yv_data_leafrefs.specs.References.{number_of}
use Rattle.yv_validate.specs.Size.{size}
use Rattle.yv_json_laws.proofs.PlaceLemmas.{value_of_item, value_of_member, value_of_none, value_of_path}

-- these members are those of the object to which a path leads; or it leads nowhere, and there are
-- none, as in a container that isn't written
abbrev pub AreOf : Data → List Place → Members → Type 0
AreOf d path ms = (value_of_path path d ≡ Some (object ms)) ⊎ ((ms ≡ no_members) × (value_of_path path d ≡ None))

-- what is met is where its path leads
abbrev pub IsThere : Data → Meeting → Type 0
IsThere d (stand m) = value_of_path m.spot.path d ≡ Some m.found
IsThere d (at_value m) = value_of_path (at m.spot m.label (number_of m.before)) d ≡ Some m.found
IsThere d (at_end m) = value_of_path (at m.spot m.label (Some (length m.before + 1))) d ≡ Some m.found
IsThere d (at_node m) = AreOf d m.spot.path m.members

abbrev pub AreThere : Data → List Meeting → Type 0
AreThere d ms = AllByRecursion (IsThere d) ms

-- ---- members

data_written : (K : NodeKind) → is_data K ≡ true → is_choice K ≡ false
data_written kind.Container h = refl
data_written kind.Leaf h = refl
data_written kind.LeafList h = refl
data_written kind.List h = refl
data_written kind.Choice h = absurd (cc)
data_written kind.Case h = refl
data_written kind.Anydata h = refl
data_written kind.Anyxml h = refl
data_written kind.Rpc h = refl
data_written kind.Action h = refl
data_written kind.Notification h = refl
data_written kind.Input h = refl
data_written kind.Output h = refl

-- a data node's step has the name of its member
data_name : (l : Label) → is_data l.defined.kind ≡ true → step_name l ≡ l.member
data_name l h = cond-false _ _ _ (data_written l.defined.kind h)

-- the path of a data node leads to what is written for it, and nowhere if nothing is
pub written_there : (d : Data) (spot : Spot) (l : Label) (ms : Members) → AreOf d spot.path ms → is_data l.defined.kind ≡ true
    → value_of_path (at spot l None) d ≡ get_member l.member ms
written_there d spot l ms (inl h) is = ap (λ (name : List ℕ). value_of_path (under spot.path name) d) (data_name l is) ∙ value_of_member spot.path l.member d ms h
written_there d spot l ms (inr h) is = value_of_none spot.path (step_name l) d h.1 ∙ sym (ap (get_member l.member) h.0)

-- ---- lists of what is met

append_there : (d : Data) (xs ys : List Meeting) → AreThere d xs → AreThere d ys → AreThere d (xs ++ ys)
append_there d [] ys p q = q
append_there d (x ∷ xs) ys p q = (p.0, append_there d xs ys p.1 q)

unless_there : (d : Data) (c : Bool) (xs : List Meeting) → AreThere d xs → AreThere d (cond c [] xs)
unless_there d true xs p = tt
unless_there d false xs p = p

-- ---- items and entries

-- these are the items of an array after those
abbrev IsRest : Items → List Data → Items → Type 0
IsRest all before ds = (j : ℕ) → get_item (length before + j) all ≡ get_item j ds

rest_more : (all : Items) (before : List Data) (e : Data) (ds : Items) → IsRest all before (item e ds) → IsRest all (before ++ e ∷ []) ds
rest_more all before e ds r = λ j.
    let same : length (before ++ e ∷ []) + j ≡ length before + suc j = omega (arith, length-append before (e ∷ [])) in
    ap (λ (i : ℕ). get_item i all) same ∙ r (suc j)

rest_all : (all : Items) → IsRest all [] all
rest_all all = λ j. let same : 0 + j ≡ j = omega arith in ap (λ (i : ℕ). get_item i all) same

-- the item after those before it
item_there : (d : Data) (spot : Spot) (l : Label) (all : Items) (before : List Data) (e : Data) (ds : Items) → size d < 2 ^ 64 → value_of_path (at spot l None) d ≡ Some (array all)
    → IsRest all before (item e ds) → value_of_path (at spot l (Some (length before + 1))) d ≡ Some e
item_there d spot l all before e ds fits h r =
    let same : length before ≡ length before + 0 = omega arith in
    value_of_item spot.path (step_name l) (length before) d e all fits h (ap (λ (i : ℕ). get_item i all) same ∙ r 0)

items_there : (d : Data) (n : NodeId) (l : Label) (spot : Spot) (all : Items) (before : List Data) (ds : Items) → size d < 2 ^ 64 → value_of_path (at spot l None) d ≡ Some (array all)
    → IsRest all before ds → AreThere d (items_met n l spot before ds)
items_there d n l spot all before no_items fits h r = tt
items_there d n l spot all before (item e ds) fits h r =
    (item_there d spot l all before e ds fits h r, items_there d n l spot all (before ++ e ∷ []) ds fits h (rest_more all before e ds r))

-- what is met below a node is there, wherever the node is
record BelowThere (d : Data) (below : Below) : Type 0 where
  pub inside : (spot : Spot) (next : ℕ) (scope : RuleScope) (ms : Members) → AreOf d spot.path ms → AreThere d (below.inside spot next scope ms)
  pub cases : AreThere d below.cases
  pub nodes : AreThere d below.nodes

object_there : (d : Data) (n : NodeId) (i : Option ℕ) (kids : Forest) (spot : Spot) (next : ℕ) (e : Data) (below : Below) → BelowThere d below → value_of_path spot.path d ≡ Some e
    → AreThere d (object_met n i kids spot next e below)
object_there d n i kids spot next (object ms) below b h = (h, b.inside spot (next + 1) Always ms (inl h))
object_there d n i kids spot next null below b h = (h, tt)
object_there d n i kids spot next (boolean x) below b h = (h, tt)
object_there d n i kids spot next (number x) below b h = (h, tt)
object_there d n i kids spot next (string x) below b h = (h, tt)
object_there d n i kids spot next (array x) below b h = (h, tt)

entry_there : (d : Data) (n : NodeId) (l : Label) (kids : Forest) (spot : Spot) (next : ℕ) (before : List Data) (e : Data) (below : Below) → BelowThere d below
    → value_of_path (at spot l (Some (length before + 1))) d ≡ Some e → AreThere d (entry_met n l kids spot next before e below)
entry_there d n l kids spot next before e below b h =
    append_there d (object_met n (Some (length before + 1)) kids (in_entry spot next l (length before + 1)) next e below) _
    (object_there d n (Some (length before + 1)) kids (in_entry spot next l (length before + 1)) next e below b h) (h, tt)

entries_there : (d : Data) (n : NodeId) (l : Label) (kids : Forest) (spot : Spot) (next : ℕ) (all : Items) (before : List Data) (ds : Items) (below : Below) → size d < 2 ^ 64 → BelowThere d below
    → value_of_path (at spot l None) d ≡ Some (array all) → IsRest all before ds → AreThere d (entries_met n l kids spot next before ds below)
entries_there d n l kids spot next all before no_items below fits b h r = tt
entries_there d n l kids spot next all before (item e ds) below fits b h r =
    append_there d (entry_met n l kids spot next before e below) _
    (entry_there d n l kids spot next before e below b (item_there d spot l all before e ds fits h r))
    (entries_there d n l kids spot (next + count_entered (entry_met n l kids spot next before e below)) all (before ++ e ∷ []) ds below fits b h (rest_more all before e ds r))

-- ---- a node

-- if it is a data node, its path leads to what is written for it
abbrev pub IsWrittenThere : Data → Bool → List Place → Option Data → Type 0
IsWrittenThere d is path found = is ≡ true → value_of_path path d ≡ found

kind_there : (d : Data) (K : NodeKind) (n : NodeId) (l : Label) (kids : Forest) (spot : Spot) (scope : RuleScope) (next : ℕ) (found : Option Data) (below : Below) → size d < 2 ^ 64
    → BelowThere d below → IsWrittenThere d (is_data K) (at spot l None) found → AreThere d (kind_met K n l kids spot scope next found below)
kind_there d kind.Container n l kids spot scope next None below fits b h =
    unless_there d l.defined.has_presence _ (b.inside (in_no_object spot l) next scope no_members (inr (refl, h refl)))
kind_there d kind.Container n l kids spot scope next (Some e) below fits b h = object_there d n None kids (in_container spot next l) next e below b (h refl)
kind_there d kind.Leaf n l kids spot scope next None below fits b h = tt
kind_there d kind.Leaf n l kids spot scope next (Some e) below fits b h = (h refl, tt)
kind_there d kind.LeafList n l kids spot scope next (Some (array ds)) below fits b h = items_there d n l spot ds [] ds fits (h refl) (rest_all ds)
kind_there d kind.LeafList n l kids spot scope next None below fits b h = tt
kind_there d kind.LeafList n l kids spot scope next (Some _) below fits b h = tt
kind_there d kind.List n l kids spot scope next (Some (array ds)) below fits b h = entries_there d n l kids spot next ds [] ds below fits b (h refl) (rest_all ds)
kind_there d kind.List n l kids spot scope next None below fits b h = tt
kind_there d kind.List n l kids spot scope next (Some _) below fits b h = tt
kind_there d kind.Choice n l kids spot scope next found below fits b h = b.cases
kind_there d kind.Case n l kids spot scope next found below fits b h = b.nodes
kind_there d _ n l kids spot scope next found below fits b h = tt

-- ---- all nodes

walk_there : (d : Data) (k : Kind) (s : Rows) (scope_of : ℕ → Tree → RuleScope) (spot : Spot) (next first : ℕ) (ts : Forest) (ms : Members) → size d < 2 ^ 64 → AreOf d spot.path ms
    → AreThere d (meetings k s scope_of spot next first ts ms)
walk_there d k s scope_of spot next first no_trees ms fits h = tt
walk_there d k s scope_of spot next first (tree (node l kids) ts) ms fits h =
    let m : NodeId = record { 0 = first } in
    let scope : RuleScope = scope_in k l.is_config (scope_of first (node l kids)) in
    let own : Node = record { node = m; label = l; spot = spot; scope = scope; members = ms; kids = kids } in
    let below : Below = record {
      inside = λ at from inner es. meetings k s (λ j t. inner) at from (first + 1) kids es;
      cases = meetings k s (case_scope s m (first + 1) kids ms) spot next (first + 1) kids ms;
      nodes = meetings k s (λ j t. scope) spot next (first + 1) kids ms;
    } in
    let inner : BelowThere d below = record {
      inside = λ at from i es g. walk_there d k s (λ j t. i) at from (first + 1) kids es fits g;
      cases = walk_there d k s (case_scope s m (first + 1) kids ms) spot next (first + 1) kids ms fits h;
      nodes = walk_there d k s (λ j t. scope) spot next (first + 1) kids ms fits h;
    } in
    let left : Bool = is_left l.defined.kind scope (get_member l.member ms) in
    let inward : List Meeting = kind_met l.defined.kind m l kids spot scope next (get_member l.member ms) below in
    append_there d (node_met m l kids spot scope next ms below) _
    (unless_there d (is_operation_or_notification l.defined.kind) (cond left [] inward ++ at_node own ∷ [])
    (append_there d (cond left [] inward) (at_node own ∷ [])
    (unless_there d left inward
    (kind_there d l.defined.kind m l kids spot scope next (get_member l.member ms) below fits inner (λ is. written_there d spot l ms h is)))
    (h, tt)))
    (walk_there d k s scope_of spot (next + count_entered (node_met m l kids spot scope next ms below)) (first + 1 + count kids) ts ms fits h)

-- all that is met in a document is there
pub all_there : (k : Kind) (s : Rows) (d : Data) → size d < 2 ^ 64 → AreThere d (all_met k s d)
all_there k s d fits =
    object_there d root None (whole s) top 0 d (record {
      inside = λ spot next scope ms. meetings k s (λ m t. scope) spot next 0 (whole s) ms;
      cases = [];
      nodes = [];
    }) (record {
      inside = λ spot next scope ms h. walk_there d k s (λ m t. scope) spot next 0 (whole s) ms fits h;
      cases = tt;
      nodes = tt;
    }) refl
