-- What holds of all that a walk meets: the kinds of nodes are gone through once, here.
use Rattle.std.proofs.Common.{◌≡◌, ℕ, ◌+◌, List, [], ◌∷◌, ◌++◌, length, Bool, true, false, Option, Some, None, cond, refl}
use Rattle.std.specs.List.{AllByRecursion}
use Rattle.serde_json.specs.Data.{Data, null, boolean, number, string, array, object, Items, no_items, item, Members, no_members}
use Rattle.serde_json.specs.Find.{get_member}
use Rattle.yv_node_content.specs.Kinds.{is_operation_or_notification}
use Rattle.yv_node_content.specs.declared.kind.NodeKind.{NodeKind}
use Rattle.yv_node_content.specs.declared.kind.NodeKind.TheVariants as kind
use Rattle.yv_text_statement.specs.declared.document_kind.Kind.{Kind}
use Rattle.yv_nodes.specs.Rows.{Rows, row_at}
use Rattle.yv_nodes.specs.Tree.{count, Label, node, Tree, Forest, no_trees, tree}
use Rattle.yv_nodes.specs.declared.node.NodeId.{NodeId}
use Rattle.yv_data_leafrefs.specs.declared.scope.RuleScope.{RuleScope}
use Rattle.yv_data_leafrefs.specs.declared.scope.RuleScope.TheVariants.{Always}
use Rattle.yv_data_leafrefs.specs.InUse.{case_scope, scope_in}
use Rattle.yv_data_leafrefs.proofs.RowLabels.{AreRows}
use Rattle.yv_data_leafrefs.specs.Meetings.{at, Below, Meeting, stand, at_value, at_end, at_node, Node, Spot, count_entered, entries_met, entry_met, in_entry, in_no_object, is_entered, is_left, items_met, kind_met, meetings, node_met, object_met}

-- nothing is written
abbrev pub IsUnwritten : Meeting → Type 0
IsUnwritten (at_value m) = ⊥
IsUnwritten _ = Unit {0}

abbrev pub AreUnwritten : List Meeting → Type 0
AreUnwritten ms = AllByRecursion IsUnwritten ms

-- it is met at this spot, and enters no object; a node and a value are of the row of their number
abbrev pub IsPlain : Rows → Spot → Meeting → Type 0
IsPlain s spot (stand m) = is_entered m.found ≡ 0
IsPlain s spot (at_value m) = (m.spot ≡ spot) × ((row_at s m.node).label ≡ m.label)
IsPlain s spot (at_end m) = Unit {0}
IsPlain s spot (at_node m) = (m.spot ≡ spot) × ((row_at s m.node).label ≡ m.label)

-- an object that is entered, of the node n, with the number next
abbrev pub entered_stand : NodeId → Option ℕ → Forest → Spot → ℕ → Members → List Meeting → Meeting
entered_stand n i kids spot next ms inside = stand (record { node = n; item = i; spot = spot; last = next + count_entered inside; trees = kids; found = object ms })

abbrev pub Property : Type 1
Property = Spot → ℕ → List Meeting → Type 0

-- it holds of what is met at a spot, where the next object has this number, if it holds of the
-- parts
pub record Closed (s : Rows) (P : Spot → ℕ → List Meeting → Type 0) : Type 0 where
  pub none : (spot : Spot) (next : ℕ) → P spot next []
  pub both : (spot : Spot) (next : ℕ) (xs ys : List Meeting) → P spot next xs → P spot (next + count_entered xs) ys → P spot next (xs ++ ys)
  pub plain : (spot : Spot) (next : ℕ) (m : Meeting) → IsPlain s spot m → P spot next (m ∷ [])
  pub object : (spot : Spot) (next entry : ℕ) (n : NodeId) (l : Label) (i : Option ℕ) (kids : Forest) (ms : Members) (xs : List Meeting) → (row_at s n).label ≡ l
      → P (record { path = at spot l i; around = next ∷ spot.around; entry = entry }) (next + 1) xs
      → P spot next (entered_stand n i kids (record { path = at spot l i; around = next ∷ spot.around; entry = entry }) next ms xs ∷ xs)
  pub absent : (spot : Spot) (next : ℕ) (l : Label) (xs : List Meeting) → AreUnwritten xs → P (in_no_object spot l) next xs → P spot next xs

-- ---- nothing is written in an object without members

unwritten_append : (xs ys : List Meeting) → AreUnwritten xs → AreUnwritten ys → AreUnwritten (xs ++ ys)
unwritten_append [] ys p q = q
unwritten_append (x ∷ xs) ys p q = (p.0, unwritten_append xs ys p.1 q)

unwritten_if : (c : Bool) (xs : List Meeting) → AreUnwritten xs → AreUnwritten (cond c [] xs)
unwritten_if true xs p = tt
unwritten_if false xs p = p

kind_unwritten : (K : NodeKind) (m : NodeId) (l : Label) (kids : Forest) (spot : Spot) (scope : RuleScope) (next : ℕ) (below : Below)
    → ((at : Spot) (from : ℕ) (inner : RuleScope) → AreUnwritten (below.inside at from inner no_members)) → AreUnwritten below.cases → AreUnwritten below.nodes
    → AreUnwritten (kind_met K m l kids spot scope next None below)
kind_unwritten kind.Container m l kids spot scope next below h p q = unwritten_if l.defined.has_presence _ (h (in_no_object spot l) next scope)
kind_unwritten kind.Choice m l kids spot scope next below h p q = p
kind_unwritten kind.Case m l kids spot scope next below h p q = q
kind_unwritten _ m l kids spot scope next below h p q = tt

unwritten : (k : Kind) (s : Rows) (scope_of : ℕ → Tree → RuleScope) (spot : Spot) (next first : ℕ) (ts : Forest) → AreUnwritten (meetings k s scope_of spot next first ts no_members)
unwritten k s scope_of spot next first no_trees = tt
unwritten k s scope_of spot next first (tree (node l kids) ts) =
    let m : NodeId = record { 0 = first } in
    let scope : RuleScope = scope_in k l.is_config (scope_of first (node l kids)) in
    let own : Node = record { node = m; label = l; spot = spot; scope = scope; members = no_members; kids = kids } in
    let below : Below = record {
      inside = λ at from inner ds. meetings k s (λ n t. inner) at from (first + 1) kids ds;
      cases = meetings k s (case_scope s m (first + 1) kids no_members) spot next (first + 1) kids no_members;
      nodes = meetings k s (λ n t. scope) spot next (first + 1) kids no_members;
    } in
    let left : Bool = is_left l.defined.kind scope None in
    let inward : List Meeting = kind_met l.defined.kind m l kids spot scope next None below in
    let here : List Meeting = cond left [] inward in
    unwritten_append (node_met m l kids spot scope next no_members below) _
    (unwritten_if (is_operation_or_notification l.defined.kind) (here ++ at_node own ∷ [])
    (unwritten_append here (at_node own ∷ [])
    (unwritten_if left inward (kind_unwritten l.defined.kind m l kids spot scope next below (λ at from i. unwritten k s (λ n t. i) at from (first + 1) kids)
    (unwritten k s (case_scope s m (first + 1) kids no_members) spot next (first + 1) kids) (unwritten k s (λ n t. scope) spot next (first + 1) kids))) (tt, tt)))
    (unwritten k s scope_of spot (next + count_entered (node_met m l kids spot scope next no_members below)) (first + 1 + count kids) ts)

-- ---- all nodes

record Holds (s : Rows) (P : Spot → ℕ → List Meeting → Type 0) (spot : Spot) (next : ℕ) (below : Below) : Type 0 where
  pub closed : Closed s P
  pub inside : (at : Spot) (from : ℕ) (scope : RuleScope) (ms : Members) → P at from (below.inside at from scope ms)
  pub absent : (at : Spot) (from : ℕ) (scope : RuleScope) → AreUnwritten (below.inside at from scope no_members)
  pub cases : P spot next below.cases
  pub nodes : P spot next below.nodes

object_holds : (s : Rows) (P : Spot → ℕ → List Meeting → Type 0) (n : NodeId) (l : Label) (i : Option ℕ) (kids : Forest) (spot : Spot) (next entry : ℕ) (d : Data) (below : Below) (here : ℕ) → (row_at s n).label ≡ l
    → Holds s P spot here below → P spot next (object_met n i kids (record { path = at spot l i; around = next ∷ spot.around; entry = entry }) next d below)
object_holds s P n l i kids spot next entry (object ms) below here is h =
    h.closed.object spot next entry n l i kids ms _ is (h.inside (record { path = at spot l i; around = next ∷ spot.around; entry = entry }) (next + 1) Always ms)
object_holds s P n l i kids spot next entry null below here is h = h.closed.plain spot next _ refl
object_holds s P n l i kids spot next entry (boolean x) below here is h = h.closed.plain spot next _ refl
object_holds s P n l i kids spot next entry (number x) below here is h = h.closed.plain spot next _ refl
object_holds s P n l i kids spot next entry (string x) below here is h = h.closed.plain spot next _ refl
object_holds s P n l i kids spot next entry (array x) below here is h = h.closed.plain spot next _ refl

if_holds : (s : Rows) (P : Spot → ℕ → List Meeting → Type 0) (spot : Spot) (next : ℕ) (c : Bool) (xs : List Meeting) → Closed s P → P spot next xs → P spot next (cond c [] xs)
if_holds s P spot next true xs h p = h.none spot next
if_holds s P spot next false xs h p = p

items_hold : (s : Rows) (P : Spot → ℕ → List Meeting → Type 0) (n : NodeId) (l : Label) (spot : Spot) (next : ℕ) (done : List Data) (ds : Items) → (row_at s n).label ≡ l
    → Closed s P → P spot next (items_met n l spot done ds)
items_hold s P n l spot next done no_items is h = h.none spot next
items_hold s P n l spot next done (item d ds) is h =
    h.both spot next (at_value (record { node = n; label = l; spot = spot; before = Some done; found = d }) ∷ []) (items_met n l spot (done ++ d ∷ []) ds)
    (h.plain spot next _ (refl, is)) (items_hold s P n l spot (next + 0) (done ++ d ∷ []) ds is h)

entry_holds : (s : Rows) (P : Spot → ℕ → List Meeting → Type 0) (n : NodeId) (l : Label) (kids : Forest) (spot : Spot) (next : ℕ) (done : List Data) (d : Data) (below : Below) (here : ℕ) → (row_at s n).label ≡ l
    → Holds s P spot here below → P spot next (entry_met n l kids spot next done d below)
entry_holds s P n l kids spot next done d below here is h =
    h.closed.both spot next (object_met n (Some (length done + 1)) kids (in_entry spot next l (length done + 1)) next d below) _
    (object_holds s P n l (Some (length done + 1)) kids spot next next d below here is h) (h.closed.plain spot _ _ tt)

entries_hold : (s : Rows) (P : Spot → ℕ → List Meeting → Type 0) (n : NodeId) (l : Label) (kids : Forest) (spot : Spot) (next : ℕ) (done : List Data) (ds : Items) (below : Below) (here : ℕ) → (row_at s n).label ≡ l
    → Holds s P spot here below → P spot next (entries_met n l kids spot next done ds below)
entries_hold s P n l kids spot next done no_items below here is h = h.closed.none spot next
entries_hold s P n l kids spot next done (item d ds) below here is h =
    h.closed.both spot next (entry_met n l kids spot next done d below) _ (entry_holds s P n l kids spot next done d below here is h)
    (entries_hold s P n l kids spot (next + count_entered (entry_met n l kids spot next done d below)) (done ++ d ∷ []) ds below here is h)

kind_holds : (s : Rows) (P : Spot → ℕ → List Meeting → Type 0) (K : NodeKind) (n : NodeId) (l : Label) (kids : Forest) (spot : Spot) (scope : RuleScope) (next : ℕ) (found : Option Data) (below : Below) → (row_at s n).label ≡ l
    → Holds s P spot next below → P spot next (kind_met K n l kids spot scope next found below)
kind_holds s P kind.Container n l kids spot scope next None below is h =
    if_holds s P spot next l.defined.has_presence _ h.closed (h.closed.absent spot next l _ (h.absent (in_no_object spot l) next scope) (h.inside (in_no_object spot l) next scope no_members))
kind_holds s P kind.Container n l kids spot scope next (Some d) below is h = object_holds s P n l None kids spot next spot.entry d below next is h
kind_holds s P kind.Leaf n l kids spot scope next None below is h = h.closed.none spot next
kind_holds s P kind.Leaf n l kids spot scope next (Some d) below is h = h.closed.plain spot next _ (refl, is)
kind_holds s P kind.LeafList n l kids spot scope next (Some (array ds)) below is h = items_hold s P n l spot next [] ds is h.closed
kind_holds s P kind.LeafList n l kids spot scope next None below is h = h.closed.none spot next
kind_holds s P kind.LeafList n l kids spot scope next (Some _) below is h = h.closed.none spot next
kind_holds s P kind.List n l kids spot scope next (Some (array ds)) below is h = entries_hold s P n l kids spot next [] ds below next is h
kind_holds s P kind.List n l kids spot scope next None below is h = h.closed.none spot next
kind_holds s P kind.List n l kids spot scope next (Some _) below is h = h.closed.none spot next
kind_holds s P kind.Choice n l kids spot scope next found below is h = h.cases
kind_holds s P kind.Case n l kids spot scope next found below is h = h.nodes
kind_holds s P _ n l kids spot scope next found below is h = h.closed.none spot next

-- it holds of what is met by these trees
pub walk_holds : (k : Kind) (s : Rows) (P : Spot → ℕ → List Meeting → Type 0) → Closed s P → (scope_of : ℕ → Tree → RuleScope) (spot : Spot) (next first : ℕ) (ts : Forest) (ms : Members) → AreRows s first ts
    → P spot next (meetings k s scope_of spot next first ts ms)
walk_holds k s P h scope_of spot next first no_trees ms rows = h.none spot next
walk_holds k s P h scope_of spot next first (tree (node l kids) ts) ms rows =
    let m : NodeId = record { 0 = first } in
    let scope : RuleScope = scope_in k l.is_config (scope_of first (node l kids)) in
    let own : Node = record { node = m; label = l; spot = spot; scope = scope; members = ms; kids = kids } in
    let below : Below = record {
      inside = λ at from inner ds. meetings k s (λ n t. inner) at from (first + 1) kids ds;
      cases = meetings k s (case_scope s m (first + 1) kids ms) spot next (first + 1) kids ms;
      nodes = meetings k s (λ n t. scope) spot next (first + 1) kids ms;
    } in
    let inner : Holds s P spot next below = record {
      closed = h;
      inside = λ at from i ds. walk_holds k s P h (λ n t. i) at from (first + 1) kids ds rows.1;
      absent = λ at from i. unwritten k s (λ n t. i) at from (first + 1) kids;
      cases = walk_holds k s P h (case_scope s m (first + 1) kids ms) spot next (first + 1) kids ms rows.1;
      nodes = walk_holds k s P h (λ n t. scope) spot next (first + 1) kids ms rows.1;
    } in
    let left : Bool = is_left l.defined.kind scope (get_member l.member ms) in
    let inward : List Meeting = kind_met l.defined.kind m l kids spot scope next (get_member l.member ms) below in
    let here : List Meeting = cond left [] inward in
    h.both spot next (node_met m l kids spot scope next ms below) _
    (if_holds s P spot next (is_operation_or_notification l.defined.kind) (here ++ at_node own ∷ []) h
    (h.both spot next here (at_node own ∷ [])
    (if_holds s P spot next left inward h (kind_holds s P l.defined.kind m l kids spot scope next (get_member l.member ms) below rows.0 inner)) (h.plain spot _ (at_node own) (refl, rows.0))))
    (walk_holds k s P h scope_of spot (next + count_entered (node_met m l kids spot scope next ms below)) (first + 1 + count kids) ts ms rows.2)
