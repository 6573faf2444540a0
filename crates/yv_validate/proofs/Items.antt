-- The items of an array, one by one.
use Rattle.std.proofs.Common.{◌≡◌, ℕ, ◌+◌, ◌<◌, List, [], ◌∷◌, ◌++◌, length, get_or, take, drop, map, length-take-le, sym, ap, ◌∙◌, subst, arith, add-one, drop-cons, append-nil, Option, Bool, true, false, cond, Some, is_some, refl}
use Rattle.std.proofs.lemmas.List.{take_more, map-append, length-map}
use Rattle.std.proofs.lemmas.List.Sums.{sum_by-cons}
use Rattle.serde_json.specs.Data.{Data, item, Items}
use Rattle.serde_json.specs.View.{view, items_view}
use Rattle.serde_json.specs.declared.value.Value.{Value}
use Rattle.yv_text_statement.specs.declared.document_kind.Kind.{Kind}
use Rattle.yv_nodes.specs.declared.node.NodeId.{NodeId}
use Rattle.yv_nodes.specs.Link.{is_target, link_in}
use Rattle.yv_nodes.specs.Rows.{below, rank, row_at, Rows}
use Rattle.yv_nodes.specs.Tree.{Label}
use Rattle.yv_values.specs.Count.{count_up}
use Rattle.yv_values.specs.Values.{Val}
use Rattle.yv_data_leafrefs.specs.Findings.{Findings, Finds, first_of, kept_if, FindingsView, met_in, value_notes}
use Rattle.yv_data_leafrefs.specs.InUse.{value_of}
use Rattle.yv_data_leafrefs.specs.Meetings.{at, EntryEnd, at_end, count_entered, entry_met, Meeting, object_met, Spot, at_value, WrittenValue}
use Rattle.yv_data_leafrefs.specs.Place.{Place, step_name}
use Rattle.yv_data_leafrefs.specs.References.{number_of}
use Rattle.yv_data_faults.specs.declared.fault.FaultKind.TheVariants.{Duplicate, Value as Unread}
use Rattle.yv_validate.specs.Faults.{end_faults, faults_at, flaw, Leafs, leafs_of, repeated_item, repeat_faults, unique_faults, value_faults}
use Rattle.yv_data_faults.specs.Flaw.{Flaw}
use Rattle.yv_validate.specs.InnerNotes.{list_tuple}
use Rattle.yv_validate.specs.InnerWalk.{entries_at, Grows, inside_at, items_at, ProgressView, value_found, written_at}
use Rattle.yv_validate.specs.Repeats.{repeat_of}
use Rattle.yv_validate.specs.Values.{entry_tuple}
use Rattle.yv_validate.specs.Work.{end_work, item_work, value_work, work_at}
use Rattle.yv_validate.proofs.WalkGrowth.{Behind, grows_both, Quiet}
use Rattle.yv_validate.proofs.Steps.{told_both}

first_left : (xs : List Value) (i : ℕ) (x : Value) → i < length xs → drop i xs ≡ get_or xs i x ∷ drop (i + 1) xs
first_left xs i x lt = rw (add-one) (drop-cons xs i x lt)

pub items_left : (xs : List Value) (i : ℕ) (x : Value) → i < length xs → x ≡ get_or xs i x → items_view (drop i xs) ≡ item (view x) (items_view (drop (i + 1) xs))
items_left xs i x lt is = ap items_view (first_left xs i x lt) ∙ ap (λ y. item (view y) (items_view (drop (i + 1) xs))) (sym is)

pub one_more : (xs : List Value) (i : ℕ) (x : Value) → i < length xs → x ≡ get_or xs i x → map view (take (i + 1) xs) ≡ map view (take i xs) ++ view x ∷ []
one_more xs i x lt is = ap (map view) (take_more xs i x lt) ∙ map-append view (take i xs) (get_or xs i x ∷ []) ∙ ap (λ y. map view (take i xs) ++ view y ∷ []) (sym is)

pub many_before : (xs : List Value) (i : ℕ) → i < length xs → length (map view (take i xs)) ≡ i
many_before xs i lt = length-map (take i xs) view ∙ length-take-le i xs (omega arith)

-- ---- values

abbrev pub Reads : Type 0
Reads = (s : Rows) (m : WrittenValue) (v : Option Val) → value_of m.label m.found ≡ v → met_in s (at_value m ∷ []) ≡ record {
  kept = kept_if (is_target s.links m.node.0) m.node.0 (first_of m.spot.around) v;
  used = [];
  positions = [];
  notes = value_notes (link_in s.links m.node.0) (first_of m.spot.around) m.node.0 (number_of m.before) v;
}

-- a value is met
pub writes : Reads → (k : Kind) (s : Rows) (n : NodeId) (spot : Spot) (before : Option (List Data)) (d : Data) (a : ProgressView) (faults : List Flaw) (found : Findings) (steps : ℕ)
    → faults ≡ a.faults ++ value_faults (written_at s n before d spot)
    → Finds a.found found (value_found s n (first_of spot.around) (number_of before) (value_of (row_at s n).label d))
    → count_up steps ≡ count_up (a.steps + (value_work (row_at s n).label d + item_work (row_at s n).label before d))
    → Grows k s a (record { faults = faults; found = found; steps = steps }) (at_value (written_at s n before d spot) ∷ [])
writes reads k s n spot before d a faults found steps told kept taken =
    let m : WrittenValue = written_at s n before d spot in
    record {
      faults = told ∙ ap (λ (fs : List Flaw). a.faults ++ fs) (sym (append-nil (value_faults m)));
      found = subst (λ (x : FindingsView). Finds a.found found x) (sym (reads s m (value_of (row_at s n).label d) refl)) kept;
      steps = omega (arith, taken, sum_by-cons (work_at k s) (at_value m) []);
    }

pub read_told : (m : WrittenValue) (old new : List Flaw) (first : Option ℕ) → is_some (value_of m.label m.found) ≡ true → first ≡ repeated_item m.label m.before m.found
    → new ≡ old ++ repeat_faults first Duplicate (at m.spot m.label (number_of m.before)) 0 → new ≡ old ++ value_faults m
read_told m old new first has is told =
    let here : List Place = at m.spot m.label (number_of m.before) in
    told ∙ ap (λ (fs : List Flaw). old ++ fs) (ap (λ (o : Option ℕ). repeat_faults o Duplicate here 0) is
    ∙ sym (ap (λ (x : Bool). cond x (repeat_faults (repeated_item m.label m.before m.found) Duplicate here 0) (flaw Unread here ∷ [])) has))

pub unread_told : (m : WrittenValue) (old new : List Flaw) → is_some (value_of m.label m.found) ≡ false
    → new ≡ old ++ flaw Unread (at m.spot m.label (number_of m.before)) ∷ [] → new ≡ old ++ value_faults m
unread_told m old new none told =
    let here : List Place = at m.spot m.label (number_of m.before) in
    told ∙ ap (λ (fs : List Flaw). old ++ fs)
    (sym (ap (λ (x : Bool). cond x (repeat_faults (repeated_item m.label m.before m.found) Duplicate here 0) (flaw Unread here ∷ [])) none))

-- the first of the items that are left
pub items_split : (s : Rows) (n : NodeId) (spot : Spot) (next : ℕ) (xs : List Value) (i : ℕ) (x : Value) → i < length xs → x ≡ get_or xs i x
    → items_at s n (map view (take i xs)) (items_view (drop i xs)) spot next
    ≡ (at_value (written_at s n (Some (map view (take i xs))) (view x) spot) ∷ []) ++ items_at s n (map view (take (i + 1) xs)) (items_view (drop (i + 1) xs)) spot next
items_split s n spot next xs i x lt is =
    ap (λ (ds : Items). items_at s n (map view (take i xs)) ds spot next) (items_left xs i x lt is)
    ∙ ap (λ (ds : List Data). at_value (written_at s n (Some (map view (take i xs))) (view x) spot) ∷ items_at s n ds (items_view (drop (i + 1) xs)) spot next) (sym (one_more xs i x lt is))

-- ---- entries

-- an entry ends
pub ends : Quiet → (k : Kind) (s : Rows) (n : NodeId) (spot : Spot) (before : List Data) (d : Data) (a : ProgressView) (faults : List Flaw) (steps : ℕ) → rank n ≡ n.0 + 1
    → faults ≡ a.faults ++ end_faults (leafs_of s n (row_at s n).label) (list_tuple k s n) (at spot (row_at s n).label (Some (length before + 1))) before d
    → count_up steps ≡ count_up (a.steps + end_work (leafs_of s n (row_at s n).label) (list_tuple k s n) d)
    → Grows k s a (record { faults = faults; found = a.found; steps = steps })
    (at_end (record { node = n; label = (row_at s n).label; spot = spot; before = before; trees = below s n; found = d }) ∷ [])
ends quiet k s n spot before d a faults steps first told taken =
    let l : Label = (row_at s n).label in
    let here : List Place = at spot l (Some (length before + 1)) in
    let own : EntryEnd = record { node = n; label = l; spot = spot; before = before; trees = below s n; found = d } in
    let work : end_work (leafs_of s n l) (list_tuple k s n) d ≡ work_at k s (at_end own) =
    ap (λ (r : ℕ). end_work (leafs_of s n l) (λ ls e. entry_tuple k s r (below s n) ls e) d) first in
    record {
      faults = told ∙ ap (λ (r : ℕ). a.faults ++ end_faults (leafs_of s n l) (λ ls e. entry_tuple k s r (below s n) ls e) here before d) first
          ∙ ap (λ (fs : List Flaw). a.faults ++ fs) (sym (append-nil (faults_at k s (at_end own))));
      found = quiet s a.found;
      steps = omega (arith, taken, work, sum_by-cons (work_at k s) (at_end own) []);
    }

-- an entry with its end; the number by which it goes is one more than there are before it
pub entry_grows : Behind → (k : Kind) (s : Rows) (n : NodeId) (way : List Place) (position : ℕ) (outer : List ℕ) (entry next place : ℕ) (before : List Data) (d : Data) (a b c : ProgressView) → place ≡ length before + 1
    → Grows k s a b (object_met n (Some place) (below s n) (record { path = way ++ record { member = step_name (row_at s n).label; item = Some place } ∷ []; around = next ∷ position ∷ outer; entry = next }) next d (inside_at k s n))
    → Grows k s b c (at_end (record { node = n; label = (row_at s n).label; spot = record { path = way; around = position ∷ outer; entry = entry }; before = before; trees = below s n; found = d }) ∷ [])
    → Grows k s a c (entry_met n (row_at s n).label (below s n) (record { path = way; around = position ∷ outer; entry = entry }) next before d (inside_at k s n))
entry_grows behind k s n way position outer entry next place before d a b c many inside end =
    let l : Label = (row_at s n).label in
    let object : ℕ → List Meeting = λ m. object_met n (Some m) (below s n) (record { path = way ++ record { member = step_name l; item = Some m } ∷ []; around = next ∷ position ∷ outer; entry = next }) next d (inside_at k s n) in
    grows_both behind k s a b c (object (length before + 1)) _ (subst (λ (m : ℕ). Grows k s a b (object m)) many inside) end

-- the first of the entries that are left
pub entries_split : (k : Kind) (s : Rows) (n : NodeId) (spot : Spot) (next : ℕ) (xs : List Value) (i : ℕ) (x : Value) → i < length xs → x ≡ get_or xs i x
    → entries_at k s n (map view (take i xs)) (items_view (drop i xs)) spot next
    ≡ entry_met n (row_at s n).label (below s n) spot next (map view (take i xs)) (view x) (inside_at k s n)
    ++ entries_at k s n (map view (take (i + 1) xs)) (items_view (drop (i + 1) xs)) spot
    (next + count_entered (entry_met n (row_at s n).label (below s n) spot next (map view (take i xs)) (view x) (inside_at k s n)))
entries_split k s n spot next xs i x lt is =
    let here : List Meeting = entry_met n (row_at s n).label (below s n) spot next (map view (take i xs)) (view x) (inside_at k s n) in
    ap (λ (ds : Items). entries_at k s n (map view (take i xs)) ds spot next) (items_left xs i x lt is)
    ∙ ap (λ (ds : List Data). here ++ entries_at k s n ds (items_view (drop (i + 1) xs)) spot (next + count_entered here)) (sym (one_more xs i x lt is))

-- what is told at the end of an entry: its keys, and the `unique` statements
pub end_told : (leafs : Leafs) (tuple : List (Option NodeId) → Data → Option (List Val)) (here : List Place) (before : List Data) (d : Data) (old mid new : List Flaw) (first : Option ℕ) → first ≡ repeat_of (tuple leafs.keys) before d
    → mid ≡ old ++ repeat_faults first Duplicate here 0 → new ≡ mid ++ unique_faults tuple here 1 leafs.uniques before d → new ≡ old ++ end_faults leafs tuple here before d
end_told leafs tuple here before d old mid new first is told uniques =
    told_both old (repeat_faults (repeat_of (tuple leafs.keys) before d) Duplicate here 0) (unique_faults tuple here 1 leafs.uniques before d)
    (told ∙ ap (λ (o : Option ℕ). old ++ repeat_faults o Duplicate here 0) is) uniques
