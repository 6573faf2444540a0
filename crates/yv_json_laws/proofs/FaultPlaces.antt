-- The path of a fault leads to what the fault is about.
use Rattle.std.proofs.Common.{◌≡◌, ◌∙◌, ℕ, zero, suc, ◌+◌, List, [], ◌∷◌, ◌++◌, length, map, Bool, true, false, cond, Ordering, Less, Equal, Greater, ◌&&◌, ◌⊎◌, inl, inr, Option, Some, None, refl, sym, ap, subst, append-nil, arith}
use Rattle.std.specs.Prelude.{IfSome, min, nat_lt, is_some, option_map, unwrap_or}
use Rattle.std.specs.List.{AllByRecursion}
use Rattle.std.specs.Ordering.{nat_cmp, match_ordering}
use Rattle.std.specs.Cmp.Lexicographic.{slice_cmp}
use Rattle.std.proofs.lemmas.Bool.{cond-false, cond-true}
use Rattle.std.proofs.lemmas.Bool.Decides.{nat_tests}
use Rattle.std.proofs.lemmas.Option.{none-some, same_Some}
use Rattle.std.proofs.lemmas.Cmp.{nat_list_cmp_total, tied_itself}
use Rattle.serde_json.specs.Data.{Data, null, boolean, number, string, array, object, Members, no_members, member}
use Rattle.serde_json.specs.Events.{items_len}
use Rattle.serde_json.specs.Find.{get_member}
use Rattle.yv_text_statement.specs.declared.document_kind.Kind.{Kind}
use Rattle.yv_values.specs.Same.{is_among}
use Rattle.yv_values.specs.Values.{Val}
use Rattle.yv_node_content.specs.Kinds.{is_choice, is_data, is_passed}
use Rattle.yv_node_content.specs.declared.kind.NodeKind.{NodeKind}
use Rattle.yv_node_content.specs.declared.kind.NodeKind.TheVariants as kind
use Rattle.yv_nodes.specs.Link.{Link}
use Rattle.yv_nodes.specs.Rows.{Rows}
use Rattle.yv_nodes.specs.Tree.{count, Forest, Label, no_trees, node, tree}
use Rattle.yv_nodes.specs.declared.node.NodeId.{NodeId}
use Rattle.yv_schema_tables.specs.DataChildren.{opened_trees}
use Rattle.yv_schema_tables.specs.Sound.{is_known}
use Rattle.yv_walk.specs.Context.{unknown_names}
use Rattle.yv_walk.specs.Existence.{any, both, count_standing, existence_of, is_there}
use Rattle.yv_walk.specs.declared.existence.Existence.{Existence}
use Rattle.yv_walk.specs.declared.existence.Existence.TheVariants.{Nothing}
use Rattle.yv_data_leafrefs.specs.InUse.{enforces, enforces_beside, is_asked, value_of}
use Rattle.yv_data_leafrefs.specs.Meetings.{at, at_end, at_node, at_value, EntryEnd, found_of, Meeting, Node, Stand, stand, WrittenValue}
use Rattle.yv_data_leafrefs.specs.Place.{Place, step_name, under}
use Rattle.yv_data_leafrefs.specs.References.{number_of, path_unless, references_at, references_of, values_reached}
use Rattle.yv_data_leafrefs.specs.Values.{ValueAt}
use Rattle.yv_data_faults.specs.Flaw.{Flaw}
use Rattle.yv_data_faults.specs.declared.fault.FaultKind.{FaultKind}
use Rattle.yv_data_faults.specs.declared.fault.FaultKind.TheVariants.{Unknown, Shape, Value, MissingKey, Duplicate, Unique, Mandatory, Min, Max, Choice, Reference, State}
use Rattle.yv_validate.specs.Faults.{anydata_faults, array_faults, choice_faults, count_faults, ending_faults, faults_at, flaw, flaw_if, kind_faults, leafs_of, missing_fault, node_faults, object_faults, repeat_faults, repeated_item, state_faults, tuple_at, unique_faults, value_faults}
use Rattle.yv_validate.specs.Repeats.{repeat_of}
use Rattle.yv_json_lines.specs.Pointer.{is_choice_at, is_of_choices, opens, without_choice}
use Rattle.yv_json_laws.specs.Faulty.{found_at}
use Rattle.yv_json_laws.proofs.PlaceLemmas.{value_of_member, value_of_path}
use Rattle.yv_json_laws.proofs.WalkPlaces.{AreOf, IsThere, IsWrittenThere, written_there}

-- a path leads to what is written
abbrev pub Reaches : Data → List Place → Option Data → Type 0
Reaches d path found = (v : Data) × (found ≡ Some v) × (value_of_path path d ≡ Some v)

-- what is around something that is met: the members of its object, if it is a node, and whether
-- the name of its step begins with a parenthesis
pub record Around : Type 0 where
  pub members : Members
  pub is_opened : Bool

-- a fault of this kind with this path is where it says, where this is found, and this is around it
abbrev pub IsPlaced : Data → Option Data → Around → FaultKind → List Place → Type 0
IsPlaced d found a Unknown path = (v : Data) × (value_of_path path d ≡ Some v)
IsPlaced d found a Shape path = Reaches d path found
IsPlaced d found a Value path = Reaches d path found
IsPlaced d found a MissingKey path = value_of_path path d ≡ found
IsPlaced d found a Duplicate path = Reaches d path found
IsPlaced d found a Unique path = Reaches d path found
IsPlaced d found a Mandatory path =
    (a.is_opened ≡ false → value_of_path (without_choice Mandatory path) d ≡ found)
    × (a.is_opened ≡ true → IfSome (value_of_path (without_choice Mandatory path) d) (λ v. v ≡ object a.members))
IsPlaced d found a Min path = value_of_path path d ≡ found
IsPlaced d found a Max path = Reaches d path found
IsPlaced d found a Choice path = (a.is_opened ≡ true) × (value_of_path (without_choice Choice path) d ≡ Some (object a.members))
IsPlaced d found a Reference path = Reaches d path found
IsPlaced d found a State path = Reaches d path found

abbrev pub around_node : Node → Around
around_node m = record { members = m.members; is_opened = opens (step_name m.label) }

-- around what isn't a node
abbrev pub nothing_around : Around
nothing_around = record { members = no_members; is_opened = false }

abbrev pub around : Meeting → Around
around (at_node m) = around_node m
around _ = nothing_around

abbrev ArePlaced : Data → Option Data → Around → List Flaw → Type 0
ArePlaced d found a fs = AllByRecursion (λ f. IsPlaced d found a f.kind f.path) fs

-- ---- lists of faults

both_placed : (d : Data) (found : Option Data) (a : Around) (xs ys : List Flaw) → ArePlaced d found a xs → ArePlaced d found a ys → ArePlaced d found a (xs ++ ys)
both_placed d found a [] ys p q = q
both_placed d found a (x ∷ xs) ys p q = (p.0, both_placed d found a xs ys p.1 q)

either_placed : (d : Data) (found : Option Data) (a : Around) (c : Bool) (xs ys : List Flaw) → ArePlaced d found a xs → ArePlaced d found a ys → ArePlaced d found a (cond c xs ys)
either_placed d found a true xs ys p q = p
either_placed d found a false xs ys p q = q

if_placed : (d : Data) (found : Option Data) (a : Around) (c : Bool) (K : FaultKind) (path : List Place) → (c ≡ true → IsPlaced d found a K path) → ArePlaced d found a (flaw_if c K path)
if_placed d found a true K path h = (h refl, tt)
if_placed d found a false K path h = tt

-- ---- an object

-- a member of this name is there
abbrev pub HasMember : Members → List ℕ → Type 0
HasMember ms name = (v : Data) × (get_member name ms ≡ Some v)

member_or : (o : Ordering) (e : Data) (a : Option Data) → (v : Data) × (a ≡ Some v) → (v : Data) × (match_ordering o a (Some e) a ≡ Some v)
member_or Less e a h = h
member_or Equal e a h = (e, refl)
member_or Greater e a h = h

members_later : (key : List ℕ) (e : Data) (ms : Members) (names : List (List ℕ)) → AllByRecursion (HasMember ms) names → AllByRecursion (HasMember (member key e ms)) names
members_later key e ms [] h = tt
members_later key e ms (name ∷ names) h = (member_or (slice_cmp nat_cmp name key) e (get_member name ms) h.0, members_later key e ms names h.1)

member_first : (key : List ℕ) (e : Data) (ms : Members) → HasMember (member key e ms) key
member_first key e ms = (e, ap (λ (o : Ordering). match_ordering o (get_member key ms) (Some e) (get_member key ms)) (tied_itself nat_list_cmp_total key))

names_append : (ms : Members) (c : Bool) (key : List ℕ) (names : List (List ℕ)) → HasMember ms key → AllByRecursion (HasMember ms) names → AllByRecursion (HasMember ms) (cond c [] (key ∷ []) ++ names)
names_append ms true key names p q = q
names_append ms false key names p q = (p, q)

-- members that name no node are there
pub unknown_there : (ts : Forest) (ms : Members) → AllByRecursion (HasMember ms) (unknown_names ts ms)
unknown_there ts no_members = tt
unknown_there ts (member key e ms) =
    names_append (member key e ms) (is_known ts key) key (unknown_names ts ms) (member_first key e ms) (members_later key e ms (unknown_names ts ms) (unknown_there ts ms))

unknown_placed : (d : Data) (path : List Place) (found : Option Data) (a : Around) (ms : Members) (names : List (List ℕ)) → value_of_path path d ≡ Some (object ms) → AllByRecursion (HasMember ms) names
    → ArePlaced d found a (map (λ key. flaw Unknown (under path key)) names)
unknown_placed d path found a ms [] h p = tt
unknown_placed d path found a ms (name ∷ names) h p =
    ((p.0.0, value_of_member path name d ms h ∙ p.0.1), unknown_placed d path found a ms names h p.1)

object_placed : (d : Data) (m : Stand) (e : Data) → value_of_path m.spot.path d ≡ Some e → ArePlaced d (Some e) nothing_around (object_faults m e)
object_placed d m (object ms) h =
    unknown_placed d m.spot.path (Some (object ms)) nothing_around ms (unknown_names (opened_trees m.trees) ms) h (unknown_there (opened_trees m.trees) ms)
object_placed d m null h = ((null, refl, h), tt)
object_placed d m (boolean x) h = ((boolean x, refl, h), tt)
object_placed d m (number x) h = ((number x, refl, h), tt)
object_placed d m (string x) h = ((string x, refl, h), tt)
object_placed d m (array x) h = ((array x, refl, h), tt)

-- ---- values and entries

duplicate_placed : (d v : Data) (o : Option ℕ) (here : List Place) (n : ℕ) → value_of_path here d ≡ Some v → ArePlaced d (Some v) nothing_around (repeat_faults o Duplicate here n)
duplicate_placed d v None here n h = tt
duplicate_placed d v (Some first) here n h = ((v, refl, h), tt)

unique_placed : (d v : Data) (o : Option ℕ) (here : List Place) (n : ℕ) → value_of_path here d ≡ Some v → ArePlaced d (Some v) nothing_around (repeat_faults o Unique here n)
unique_placed d v None here n h = tt
unique_placed d v (Some first) here n h = ((v, refl, h), tt)

value_placed : (d : Data) (m : WrittenValue) → value_of_path (at m.spot m.label (number_of m.before)) d ≡ Some m.found → ArePlaced d (Some m.found) nothing_around (value_faults m)
value_placed d m h =
    let here : List Place = at m.spot m.label (number_of m.before) in
    let first : Option ℕ = repeated_item m.label m.before m.found in
    either_placed d (Some m.found) nothing_around (is_some (value_of m.label m.found)) (repeat_faults first Duplicate here 0) (flaw Value here ∷ [])
    (duplicate_placed d m.found first here 0 h) ((m.found, refl, h), tt)

uniques_placed : (d v : Data) (tuple : List (Option NodeId) → Data → Option (List Val)) (here : List Place) (from : ℕ) (leafs : List (List (Option NodeId))) (before : List Data) (e : Data)
    → value_of_path here d ≡ Some v → ArePlaced d (Some v) nothing_around (unique_faults tuple here from leafs before e)
uniques_placed d v tuple here from [] before e h = tt
uniques_placed d v tuple here from (l ∷ leafs) before e h =
    let first : Option ℕ = repeat_of (tuple l) before e in
    both_placed d (Some v) nothing_around (repeat_faults first Unique here (min from 4294967295)) (unique_faults tuple here (from + 1) leafs before e)
    (unique_placed d v first here (min from 4294967295) h) (uniques_placed d v tuple here (from + 1) leafs before e h)

ending_placed : (k : Kind) (s : Rows) (d : Data) (m : EntryEnd) → value_of_path (at m.spot m.label (Some (length m.before + 1))) d ≡ Some m.found
    → ArePlaced d (Some m.found) nothing_around (ending_faults k s m)
ending_placed k s d m h =
    let here : List Place = at m.spot m.label (Some (length m.before + 1)) in
    let tuple : List (Option NodeId) → Data → Option (List Val) = tuple_at k s m in
    let first : Option ℕ = repeat_of (tuple (leafs_of s m.node m.label).keys) m.before m.found in
    both_placed d (Some m.found) nothing_around (repeat_faults first Duplicate here 0) (unique_faults tuple here 1 (leafs_of s m.node m.label).uniques m.before m.found)
    (duplicate_placed d m.found first here 0 h) (uniques_placed d m.found tuple here 1 (leafs_of s m.node m.label).uniques m.before m.found h)

-- ---- nodes

-- the last place of a path is left out where it is a choice's
without_last : (K : FaultKind) (ps : List Place) (p : Place) → without_choice K (ps ++ p ∷ []) ≡ ps ++ cond (is_choice_at K p.member) [] (p ∷ [])
without_last K [] p = refl
without_last K (q ∷ []) p = refl
without_last K (q ∷ r ∷ ps) p = ap (λ (l : List Place). q ∷ l) (without_last K (r ∷ ps) p)

-- and its pointer is that of the path before it
without_opened : (K : FaultKind) (path : List Place) (l : Label) → is_of_choices K ≡ true → opens (step_name l) ≡ true
    → without_choice K (path ++ record { member = step_name l; item = None } ∷ []) ≡ path
without_opened K path l c e =
    without_last K path (record { member = step_name l; item = None })
    ∙ ap (λ (b : Bool). path ++ cond (b && opens (step_name l)) [] (record { member = step_name l; item = None } ∷ [])) c
    ∙ ap (λ (qs : List Place). path ++ qs) (cond-true _ _ _ e) ∙ append-nil path

choice_opens : (l : Label) → l.defined.kind ≡ kind.Choice → opens (step_name l) ≡ true
choice_opens l e = ap opens (cond-true _ _ _ (ap is_choice e))

-- and kept where it isn't called so
with_own : (path : List Place) (l : Label) → opens (step_name l) ≡ false
    → without_choice Mandatory (path ++ record { member = step_name l; item = None } ∷ []) ≡ path ++ record { member = step_name l; item = None } ∷ []
with_own path l e =
    without_last Mandatory path (record { member = step_name l; item = None }) ∙ ap (λ (qs : List Place). path ++ qs) (cond-false _ _ _ e)

-- if a path leads to something, then to the object of its members
object_if : (ms : Members) (o : Option Data) → (o ≡ Some (object ms)) ⊎ ((ms ≡ no_members) × (o ≡ None)) → IfSome o (λ v. v ≡ object ms)
object_if ms None h = tt
object_if ms (Some v) (inl h) = same_Some v (object ms) h
object_if ms (Some v) (inr h) = absurd (none-some v (sym h.1))

missing_placed : (d : Data) (found : Option Data) (m : Node) → AreOf d m.spot.path m.members → (opens (step_name m.label) ≡ false → value_of_path (at m.spot m.label None) d ≡ found)
    → ArePlaced d found (around_node m) (missing_fault m)
missing_placed d found m o h =
    let P : List Place → Type 0 = λ ps. IfSome (value_of_path ps d) (λ v. v ≡ object m.members) in
    if_placed d found (around_node m) (m.label.defined.is_mandatory && enforces m.scope) Mandatory (at m.spot m.label None)
    (λ e. (
      (λ shut. ap (λ (ps : List Place). value_of_path ps d) (with_own m.spot.path m.label shut) ∙ h shut),
      (λ opened. subst P (sym (without_opened Mandatory m.spot.path m.label refl opened)) (object_if m.members (value_of_path m.spot.path d) o)),
    ))

key_placed : (d : Data) (found : Option Data) (m : Node) → AreOf d m.spot.path m.members → value_of_path (at m.spot m.label None) d ≡ found
    → ArePlaced d found (around_node m) (cond m.label.is_key (flaw MissingKey (at m.spot m.label None) ∷ []) (missing_fault m))
key_placed d found m o h =
    either_placed d found (around_node m) m.label.is_key (flaw MissingKey (at m.spot m.label None) ∷ []) (missing_fault m) (h, tt) (missing_placed d found m o (λ shut. h))

abbrev is_less : ℕ → Option ℕ → Bool
is_less total most = unwrap_or (option_map (λ n. nat_lt n total) most) false

none_less : (most : Option ℕ) → is_less 0 most ≡ true → ⊥
none_less None e = cc
none_less (Some n) e = grind (arith, nat_tests)

count_placed : (d : Data) (found : Option Data) (m : Node) (total : ℕ) → value_of_path (at m.spot m.label None) d ≡ found
    → (is_less total m.label.defined.max ≡ true → Reaches d (at m.spot m.label None) found) → ArePlaced d found (around_node m) (count_faults m total)
count_placed d found m total h g =
    let here : List Place = at m.spot m.label None in
    let few : Bool = nat_lt total m.label.defined.min && enforces_beside m.node m.scope in
    both_placed d found (around_node m) (flaw_if few Min here) (flaw_if (is_less total m.label.defined.max) Max here)
    (if_placed d found (around_node m) few Min here (λ e. h)) (if_placed d found (around_node m) (is_less total m.label.defined.max) Max here g)

array_placed : (d : Data) (m : Node) (found : Option Data) → value_of_path (at m.spot m.label None) d ≡ found → ArePlaced d found (around_node m) (array_faults m found)
array_placed d m None h = count_placed d None m 0 h (λ e. absurd (none_less m.label.defined.max e))
array_placed d m (Some (array ds)) h = count_placed d (Some (array ds)) m (items_len ds) h (λ e. (array ds, refl, h))
array_placed d m (Some null) h = ((null, refl, h), tt)
array_placed d m (Some (boolean x)) h = ((boolean x, refl, h), tt)
array_placed d m (Some (number x)) h = ((number x, refl, h), tt)
array_placed d m (Some (string x)) h = ((string x, refl, h), tt)
array_placed d m (Some (object x)) h = ((object x, refl, h), tt)

anydata_placed : (d : Data) (m : Node) (found : Option Data) → AreOf d m.spot.path m.members → value_of_path (at m.spot m.label None) d ≡ found → ArePlaced d found (around_node m) (anydata_faults m found)
anydata_placed d m None o h = missing_placed d None m o (λ shut. h)
anydata_placed d m (Some (object ms)) o h = tt
anydata_placed d m (Some null) o h = ((null, refl, h), tt)
anydata_placed d m (Some (boolean x)) o h = ((boolean x, refl, h), tt)
anydata_placed d m (Some (number x)) o h = ((number x, refl, h), tt)
anydata_placed d m (Some (string x)) o h = ((string x, refl, h), tt)
anydata_placed d m (Some (array x)) o h = ((array x, refl, h), tt)

-- ---- choices

nothing_if : (c : Bool) (x : Existence) → x ≡ Nothing → cond c x Nothing ≡ Nothing
nothing_if true x e = e
nothing_if false x e = refl

-- nothing exists where there are no members
nothing_there : (first : ℕ) (ts : Forest) → existence_of first ts no_members ≡ Nothing
nothing_there first no_trees = refl
nothing_there first (tree (node l kids) ts) =
    ap (λ (x : Existence). both x (existence_of (first + 1 + count kids) ts no_members))
    (nothing_if (is_passed l.defined.kind) (existence_of (first + 1) kids no_members) (nothing_there (first + 1) kids))
    ∙ nothing_there (first + 1 + count kids) ts

none_counted : (first : ℕ) (ts : Forest) → count_standing first ts no_members ≡ 0
none_counted first no_trees = refl
none_counted first (tree (node l kids) ts) =
    ap (λ (x : Existence). cond (any x) 1 0 + count_standing (first + 1 + count kids) ts no_members)
    (nothing_if (is_passed l.defined.kind) (existence_of (first + 1) kids no_members) (nothing_there (first + 1) kids))
    ∙ ap (λ (n : ℕ). 0 + n) (none_counted (first + 1 + count kids) ts)

-- cases exist in an object only
cases_there : (d : Data) (path : List Place) (first n : ℕ) (ts : Forest) (ms : Members) → AreOf d path ms → count_standing first ts ms ≡ suc n → value_of_path path d ≡ Some (object ms)
cases_there d path first n ts ms (inl h) e = h
cases_there d path first n ts ms (inr h) e =
    let none : suc n ≡ 0 = sym e ∙ ap (count_standing first ts) h.0 ∙ none_counted first ts in absurd (omega (arith, none))

choice_placed : (d : Data) (m : Node) (found : Option Data) (first n : ℕ) → m.label.defined.kind ≡ kind.Choice → AreOf d m.spot.path m.members
    → count_standing first m.kids m.members ≡ n → ArePlaced d found (around_node m) (choice_faults m n)
choice_placed d m found first zero is h e =
    missing_placed d found m h (λ shut. let never : true ≡ false = sym (choice_opens m.label is) ∙ shut in absurd (cc))
choice_placed d m found first (suc zero) is h e = tt
choice_placed d m found first (suc (suc n)) is h e =
    ((choice_opens m.label is, ap (λ (ps : List Place). value_of_path ps d) (without_opened Choice m.spot.path m.label refl (choice_opens m.label is)) ∙ cases_there d m.spot.path first (suc n) m.kids m.members h e), tt)

-- ---- all kinds of nodes

kind_placed : (d : Data) (K : NodeKind) (m : Node) (found : Option Data) → m.label.defined.kind ≡ K → AreOf d m.spot.path m.members
    → IsWrittenThere d (is_data K) (at m.spot m.label None) found → ArePlaced d found (around_node m) (kind_faults K m found)
kind_placed d kind.Leaf m None is h g = key_placed d None m h (g refl)
kind_placed d kind.Leaf m (Some e) is h g = tt
kind_placed d kind.LeafList m found is h g = array_placed d m found (g refl)
kind_placed d kind.List m found is h g = array_placed d m found (g refl)
kind_placed d kind.Choice m found is h g = choice_placed d m found (m.node.0 + 1) (count_standing (m.node.0 + 1) m.kids m.members) is h refl
kind_placed d kind.Anydata m found is h g = anydata_placed d m found h (g refl)
kind_placed d kind.Anyxml m None is h g = missing_placed d None m h (λ shut. g refl)
kind_placed d kind.Anyxml m (Some e) is h g = tt
kind_placed d _ m found is h g = tt

there_data : (K : NodeKind) (e : Data) → is_there K e ≡ true → is_data K ≡ true
there_data kind.Container e h = refl
there_data kind.Leaf e h = refl
there_data kind.LeafList e h = refl
there_data kind.List e h = refl
there_data kind.Choice e h = h
there_data kind.Case e h = h
there_data kind.Anydata e h = refl
there_data kind.Anyxml e h = refl
there_data kind.Rpc e h = h
there_data kind.Action e h = h
there_data kind.Notification e h = h
there_data kind.Input e h = h
there_data kind.Output e h = h

state_placed : (d : Data) (K : NodeKind) (m : Node) (found : Option Data) → IsWrittenThere d (is_data K) (at m.spot m.label None) found → ArePlaced d found (around_node m) (state_faults K m found)
state_placed d K m None g = tt
state_placed d K m (Some e) g =
    if_placed d (Some e) (around_node m) (is_there K e) State (at m.spot m.label None) (λ is. (e, refl, g (there_data K e is)))

node_placed : (d : Data) (m : Node) → AreOf d m.spot.path m.members → ArePlaced d (found_of m) (around_node m) (node_faults m.label.defined.kind m (found_of m))
node_placed d m h =
    let g : IsWrittenThere d (is_data m.label.defined.kind) (at m.spot m.label None) (found_of m) = λ is. written_there d m.spot m.label m.members h is in
    either_placed d (found_of m) (around_node m) (is_asked m.scope) (kind_faults m.label.defined.kind m (found_of m)) (state_faults m.label.defined.kind m (found_of m))
    (kind_placed d m.label.defined.kind m (found_of m) refl h g) (state_placed d m.label.defined.kind m (found_of m) g)

-- ---- all that is met

-- the faults of what is met
pub faults_placed : (k : Kind) (s : Rows) (d : Data) (m : Meeting) → IsThere d m → AllByRecursion (λ f. IsPlaced d (found_at m) (around m) f.kind f.path) (faults_at k s m)
faults_placed k s d (stand m) h = object_placed d m m.found h
faults_placed k s d (at_value m) h = value_placed d m h
faults_placed k s d (at_end m) h = ending_placed k s d m h
faults_placed k s d (at_node m) h = node_placed d m h

-- the paths of references lead to the values of leafrefs
unless_leads : (d v : Data) (c : Bool) (here : List Place) → value_of_path here d ≡ Some v → AllByRecursion (λ path. value_of_path path d ≡ Some v) (path_unless c here)
unless_leads d v true here h = tt
unless_leads d v false here h = (h, tt)

reference_paths_lead : (d : Data) (all : List ValueAt) (link : Option Link) (m : WrittenValue) (o : Option Val) → IsThere d (at_value m)
    → AllByRecursion (λ path. value_of_path path d ≡ Some m.found) (references_of all link m o)
reference_paths_lead d all None m o h = tt
reference_paths_lead d all (Some link) m None h = tt
reference_paths_lead d all (Some link) m (Some v) h =
    unless_leads d m.found (is_among v (values_reached all link m.spot)) (at m.spot m.label (number_of m.before)) h

pub value_paths_lead : (d : Data) (links : ℕ → Option Link) (all : List ValueAt) (m : WrittenValue) → IsThere d (at_value m)
    → AllByRecursion (λ path. value_of_path path d ≡ Some m.found) (references_at links all (at_value m))
value_paths_lead d links all m h = reference_paths_lead d all (links m.node.0) m (value_of m.label m.found) h
