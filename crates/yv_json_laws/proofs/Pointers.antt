-- The pointers of faults lead to what these are about.
use Rattle.std.proofs.Common.{◌≡◌, ◌≢◌, ◌∙◌, ℕ, ◌^◌, ◌<◌, List, [], ◌∷◌, ◌++◌, map, Bool, true, false, cond, ◌&&◌, Option, Some, refl, sym, ap, subst}
use Rattle.std.specs.Prelude.{Contains, IfSome, IsSome, is_some}
use Rattle.std.specs.List.{AllByRecursion, flat_map}
use Rattle.std.proofs.lemmas.List.Elements.{All-contains, All-from_recursion}
use Rattle.serde_json.specs.Data.{Data, Members, object}
use Rattle.serde_json.specs.Find.{get_member}
use Rattle.yv_text_statement.specs.declared.document_kind.Kind.{Kind}
use Rattle.yv_nodes.specs.Link.{Link, link_in}
use Rattle.yv_nodes.specs.Rows.{Rows}
use Rattle.yv_schema_tables.specs.DataChildren.{opened_trees}
use Rattle.yv_walk.specs.Context.{unknown_names}
use Rattle.yv_data_leafrefs.specs.Meetings.{all_met, at_end, at_node, at_value, Meeting, Node, Stand, stand, WrittenValue}
use Rattle.yv_data_leafrefs.specs.Place.{Place, under}
use Rattle.yv_data_leafrefs.specs.References.{all_references, references_at}
use Rattle.yv_data_leafrefs.specs.Values.{ValueAt, values_in}
use Rattle.yv_data_faults.specs.Flaw.{Flaw}
use Rattle.yv_data_faults.specs.declared.fault.FaultKind.{FaultKind}
use Rattle.yv_data_faults.specs.declared.fault.FaultKind.TheVariants.{Unknown, Shape, Value, MissingKey, Duplicate, Unique, Mandatory, Min, Max, Choice, Reference, State}
use Rattle.yv_validate.specs.Faults.{faults, faults_at, flaw, reference_faults}
use Rattle.yv_validate.specs.Size.{size}
use Rattle.yv_json_lines.specs.Pointer.{is_of_choices, opens, pointer_text, without_choice}
use Rattle.yv_json_laws.specs.Faulty.{found_at, is_at_choice, may_be_missing}
use Rattle.yv_json_laws.specs.Resolution.{value_at}
use Rattle.yv_json_laws.proofs.FaultPlaces.{Around, around, faults_placed, HasMember, IsPlaced, Reaches, unknown_there, value_paths_lead}
use Rattle.yv_json_laws.proofs.PlaceLemmas.{value_of_member, value_of_path}
use Rattle.yv_json_laws.proofs.WalkPlaces.{all_there, IsThere}

-- ---- pointers

-- the path of a fault keeps its last place if no fault of the kind is at a choice
whole_path : (K : FaultKind) (ps : List Place) → is_of_choices K ≡ false → without_choice K ps ≡ ps
whole_path K [] e = refl
whole_path K (p ∷ []) e = ap (λ (c : Bool). cond (c && opens p.member) [] (p ∷ [])) e
whole_path K (p ∷ q ∷ ps) e = ap (λ (l : List Place). p ∷ l) (whole_path K (q ∷ ps) e)

-- the pointer of such a fault leads where its path does
pointer_leads : (K : FaultKind) (path : List Place) (d : Data) (o : Option Data) → is_of_choices K ≡ false → value_of_path path d ≡ o → value_at (pointer_text K path) d ≡ o
pointer_leads K path d o e h = ap (λ (ps : List Place). value_of_path ps d) (whole_path K path e) ∙ h

is_found : (o : Option Data) (v : Data) → o ≡ Some v → IsSome o
is_found o v e = ap is_some e

-- a pointer leads to what is written, if its path does
found_leads : (K : FaultKind) (path : List Place) (d : Data) (found : Option Data) → is_of_choices K ≡ false → Reaches d path found → value_at (pointer_text K path) d ≡ found
found_leads K path d found e h = pointer_leads K path d (Some h.0) e h.2 ∙ sym h.1

some_leads : (K : FaultKind) (path : List Place) (d : Data) (found : Option Data) → is_of_choices K ≡ false → Reaches d path found → IsSome (value_at (pointer_text K path) d)
some_leads K path d found e h = is_found _ h.0 (pointer_leads K path d (Some h.0) e h.2)

-- a fault that is placed has a pointer that leads to a value
placed_leads : (K : FaultKind) (path : List Place) (d : Data) (found : Option Data) (a : Around) → may_be_missing K ≡ false → IsPlaced d found a K path
    → IsSome (value_at (pointer_text K path) d)
placed_leads Unknown path d found a e h = is_found _ h.0 (pointer_leads Unknown path d (Some h.0) refl h.1)
placed_leads Shape path d found a e h = some_leads Shape path d found refl h
placed_leads Value path d found a e h = some_leads Value path d found refl h
placed_leads MissingKey path d found a e h = absurd (cc)
placed_leads Duplicate path d found a e h = some_leads Duplicate path d found refl h
placed_leads Unique path d found a e h = some_leads Unique path d found refl h
placed_leads Mandatory path d found a e h = absurd (cc)
placed_leads Min path d found a e h = absurd (cc)
placed_leads Max path d found a e h = some_leads Max path d found refl h
placed_leads Choice path d found a e h = is_found _ (object a.members) h.1
placed_leads Reference path d found a e h = some_leads Reference path d found refl h
placed_leads State path d found a e h = some_leads State path d found refl h

-- and to what is found, and nowhere if nothing is, unless it is a member's or at a choice
placed_found : (K : FaultKind) (path : List Place) (d : Data) (found : Option Data) (a : Around) → K ≢ Unknown → (is_of_choices K && a.is_opened) ≡ false → IsPlaced d found a K path
    → value_at (pointer_text K path) d ≡ found
placed_found Unknown path d found a e c h = absurd (e refl)
placed_found Shape path d found a e c h = found_leads Shape path d found refl h
placed_found Value path d found a e c h = found_leads Value path d found refl h
placed_found MissingKey path d found a e c h = pointer_leads MissingKey path d found refl h
placed_found Duplicate path d found a e c h = found_leads Duplicate path d found refl h
placed_found Unique path d found a e c h = found_leads Unique path d found refl h
placed_found Mandatory path d found a e c h = h.0 c
placed_found Min path d found a e c h = pointer_leads Min path d found refl h
placed_found Max path d found a e c h = found_leads Max path d found refl h
placed_found Choice path d found a e c h = let never : true ≡ false = sym h.0 ∙ c in absurd (cc)
placed_found Reference path d found a e c h = found_leads Reference path d found refl h
placed_found State path d found a e c h = found_leads State path d found refl h

-- or to the object around a choice, if to anything
placed_parent : (K : FaultKind) (path : List Place) (d : Data) (found : Option Data) (a : Around) → (is_of_choices K && a.is_opened) ≡ true → IsPlaced d found a K path
    → IfSome (value_at (pointer_text K path) d) (λ v. v ≡ object a.members)
placed_parent Mandatory path d found a c h = h.1 c
placed_parent Choice path d found a c h =
    let P : Option Data → Type 0 = λ o. IfSome o (λ v. v ≡ object a.members) in subst P (sym h.1) refl
placed_parent Unknown path d found a c h = absurd (cc)
placed_parent Shape path d found a c h = absurd (cc)
placed_parent Value path d found a c h = absurd (cc)
placed_parent MissingKey path d found a c h = absurd (cc)
placed_parent Duplicate path d found a c h = absurd (cc)
placed_parent Unique path d found a c h = absurd (cc)
placed_parent Min path d found a c h = absurd (cc)
placed_parent Max path d found a c h = absurd (cc)
placed_parent Reference path d found a c h = absurd (cc)
placed_parent State path d found a c h = absurd (cc)

and_false : (c : Bool) → (c && false) ≡ false
and_false true = refl
and_false false = refl

no_choice : (K : FaultKind) (m : Meeting) → is_at_choice K m ≡ false → (is_of_choices K && (around m).is_opened) ≡ false
no_choice K (at_node m) h = h
no_choice K (stand m) h = and_false (is_of_choices K)
no_choice K (at_value m) h = and_false (is_of_choices K)
no_choice K (at_end m) h = and_false (is_of_choices K)

-- ---- all faults

-- what holds of all holds of one
each : {X : Type 0} (P : X → Type 0) (xs : List X) (x : X) → AllByRecursion P xs → Contains xs x → P x
each P xs x h is = All-contains P xs x (All-from_recursion P xs h) is

all_append : {X : Type 0} (P : X → Type 0) (xs ys : List X) → AllByRecursion P xs → AllByRecursion P ys → AllByRecursion P (xs ++ ys)
all_append P [] ys p q = q
all_append P (x ∷ xs) ys p q = (p.0, all_append P xs ys p.1 q)

all_flat_map : {X Y : Type 0} (P : Y → Type 0) (Q : X → Type 0) (f : X → List Y) → ((x : X) → Q x → AllByRecursion P (f x)) → (xs : List X) → AllByRecursion Q xs → AllByRecursion P (flat_map f xs)
all_flat_map P Q f h [] q = tt
all_flat_map P Q f h (x ∷ xs) q = all_append P (f x) (flat_map f xs) (h x q.0) (all_flat_map P Q f h xs q.1)

all_map : {X Y : Type 0} (P : Y → Type 0) (Q : X → Type 0) (f : X → Y) → ((x : X) → Q x → P (f x)) → (xs : List X) → AllByRecursion Q xs → AllByRecursion P (map f xs)
all_map P Q f h [] q = tt
all_map P Q f h (x ∷ xs) q = (h x q.0, all_map P Q f h xs q.1)

all_weaker : {X : Type 0} (P Q : X → Type 0) → ((x : X) → P x → Q x) → (xs : List X) → AllByRecursion P xs → AllByRecursion Q xs
all_weaker P Q h [] p = tt
all_weaker P Q h (x ∷ xs) p = (h x p.0, all_weaker P Q h xs p.1)

-- the pointer of a fault leads to a value, if its kind is not one of what may be missing
abbrev Leads : Data → Flaw → Type 0
Leads d f = may_be_missing f.kind ≡ false → IsSome (value_at (pointer_text f.kind f.path) d)

met_lead : (k : Kind) (s : Rows) (d : Data) (m : Meeting) → IsThere d m → AllByRecursion (Leads d) (faults_at k s m)
met_lead k s d m h =
    all_weaker (λ f. IsPlaced d (found_at m) (around m) f.kind f.path) (Leads d) (λ f p e. placed_leads f.kind f.path d (found_at m) (around m) e p)
    (faults_at k s m) (faults_placed k s d m h)

-- a path leads to a value
abbrev LeadsSomewhere : Data → List Place → Type 0
LeadsSomewhere d path = (v : Data) × (value_of_path path d ≡ Some v)

met_references : (d : Data) (links : ℕ → Option Link) (all : List ValueAt) (m : Meeting) → IsThere d m → AllByRecursion (LeadsSomewhere d) (references_at links all m)
met_references d links all (at_value m) h =
    all_weaker (λ path. value_of_path path d ≡ Some m.found) (LeadsSomewhere d) (λ path e. (m.found, e)) (references_at links all (at_value m)) (value_paths_lead d links all m h)
met_references d links all (stand m) h = tt
met_references d links all (at_end m) h = tt
met_references d links all (at_node m) h = tt

references_lead : (k : Kind) (s : Rows) (d : Data) → size d < 2 ^ 64 → AllByRecursion (Leads d) (reference_faults (all_references k s d))
references_lead k s d fits =
    all_map (Leads d) (LeadsSomewhere d) (λ path. flaw Reference path) (λ path h e. is_found _ h.0 (pointer_leads Reference path d (Some h.0) refl h.1)) (all_references k s d)
    (all_flat_map (LeadsSomewhere d) (IsThere d) (references_at (link_in s.links) (values_in (all_met k s d)))
    (λ m h. met_references d (link_in s.links) (values_in (all_met k s d)) m h) (all_met k s d) (all_there k s d fits))

all_lead : (k : Kind) (s : Rows) (d : Data) → size d < 2 ^ 64 → AllByRecursion (Leads d) (faults k s d)
all_lead k s d fits =
    all_append (Leads d) (flat_map (faults_at k s) (all_met k s d)) (reference_faults (all_references k s d))
    (all_flat_map (Leads d) (IsThere d) (faults_at k s) (λ m h. met_lead k s d m h) (all_met k s d) (all_there k s d fits)) (references_lead k s d fits)

-- ---- the law

met_there : (k : Kind) (s : Rows) (d : Data) (m : Meeting) → size d < 2 ^ 64 → Contains (all_met k s d) m → IsThere d m
met_there k s d m fits is = each (IsThere d) (all_met k s d) m (all_there k s d fits) is

met_placed : (k : Kind) (s : Rows) (d : Data) (m : Meeting) (f : Flaw) → size d < 2 ^ 64 → Contains (all_met k s d) m → Contains (faults_at k s m) f
    → IsPlaced d (found_at m) (around m) f.kind f.path
met_placed k s d m f fits is has =
    each (λ g. IsPlaced d (found_at m) (around m) g.kind g.path) (faults_at k s m) f (faults_placed k s d m (met_there k s d m fits is)) has

pub fault_leads : (k : Kind) (s : Rows) (d : Data) (f : Flaw) → size d < 2 ^ 64 → Contains (faults k s d) f → may_be_missing f.kind ≡ false
    → IsSome (value_at (pointer_text f.kind f.path) d)
fault_leads k s d f fits has e = each (Leads d) (faults k s d) f (all_lead k s d fits) has e

pub fault_found : (k : Kind) (s : Rows) (d : Data) (m : Meeting) (f : Flaw) → size d < 2 ^ 64 → Contains (all_met k s d) m → Contains (faults_at k s m) f
    → f.kind ≢ Unknown → is_at_choice f.kind m ≡ false → value_at (pointer_text f.kind f.path) d ≡ found_at m
fault_found k s d m f fits is has e c =
    placed_found f.kind f.path d (found_at m) (around m) e (no_choice f.kind m c) (met_placed k s d m f fits is has)

pub unknown_leads : (k : Kind) (s : Rows) (d : Data) (m : Stand) (ms : Members) (name : List ℕ) → size d < 2 ^ 64 → Contains (all_met k s d) (stand m) → m.found ≡ object ms
    → Contains (unknown_names (opened_trees m.trees) ms) name
    → (v : Data) × (get_member name ms ≡ Some v) × (value_at (pointer_text Unknown (under m.spot.path name)) d ≡ Some v)
unknown_leads k s d m ms name fits is e has =
    let found = each (HasMember ms) (unknown_names (opened_trees m.trees) ms) name (unknown_there (opened_trees m.trees) ms) has in
    let there : value_of_path m.spot.path d ≡ Some (object ms) = met_there k s d (stand m) fits is ∙ ap (λ (x : Data). Some x) e in
    (found.0, found.1, pointer_leads Unknown (under m.spot.path name) d (Some found.0) refl (value_of_member m.spot.path name d ms there ∙ found.1))

choice_path_leads : (K : FaultKind) (path : List Place) (d : Data) (found : Option Data) (a : Around) → K ≡ Choice → IsPlaced d found a K path
    → value_at (pointer_text K path) d ≡ Some (object a.members)
choice_path_leads K path d found a e h =
    let P : FaultKind → Type 0 = λ x. IsPlaced d found a x path → value_at (pointer_text x path) d ≡ Some (object a.members) in
    subst P (sym e) (λ (p : IsPlaced d found a Choice path). p.1) h

pub choice_leads : (k : Kind) (s : Rows) (d : Data) (m : Node) (f : Flaw) → size d < 2 ^ 64 → Contains (all_met k s d) (at_node m) → Contains (faults_at k s (at_node m)) f
    → f.kind ≡ Choice → value_at (pointer_text f.kind f.path) d ≡ Some (object m.members)
choice_leads k s d m f fits is has e = choice_path_leads f.kind f.path d (found_at (at_node m)) (around (at_node m)) e (met_placed k s d (at_node m) f fits is has)

pub parent_leads : (k : Kind) (s : Rows) (d : Data) (m : Node) (f : Flaw) → size d < 2 ^ 64 → Contains (all_met k s d) (at_node m) → Contains (faults_at k s (at_node m)) f
    → is_at_choice f.kind (at_node m) ≡ true → IfSome (value_at (pointer_text f.kind f.path) d) (λ v. v ≡ object m.members)
parent_leads k s d m f fits is has c = placed_parent f.kind f.path d (found_at (at_node m)) (around (at_node m)) c (met_placed k s d (at_node m) f fits is has)

pub reference_leads : (k : Kind) (s : Rows) (d : Data) (m : WrittenValue) (path : List Place) → size d < 2 ^ 64 → Contains (all_met k s d) (at_value m)
    → Contains (references_at (link_in s.links) (values_in (all_met k s d)) (at_value m)) path → value_at (pointer_text Reference path) d ≡ Some m.found
reference_leads k s d m path fits is has =
    pointer_leads Reference path d (Some m.found) refl
    (each (λ q. value_of_path q d ≡ Some m.found) (references_at (link_in s.links) (values_in (all_met k s d)) (at_value m)) path
    (value_paths_lead d (link_in s.links) (values_in (all_met k s d)) m (met_there k s d (at_value m) fits is)) has)
