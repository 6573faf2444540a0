-- Nodes below one parent that have one module and one name, as they are met among numbered nodes.
use Rattle.std.proofs.Common.{◌≡◌, ◌≢◌, ℕ, zero, suc, ◌+◌, ◌<◌, ◌⊎◌, inl, inr, List, [], ◌∷◌, ◌++◌, map, length, refl, sym, ap, ◌∙◌, subst, arith, Bool, true, false, cond, Some}
use Rattle.std.specs.List.{AllByRecursion, slice_get}
use Rattle.std.proofs.lemmas.Bool.{false≢true}
use Rattle.std.proofs.lemmas.List.{map-append}
use Rattle.std.proofs.lemmas.List.Elements.{recursion_from_All}
use Rattle.std.proofs.lemmas.Option.{same_Some, slice_get_within}
use Rattle.yv_text_statement.specs.declared.refusal.Refusal.{Refusal}
use Rattle.yv_text_statement.specs.Order.{Among}
use Rattle.yv_node_content.specs.declared.kind.NodeKind.{NodeKind}
use Rattle.yv_node_content.specs.declared.kind.NodeKind.TheVariants as kind
use Rattle.yv_node_content.specs.Kinds.{is_case, is_choice, is_data, is_passed}
use Rattle.yv_nodes.specs.declared.node.NodeId.{NodeId}
use Rattle.yv_nodes.specs.Tree.{count, Label, node, Forest, no_trees, tree, labels}
use Rattle.yv_nodes.specs.Places.{Place, places_below}
use Rattle.yv_nodes.specs.Rows.{Module, Row}
use Rattle.yv_nodes.specs.Numbers.{rows_below}
use Rattle.yv_schema_tables.specs.DataChildren.{opened_trees}
use Rattle.yv_schema_tables.specs.DuplicateNodes.{HasRepeat, duplicate_at, family, names_that_differ}
use Rattle.yv_schema_tables.specs.InnerSits.{Sits, family_in}
use Rattle.yv_schema_tables.specs.InnerTables.{Namesakes}
use Rattle.yv_schema_tables.specs.NodeNumbers.{AreModules, HasNoColon, IsNamed}
use Rattle.yv_schema_tables.proofs.ChildDirectories.{map_get, map_got}
use Rattle.yv_schema_tables.proofs.Members.{family_other, labels_joined}
use Rattle.yv_schema_tables.proofs.PickedTrees.{kids_sit, others_sit, passed_no_data, picked_sit}

-- P holds of one of these
abbrev pub Any : {X : Type 0} → List X → (X → Refusal → Type 0) → Refusal → Type 0
Any {X} xs P f = (k : ℕ) × (x : X) × (slice_get xs k ≡ Some x) × P x f

module _ {X : Type 0} where
  pub among_any : (xs : List X) (P : X → Refusal → Type 0) (n : ℕ) (f : Refusal) → Among xs (λ k. P) n f → Any xs P f
  among_any xs P n f h = (h.0, h.2, h.3, h.4)

  pub any_among : (xs : List X) (P : X → Refusal → Type 0) (n : ℕ) (f : Refusal) → length xs ≡ n → Any xs P f → Among xs (λ k. P) n f
  any_among xs P n f all h = (h.0, omega (arith, slice_get_within xs h.0 h.1 h.2, all), h.1, h.2, h.3)

  pub append_cases : (xs ys : List X) (k : ℕ) (x : X) → slice_get (xs ++ ys) k ≡ Some x → (slice_get xs k ≡ Some x) ⊎ ((j : ℕ) × (k ≡ length xs + j) × (slice_get ys j ≡ Some x))
  append_cases [] ys k x at = inr (k, omega arith, at)
  append_cases (y ∷ xs) ys zero x at = inl at
  append_cases (y ∷ xs) ys (suc k) x at = elim (append_cases xs ys k x at) [ inl h ↦ inl h | inr h ↦ inr (h.0, omega (arith, h.1), h.2) ]

  pub append_left : (xs ys : List X) (k : ℕ) (x : X) → slice_get xs k ≡ Some x → slice_get (xs ++ ys) k ≡ Some x
  append_left [] ys k x at = cc
  append_left (y ∷ xs) ys zero x at = at
  append_left (y ∷ xs) ys (suc k) x at = append_left xs ys k x at

  pub append_right : (xs ys : List X) (j k : ℕ) (x : X) → k ≡ length xs + j → slice_get ys j ≡ Some x → slice_get (xs ++ ys) k ≡ Some x
  append_right [] ys j k x e at = ap (slice_get ys) (omega (arith, e)) ∙ at
  append_right (y ∷ xs) ys j zero x e at = absurd (omega (arith, e))
  append_right (y ∷ xs) ys j (suc k) x e at = append_right xs ys j k x (omega (arith, e)) at

  pub each_in : (P : X → Type 0) (xs : List X) (k : ℕ) (x : X) → AllByRecursion P xs → slice_get xs k ≡ Some x → P x
  each_in P [] k x h at = cc
  each_in P (y ∷ xs) zero x h at = let same : y ≡ x = cc in subst P same h.0
  each_in P (y ∷ xs) (suc k) x h at = each_in P xs k x h.1 at

-- what holds of one of these, holds of one of those that are made of as much
pub any_map : {X Y Z : Type 0} (F : X → Y) (G : Z → Y) (xs : List X) (zs : List Z) (P : Y → Refusal → Type 0) (f : Refusal) → map F xs ≡ map G zs → Any xs (λ x. P (F x)) f → Any zs (λ z. P (G z)) f
any_map F G xs zs P f are h =
    let got = map_got G zs h.0 (F h.1) (ap (λ ys. slice_get ys h.0) (sym are) ∙ map_get F xs h.0 h.1 h.2) in
    (h.0, got.0, got.1, subst (λ y. P y f) (sym got.2) h.3)

-- a node is of one of these modules
abbrev pub IsOf : List Module → Label → Type 0
IsOf modules l = IsNamed modules l.module_file l.module_name

-- modules of one file or of one name are one
one_place : (modules : List Module) (h k : ℕ) (n m : List ℕ) → AreModules modules → (a : IsNamed modules h n) (b : IsNamed modules k m) → (a.place < b.place → ⊥) → (b.place < a.place → ⊥) → (h ≡ k) × (n ≡ m)
one_place modules h k n m apart a b no_less no_more =
    let here : a.place ≡ b.place = omega (arith, no_less, no_more) in
    let same : a.found ≡ b.found = same_Some a.found b.found (sym a.at ∙ ap (slice_get modules) here ∙ b.at) in
    (sym a.module_file_is ∙ ap (λ (x : Module). x.module_file) same ∙ b.module_file_is, sym a.name_is ∙ ap (λ (x : Module). x.name) same ∙ b.name_is)

pub one_name : (modules : List Module) (h k : ℕ) (n m : List ℕ) → AreModules modules → IsNamed modules h n → IsNamed modules k m → h ≡ k → n ≡ m
one_name modules h k n m apart a b same =
    (one_place modules h k n m apart a b (λ lt. apart.module_files a.place b.place a.found b.found lt a.at b.at (a.module_file_is ∙ same ∙ sym b.module_file_is))
    (λ lt. apart.module_files b.place a.place b.found a.found lt b.at a.at (b.module_file_is ∙ sym same ∙ sym a.module_file_is))).1

pub one_module_file : (modules : List Module) (h k : ℕ) (n m : List ℕ) → AreModules modules → IsNamed modules h n → IsNamed modules k m → n ≡ m → h ≡ k
one_module_file modules h k n m apart a b same =
    (one_place modules h k n m apart a b (λ lt. apart.names a.place b.place a.found b.found lt a.at b.at (a.name_is ∙ same ∙ sym b.name_is))
    (λ lt. apart.names b.place a.place b.found a.found lt b.at a.at (b.name_is ∙ sym same ∙ sym a.name_is))).0

-- no module's name has a colon
pub named_plain : (modules : List Module) (module_file : ℕ) (name : List ℕ) → AreModules modules → IsNamed modules module_file name → HasNoColon name
named_plain modules module_file name apart h = subst HasNoColon h.name_is (each_in (λ (m : Module). HasNoColon m.name) modules h.place h.found (recursion_from_All (λ (m : Module). HasNoColon m.name) modules apart.plain) h.at)

-- two of these nodes are alike, and the later is refused
pub record Pair (Alike : Label → Label → Type 0) (ls : List Label) (f : Refusal) : Type 0 where
  pub i : ℕ
  pub k : ℕ
  pub a : Label
  pub b : Label
  pub before : i < k
  pub at_i : slice_get ls i ≡ Some a
  pub at_k : slice_get ls k ≡ Some b
  pub alike : Alike a b
  pub is : f ≡ duplicate_at b

abbrev pub SameModuleFile : Label → Label → Type 0
SameModuleFile a b = (a.module_file ≡ b.module_file) × (a.defined.name ≡ b.defined.name)

abbrev pub SameBoth : Label → Label → Type 0
SameBoth a b = (a.module_name ≡ b.module_name) × (a.defined.name ≡ b.defined.name)

pub namesakes_pair : (ls : List Label) (f : Refusal) → Namesakes ls f → Pair SameModuleFile ls f
namesakes_pair ls f h = record { i = h.4.0.place; k = h.0; a = h.4.0.first; b = h.2; before = h.4.0.before; at_i = h.4.0.at; at_k = h.3; alike = (h.4.0.same_module, h.4.0.same_name); is = h.4.1 }

pub pair_namesakes : (ls : List Label) (f : Refusal) → Pair SameModuleFile ls f → Namesakes ls f
pair_namesakes ls f p = (p.k, slice_get_within ls p.k p.b p.at_k, p.b, p.at_k, (record { place = p.i; first = p.a; before = p.before; at = p.at_i; same_module = p.alike.0; same_name = p.alike.1 }, p.is))

pub repeated_pair : (ls : List Label) (f : Refusal) → HasRepeat ls f → Pair SameBoth ls f
repeated_pair ls f h =
    record { i = h.4.0.place; k = h.0; a = h.4.0.first; b = h.2; before = h.4.0.before; at_i = h.4.0.at; at_k = h.3; alike = (h.4.0.same_module, h.4.0.same_name); is = h.4.1 }

pub pair_repeated : (ls : List Label) (f : Refusal) → Pair SameBoth ls f → HasRepeat ls f
pair_repeated ls f p =
    (p.k, slice_get_within ls p.k p.b p.at_k, p.b, p.at_k, (record { place = p.i; first = p.a; before = p.before; at = p.at_i; same_module = p.alike.0; same_name = p.alike.1 }, p.is))

-- nodes of these modules that are alike by the numbers of their files are alike by their names, and
-- the other way round
pub by_names : (modules : List Module) (ls : List Label) (f : Refusal) → AreModules modules → AllByRecursion (IsOf modules) ls → Pair SameModuleFile ls f → Pair SameBoth ls f
by_names modules ls f apart are p =
    let a_of : IsOf modules p.a = each_in (IsOf modules) ls p.i p.a are p.at_i in
    let b_of : IsOf modules p.b = each_in (IsOf modules) ls p.k p.b are p.at_k in
    record { i = p.i; k = p.k; a = p.a; b = p.b; before = p.before; at_i = p.at_i; at_k = p.at_k; alike = (one_name modules p.a.module_file p.b.module_file p.a.module_name p.b.module_name apart a_of b_of p.alike.0, p.alike.1); is = p.is }

pub by_module_files : (modules : List Module) (ls : List Label) (f : Refusal) → AreModules modules → AllByRecursion (IsOf modules) ls → Pair SameBoth ls f → Pair SameModuleFile ls f
by_module_files modules ls f apart are p =
    let a_of : IsOf modules p.a = each_in (IsOf modules) ls p.i p.a are p.at_i in
    let b_of : IsOf modules p.b = each_in (IsOf modules) ls p.k p.b are p.at_k in
    record { i = p.i; k = p.k; a = p.a; b = p.b; before = p.before; at_i = p.at_i; at_k = p.at_k; alike = (one_module_file modules p.a.module_file p.b.module_file p.a.module_name p.b.module_name apart a_of b_of p.alike.0, p.alike.1); is = p.is }

pub namesakes_repeated : (modules : List Module) (ls : List Label) (f : Refusal) → AreModules modules → AllByRecursion (IsOf modules) ls → Namesakes ls f → HasRepeat ls f
namesakes_repeated modules ls f apart are h = pair_repeated ls f (by_names modules ls f apart are (namesakes_pair ls f h))

pub repeated_namesakes : (modules : List Module) (ls : List Label) (f : Refusal) → AreModules modules → AllByRecursion (IsOf modules) ls → HasRepeat ls f → Namesakes ls f
repeated_namesakes modules ls f apart are h = pair_namesakes ls f (by_module_files modules ls f apart are (repeated_pair ls f h))

-- those below a place whose names have to differ
abbrev pub family_at : Place → List Label
family_at p = family p.label.defined.kind p.kids

-- the families of the rows are those of the places
pub families_sit : (rows : List Row) (parent : NodeId) (above : List Label) (at : ℕ) (ts : Forest) → Sits rows at ts → map (family_in rows) (rows_below parent at ts) ≡ map family_at (places_below above ts)
families_sit rows parent above at no_trees h = refl
families_sit rows parent above at (tree (node l kids) ts) h =
    let own : NodeId = record { 0 = at } in
    let F : Row → List Label = family_in rows in
    let first : List Row = rows_below own (at + 1) kids in
    let rest : List Row = rows_below parent (at + 1 + count kids) ts in
    ap (λ (ts : Forest). family l.defined.kind ts ∷ map F (first ++ rest)) (picked_sit rows (at + 1) kids (kids_sit rows at l kids ts h))
    ∙ ap (λ (lss : List (List Label)). family l.defined.kind kids ∷ lss)
    (map-append F first rest
    ∙ ap (λ (lss : List (List Label)). lss ++ map F rest) (families_sit rows own (l ∷ above) (at + 1) kids (kids_sit rows at l kids ts h))
    ∙ ap (λ (lss : List (List Label)). map family_at (places_below (l ∷ above) kids) ++ lss) (families_sit rows parent above (at + 1 + count kids) ts (others_sit rows at l kids ts h))
    ∙ sym (map-append family_at (places_below (l ∷ above) kids) (places_below above ts)))

-- of nodes whose names have to differ those that are data nodes
abbrev pub kept : List Label → List Label
kept [] = []
kept (l ∷ ls) = cond (is_data l.defined.kind) (l ∷ kept ls) (kept ls)

kept_append : (ls ms : List Label) → kept (ls ++ ms) ≡ kept ls ++ kept ms
kept_append [] ms = refl
kept_append (l ∷ ls) ms = by (is_data l.defined.kind) (kept_append ls ms)
  where
    by : (b : Bool) → kept (ls ++ ms) ≡ kept ls ++ kept ms → cond b (l ∷ kept (ls ++ ms)) (kept (ls ++ ms)) ≡ cond b (l ∷ kept ls) (kept ls) ++ kept ms
    by true e = ap (λ (ks : List Label). l ∷ ks) e
    by false e = e

case_passed : (k : NodeKind) → is_passed k ≡ false → is_case k ≡ false
case_passed kind.Case h = absurd (false≢true (sym h))
case_passed _ h = refl

pub kept_opened : (ts : Forest) → labels (opened_trees ts) ≡ kept (names_that_differ ts)
kept_opened no_trees = refl
kept_opened (tree (node l kids) ts) =
    let here : List Label = cond (is_case l.defined.kind) [] (l ∷ []) in
    let inner : List Label = cond (is_passed l.defined.kind) (names_that_differ kids) [] in
    let own : Forest = cond (is_passed l.defined.kind) (opened_trees kids) (cond (is_data l.defined.kind) (tree (node l kids) no_trees) no_trees) in
    labels_joined own (opened_trees ts)
    ∙ ap (λ (ls : List Label). labels own ++ ls) (kept_opened ts)
    ∙ ap (λ (ls : List Label). ls ++ kept (names_that_differ ts)) (by (is_case l.defined.kind) (is_passed l.defined.kind) (is_data l.defined.kind) refl (case_passed l.defined.kind) (passed_no_data l.defined.kind) (kept_opened kids))
    ∙ sym (kept_append (here ++ inner) (names_that_differ ts) ∙ ap (λ (ks : List Label). ks ++ kept (names_that_differ ts)) (kept_append here inner))
  where
    by : (case passed of_data : Bool) → is_data l.defined.kind ≡ of_data → (passed ≡ false → case ≡ false) → (passed ≡ true → of_data ≡ false) → labels (opened_trees kids) ≡ kept (names_that_differ kids)
        → labels (cond passed (opened_trees kids) (cond of_data (tree (node l kids) no_trees) no_trees)) ≡ kept (cond case [] (l ∷ [])) ++ kept (cond passed (names_that_differ kids) [])
    by true true of_data e only apart inside = inside
    by false true true e only apart inside = absurd (false≢true (sym (apart refl)))
    by false true false e only apart inside = rw e inside
    by true false of_data e only apart inside = absurd (false≢true (sym (only refl)))
    by false false true e only apart inside = rw e refl
    by false false false e only apart inside = rw e refl

-- where two of the kept stand
kept_at : (ls : List Label) (k : ℕ) (a : Label) → slice_get (kept ls) k ≡ Some a → (j : ℕ) × (slice_get ls j ≡ Some a)
kept_at [] k a at = cc
kept_at (l ∷ ls) k a at = by (is_data l.defined.kind) k at (kept_at ls)
  where
    by : (b : Bool) (k : ℕ) → slice_get (cond b (l ∷ kept ls) (kept ls)) k ≡ Some a → ((k : ℕ) (a : Label) → slice_get (kept ls) k ≡ Some a → (j : ℕ) × (slice_get ls j ≡ Some a)) → (j : ℕ) × (slice_get (l ∷ ls) j ≡ Some a)
    by false k at later = let found = later k a at in (suc found.0, found.1)
    by true zero at later = (zero, at)
    by true (suc k) at later = let found = later k a at in (suc found.0, found.1)

abbrev TwoAt : List Label → Label → Label → Type 0
TwoAt ls a b = (i : ℕ) × (k : ℕ) × (i < k) × (slice_get ls i ≡ Some a) × (slice_get ls k ≡ Some b)

pub kept_two : (ls : List Label) (i k : ℕ) (a b : Label) → i < k → slice_get (kept ls) i ≡ Some a → slice_get (kept ls) k ≡ Some b → (i : ℕ) × (k : ℕ) × (i < k) × (slice_get ls i ≡ Some a) × (slice_get ls k ≡ Some b)
kept_two [] i k a b lt at_i at_k = cc
kept_two (l ∷ ls) i k a b lt at_i at_k = by (is_data l.defined.kind) i k lt at_i at_k (λ i k. kept_two ls i k a b) (kept_at ls)
  where
    by : (c : Bool) (i k : ℕ) → i < k → slice_get (cond c (l ∷ kept ls) (kept ls)) i ≡ Some a → slice_get (cond c (l ∷ kept ls) (kept ls)) k ≡ Some b
        → ((i k : ℕ) → i < k → slice_get (kept ls) i ≡ Some a → slice_get (kept ls) k ≡ Some b → TwoAt ls a b)
        → ((k : ℕ) (a : Label) → slice_get (kept ls) k ≡ Some a → (j : ℕ) × (slice_get ls j ≡ Some a)) → TwoAt (l ∷ ls) a b
    by false i k lt at_i at_k later one = let h = later i k lt at_i at_k in (suc h.0, suc h.1, omega (arith, h.2), h.3, h.4)
    by true i zero lt at_i at_k later one = absurd (omega (arith, lt))
    by true zero (suc k) lt at_i at_k later one = let h = one k b at_k in (zero, suc h.0, omega arith, at_i, h.1)
    by true (suc i) (suc k) lt at_i at_k later one = let h = later i k (omega (arith, lt)) at_i at_k in (suc h.0, suc h.1, omega (arith, h.2), h.3, h.4)

-- no two of these have one member
abbrev pub AreDistinct : List Label → Type 0
AreDistinct ls = (i k : ℕ) (a b : Label) → i < k → slice_get ls i ≡ Some a → slice_get ls k ≡ Some b → a.member ≢ b.member

choice_passed : (k : NodeKind) → is_passed k ≡ false → is_choice k ≡ false
choice_passed kind.Choice h = absurd (false≢true (sym h))
choice_passed _ h = refl

-- below a node that is no choice or case
pub family_plain : (k : NodeKind) (kids : Forest) → is_passed k ≡ false → family k kids ≡ names_that_differ kids
family_plain k kids h = family_other k kids (choice_passed k h) (case_passed k h)

pub kept_each : (P : Label → Type 0) (ls : List Label) → AllByRecursion P ls → AllByRecursion P (kept ls)
kept_each P [] h = tt
kept_each P (l ∷ ls) h = by (is_data l.defined.kind) (kept_each P ls h.1)
  where
    by : (b : Bool) → AllByRecursion P (kept ls) → AllByRecursion P (cond b (l ∷ kept ls) (kept ls))
    by true k = (h.0, k)
    by false k = k
