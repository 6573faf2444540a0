-- The items that steps come to.
use Rattle.std.proofs.Common.{◌≡◌, ℕ, ◌+◌, ◌<◌, ◌&&◌, ◌==◌, nat_lt, not, Bool, true, false, if◌then◌else◌, List, [], ◌∷◌, Option, None, Some, refl, sym, ◌∙◌, ap, subst, eq-eqb, eqb-true}
use Rattle.std.specs.List.{slice_get}
use Rattle.std.specs.Option.{option_map, option_or}
use Rattle.std.proofs.lemmas.Bool.{ltb-true}
use Rattle.std.proofs.lemmas.Option.{same_Some}
use Rattle.yv_expand_rounds.specs.declared.label.Label.{Label}
use Rattle.yv_expand_rounds.specs.declared.end.End.{End}
use Rattle.yv_expand_rounds.specs.declared.end.End.TheVariants as end
use Rattle.yv_expand_rounds.specs.Groups.{Groups, members_of}
use Rattle.yv_expand_rounds.specs.Labels.{is_named, is_some_named}
use Rattle.yv_expand_statements.specs.Kinds.{is_node}
use Rattle.yv_expand_rounds.specs.Paths.{end_at, before, first_named, is_shorthand, least, step_end}
use Rattle.yv_expand_rounds.specs.Order.{is_given}
use Rattle.yv_expand_rounds.specs.InnerArrivals.{AreMet, IsAmong, is_at}
use Rattle.yv_expand_rounds.specs.InnerGroups.{HaveBefore}
use Rattle.yv_expand_rounds.proofs.Least.{StandsAndPasses, first_part, given, least_stands, own}

-- the first of a name is a node of this name
first_stands : (labels : List Label) (name : ℕ) (items : List ℕ) (i : ℕ) → first_named labels name items ≡ Some i → StandsAndPasses (is_named labels name) items i
first_stands labels name items i h = named (least (own labels name) items) (least (given labels name) items) refl refl h
  where
    named : (a b : Option ℕ) → least (own labels name) items ≡ a → least (given labels name) items ≡ b → option_or a b ≡ Some i → StandsAndPasses (is_named labels name) items i
    named (Some j) b first rest is =
        let s = least_stands (own labels name) items i (first ∙ is) in
        (s.0, s.1, first_part (is_named labels name i) (not (is_given labels i)) s.2)
    named None b first rest is =
        let s = least_stands (given labels name) items i (rest ∙ is) in
        (s.0, s.1, first_part (is_named labels name i) (is_given labels i) s.2)

answered_by : (f : ℕ → End) (limit i : ℕ) (next : End) (b : Bool) → nat_lt i limit ≡ b → option_map f (if b then Some i else None) ≡ Some next → (i < limit) × (f i ≡ next)
answered_by f limit i next true test h = (ltb-true i limit test, same_Some (f i) next h)
answered_by f limit i next false test h = absurd (let bad : None ≡ Some next = h in cc)

-- what answers a step is a node of the group before the limit
pub answered_is : (labels : List Label) (name : ℕ) (items : List ℕ) (f : ℕ → End) (limit : ℕ) (next : End) (o : Option ℕ) → first_named labels name items ≡ o
    → option_map f (before limit o) ≡ Some next → (i : ℕ) × StandsAndPasses (is_named labels name) items i × (i < limit) × (f i ≡ next)
answered_is labels name items f limit next None is h = absurd (let bad : None ≡ Some next = h in cc)
answered_is labels name items f limit next (Some i) is h =
    let a = answered_by f limit i next (nat_lt i limit) refl h in
    (i, first_stands labels name items i is, a.0, a.1)

at_either : (j : ℕ) (b : Bool) → is_at (if b then end.ShorthandCase j else end.Node j) j ≡ true
at_either j true = eq-eqb j j refl
at_either j false = eq-eqb j j refl

at_arrived : (labels : List Label) (i j : ℕ) → is_at (end_at labels i j) j ≡ true
at_arrived labels i j = at_either j (is_shorthand (slice_get labels i) (slice_get labels j))

-- a path comes to one item
one_item : (e : End) (i j : ℕ) → is_at e i ≡ true → is_at e j ≡ true → i ≡ j
one_item (end.Start g) i j h k = absurd (let bad : false ≡ true = h in cc)
one_item (end.Node n) i j h k = sym (eqb-true n i h) ∙ eqb-true n j k
one_item (end.ShorthandCase n) i j h k = sym (eqb-true n i h) ∙ eqb-true n j k

-- members of a group that may answer a step
met_in : (labels : List Label) (groups : Groups) (limit group : ℕ) (items : List ℕ) (f : ℕ → End) → ((i : ℕ) → is_at (f i) i ≡ true)
    → HaveBefore (members_of groups group) limit items → (name : ℕ) (next : End)
    → option_map f (before limit (first_named labels name (members_of groups group))) ≡ Some next → IsAmong items next
met_in labels groups limit group items f at have name next h =
    let a = answered_is labels name (members_of groups group) f limit next (first_named labels name (members_of groups group)) refl h in
    let found = have a.1.0 a.0 a.1.1 a.2 in
    record { place = found.0; item = a.0; at = found.1; is = subst (λ (e : End). is_at e a.0 ≡ true) a.3 (at a.0) }

pub met_from_start : (labels : List Label) (groups : Groups) (limit group : ℕ) (items : List ℕ) → HaveBefore (members_of groups group) limit items
    → AreMet labels groups limit (end.Start group) items
met_from_start labels groups limit group items have = met_in labels groups limit group items (λ j. end.Node j) (λ j. eq-eqb j j refl) have

pub met_from_node : (labels : List Label) (groups : Groups) (limit i : ℕ) (items : List ℕ) → HaveBefore (members_of groups (i + 1)) limit items
    → AreMet labels groups limit (end.Node i) items
met_from_node labels groups limit i items have = met_in labels groups limit (i + 1) items (end_at labels i) (at_arrived labels i) have

own_node : (j : ℕ) (next : End) (b : Bool) → (if b then Some (end.Node j) else None) ≡ Some next → IsAmong (j ∷ []) next
own_node j next true h = record { place = 0; item = j; at = refl; is = subst (λ (e : End). is_at e j ≡ true) (same_Some (end.Node j) next h) (eq-eqb j j refl) }
own_node j next false h = absurd (let bad : None ≡ Some next = h in cc)

-- at a case that is left out its own node alone answers
pub met_from_case : (labels : List Label) (groups : Groups) (limit j : ℕ) → AreMet labels groups limit (end.ShorthandCase j) (j ∷ [])
met_from_case labels groups limit j name next h = own_node j next (is_named labels name j) h

both_parts : (a b : Bool) → (a && b) ≡ true → b ≡ true
both_parts true b h = h
both_parts false b h = absurd (let bad : false ≡ true = h in cc)

named_label : (name : ℕ) (o : Option Label) → is_some_named name o ≡ true → (l : Label) × (o ≡ Some l) × (l.name ≡ name)
named_label name None h = absurd (let bad : false ≡ true = h in cc)
named_label name (Some l) h = (l, refl, eqb-true l.name name (both_parts (is_node l.kind) (l.name == name) h))

passes_there : (labels : List Label) (groups : Groups) (limit group item name : ℕ) (f : ℕ → End) (next : End) → ((i : ℕ) → is_at (f i) i ≡ true) → is_at next item ≡ true
    → option_map f (before limit (first_named labels name (members_of groups group))) ≡ Some next → is_named labels name item ≡ true
passes_there labels groups limit group item name f next at is h =
    let a = answered_is labels name (members_of groups group) f limit next (first_named labels name (members_of groups group)) refl h in
    let here : is_at next a.0 ≡ true = subst (λ (e : End). is_at e a.0 ≡ true) a.3 (at a.0) in
    subst (λ (n : ℕ). is_named labels name n ≡ true) (one_item next a.0 item here is) a.1.2

passes_own : (labels : List Label) (name j item : ℕ) (next : End) (b : Bool) → is_named labels name j ≡ b → is_at next item ≡ true → (if b then Some (end.Node j) else None) ≡ Some next
    → is_named labels name item ≡ true
passes_own labels name j item next true test is h =
    let same : j ≡ item = eqb-true j item (ap (λ (e : End). is_at e item) (same_Some (end.Node j) next h) ∙ is) in
    subst (λ (n : ℕ). is_named labels name n ≡ true) same test
passes_own labels name j item next false test is h = absurd (let bad : None ≡ Some next = h in cc)

-- the item that a step comes to has the step's name
passes : (labels : List Label) (groups : Groups) (limit : ℕ) (e next : End) (item name : ℕ) → step_end labels groups limit e name ≡ Some next → is_at next item ≡ true
    → is_named labels name item ≡ true
passes labels groups limit (end.Start g) next item name h is = passes_there labels groups limit g item name (λ j. end.Node j) next (λ j. eq-eqb j j refl) is h
passes labels groups limit (end.Node i) next item name h is = passes_there labels groups limit (i + 1) item name (end_at labels i) next (at_arrived labels i) is h
passes labels groups limit (end.ShorthandCase j) next item name h is = passes_own labels name j item next (is_named labels name j) refl is h

met_label : (labels : List Label) (groups : Groups) (limit : ℕ) (e next : End) (item name : ℕ) → step_end labels groups limit e name ≡ Some next → is_at next item ≡ true
    → (l : Label) × (slice_get labels item ≡ Some l) × (l.name ≡ name)
met_label labels groups limit e next item name h is = named_label name (slice_get labels item) (passes labels groups limit e next item name h is)

-- the step is the name of the item that it comes to
pub met_name : (labels : List Label) (groups : Groups) (limit : ℕ) (e next : End) (item name : ℕ) → step_end labels groups limit e name ≡ Some next → is_at next item ≡ true
    → option_map (λ (l : Label). l.name) (slice_get labels item) ≡ Some name
met_name labels groups limit e next item name h is =
    let m = met_label labels groups limit e next item name h is in
    ap (option_map (λ (l : Label). l.name)) m.1 ∙ ap Some m.2
