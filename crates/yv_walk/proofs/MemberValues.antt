-- The values of an object's members, one more member at a time.
use Rattle.std.proofs.Common.{◌≡◌, ℕ, ◌==◌, Bool, true, false, cond, List, Option, None, Some, refl, sym, ◌∙◌, ap, eqb-true, eq-eqb}
use Rattle.std.specs.Option.{option_map}
use Rattle.std.specs.Str.{bytes_eq}
use Rattle.std.proofs.lemmas.Bool.{false≢true}
use Rattle.std.proofs.lemmas.Option.{same_Some}
use Rattle.std.proofs.lemmas.Slice.Eq.{bytes_eq-Decides}
use Rattle.serde_json.specs.Data.{Members, no_members, member}
use Rattle.serde_json.specs.Find.{get_member}
use Rattle.yv_nodes.specs.declared.node.NodeId.{NodeId}
use Rattle.yv_nodes.specs.Rows.{Rows, row_at}
use Rattle.yv_schema_tables.specs.Sound.{member_named, inside, IsFound}
use Rattle.std.specs.Ordering.{nat_cmp}
use Rattle.std.specs.BTreeMap.{BTreeMap, UpdatesBy, get_by}
use Rattle.serde_json.specs.Data.{Data}
use Rattle.serde_json.specs.View.{view}
use Rattle.serde_json.specs.declared.value.Value.{Value}
use denote.Ref.{Bor}
use Rattle.yv_walk.specs.WrittenValues.{first_of, keep_first}
use Rattle.yv_walk.proofs.Joins.{one_number}
use Rattle.yv_walk.proofs.MemberNodes.{named_member}
use Rattle.yv_walk.proofs.Single.{get_first}
use Rattle.yv_walk.proofs.Steps.{is_eq_nat}

-- each node that is found in the object of a node has the value of its member here, or else among
-- the members that are left
abbrev pub AreHeld : Rows → NodeId → (ℕ → Option Data) → Members → Members → Type 0
AreHeld s p values left all =
    (c : NodeId) → IsFound s p c → first_of (values c.0) (get_member (row_at s c).label.member left) ≡ get_member (row_at s c).label.member all

abbrev pub seen_at : BTreeMap ℕ (Bor Value) → ℕ → Option Data
seen_at m n = option_map (λ v. view v.now) (get_by (nat_cmp n) m)

chosen : (b : Bool) (v : Bor Value) (x : Option (Bor Value)) → (b ≡ true → option_map (λ (y : Bor Value). view y.now) x ≡ None)
    → option_map (λ (y : Bor Value). view y.now) (cond b (Some v) x) ≡ first_of (option_map (λ (y : Bor Value). view y.now) x) (cond b (Some (view v.now)) None)
chosen true v x h = ap (λ o. first_of o (Some (view v.now))) (sym (h refl))
chosen false v None h = refl
chosen false v (Some y) h = refl

-- a value at a number that had none
pub kept_new : (old new : BTreeMap ℕ (Bor Value)) (number : ℕ) (v : Bor Value) → seen_at old number ≡ None
    → UpdatesBy nat_cmp (λ k. nat_cmp number k) old new (Some v) → (n : ℕ) → seen_at new n ≡ keep_first (seen_at old) number (view v.now) n
kept_new old new number v none u n =
    ap (option_map (λ (y : Bor Value). view y.now)) (u.0 n ∙ ap (λ b. cond b (Some v) (get_by (nat_cmp n) old)) (is_eq_nat number n))
    ∙ chosen (number == n) v (get_by (nat_cmp n) old) (λ e. ap (seen_at old) (sym (eqb-true number n e)) ∙ none)

stays : (b : Bool) (d : Data) (x : Option Data) → (b ≡ true → (y : Data) × (x ≡ Some y)) → x ≡ first_of x (cond b (Some d) None)
stays true d None h = absurd (let e = (h refl).1 in cc)
stays true d (Some y) h = refl
stays false d None h = refl
stays false d (Some y) h = refl

-- a number that has a value keeps it
pub kept_old : (values : ℕ → Option Data) (number : ℕ) (d y : Data) → values number ≡ Some y → (n : ℕ) → values n ≡ keep_first values number d n
kept_old values number d y some n = stays (number == n) d (values n) (λ e. (y, ap values (sym (eqb-true number n e)) ∙ some))

first_none : (a : Option Data) → first_of a None ≡ a
first_none None = refl
first_none (Some x) = refl

first_first : (a b : Option Data) (d : Data) → first_of (first_of a (Some d)) b ≡ first_of a (Some d)
first_first None b d = refl
first_first (Some x) b d = refl

step_found : (values : Option Data) (d : Data) (rest all : Option Data) (here same : Bool)
    → (here ≡ true → same ≡ true) → (same ≡ true → here ≡ true) → first_of values (cond here (Some d) rest) ≡ all
    → first_of (first_of values (cond same (Some d) None)) rest ≡ all
step_found values d rest all true true f g h = first_first values rest d ∙ h
step_found values d rest all true false f g h = absurd (false≢true (f refl))
step_found values d rest all false true f g h = absurd (false≢true (g refl))
step_found values d rest all false false f g h = ap (λ a. first_of a rest) (first_none values) ∙ h

-- one more member, which names a child
pub holds_found : (s : Rows) (p : NodeId) (old new : ℕ → Option Data) (key : List ℕ) (d : Data) (rest all : Members) (id : NodeId)
    → member_named s (inside s p) key ≡ Some id → ((n : ℕ) → new n ≡ keep_first old id.0 d n)
    → AreHeld s p old (member key d rest) all → AreHeld s p new rest all
holds_found s p old new key d rest all id is keeps held c found =
    let m = (row_at s c).label.member in
    ap (λ a. first_of a (get_member m rest)) (keeps c.0)
    ∙ step_found (old c.0) d (get_member m rest) (get_member m all) (bytes_eq m key) (id.0 == c.0)
    (λ e. let one : Some id ≡ Some c = sym is ∙ ap (member_named s (inside s p)) (sym ((bytes_eq-Decides m key).0 e)) ∙ found in
    eq-eqb id.0 c.0 (ap (λ (n : NodeId). n.0) (same_Some id c one)))
    (λ e. (bytes_eq-Decides m key).1 (ap (λ (n : NodeId). (row_at s n).label.member) (sym (one_number id c (eqb-true id.0 c.0 e))) ∙ named_member s (inside s p) key id is))
    (ap (first_of (old c.0)) (sym (get_first m key d rest)) ∙ held c found)

-- one more member, which names none
pub holds_unknown : (s : Rows) (p : NodeId) (values : ℕ → Option Data) (key : List ℕ) (d : Data) (rest all : Members)
    → member_named s (inside s p) key ≡ None → AreHeld s p values (member key d rest) all → AreHeld s p values rest all
holds_unknown s p values key d rest all is held c found =
    let m = (row_at s c).label.member in
    let other : (b : Bool) → bytes_eq m key ≡ b → first_of (values c.0) (cond b (Some d) (get_member m rest)) ≡ get_member m all → first_of (values c.0) (get_member m rest) ≡ get_member m all
    = λ b. elim b as (λ b. bytes_eq m key ≡ b → first_of (values c.0) (cond b (Some d) (get_member m rest)) ≡ get_member m all → first_of (values c.0) (get_member m rest) ≡ get_member m all) [
      | true ↦ λ e h. absurd (let one : None ≡ Some c = sym is ∙ ap (member_named s (inside s p)) (sym ((bytes_eq-Decides m key).0 e)) ∙ found in cc)
      | false ↦ λ e h. h
    ] in
    other (bytes_eq m key) refl (ap (first_of (values c.0)) (sym (get_first m key d rest)) ∙ held c found)

-- no values at first
pub holds_none : (s : Rows) (p : NodeId) (values : ℕ → Option Data) (all : Members) → ((n : ℕ) → values n ≡ None) → AreHeld s p values all all
holds_none s p values all none c found = ap (λ a. first_of a (get_member (row_at s c).label.member all)) (none c.0)

-- at the end each child has the value of its member
pub held_at : (s : Rows) (p : NodeId) (values : ℕ → Option Data) (all : Members) (c : NodeId) → AreHeld s p values no_members all → IsFound s p c
    → values c.0 ≡ get_member (row_at s c).label.member all
held_at s p values all c held found = sym (first_none (values c.0)) ∙ held c found
