-- Which node a member names, in the object itself and in each of its choices and cases.
use Rattle.std.proofs.Common.{nat_lt, ◌≡◌, ℕ, ◌+◌, ◌==◌, ◌&&◌, ◌<◌, ◌≤◌, length, List, [], ◌∷◌, ◌++◌, Bool, true, false, cond, Option, Some, None, ◌⊎◌, inl, inr, refl, sym, ap, ◌∙◌, eqb-true, eq-eqb, subst, arith, ◌||◌}
use Rattle.std.proofs.lemmas.Bool.{cases_Bool, false≢true}
use Rattle.std.proofs.lemmas.Bool.Decides.{nat_tests}
use Rattle.std.proofs.lemmas.List.{get_or_past}
use Rattle.std.proofs.lemmas.List.Elements.{recursion_from_All}
use Rattle.std.proofs.lemmas.Option.{same_Some}
use Rattle.std.proofs.lemmas.Slice.Eq.{bytes_eq-Decides}
use Rattle.std.specs.List.{AllByRecursion}
use Rattle.std.specs.Str.{bytes_eq}
use Rattle.yv_node_content.specs.Kinds.{is_data, is_passed}
use Rattle.yv_nodes.specs.declared.node.NodeId.{NodeId}
use Rattle.yv_nodes.specs.Tree.{count, Forest, no_trees, node, tree}
use Rattle.yv_nodes.specs.Rows.{Row, Rows, below, blank_row, children_of, forest, is_root, rank, row_at}
use Rattle.yv_schema_tables.specs.DataChildren.{opened_from}
use Rattle.yv_schema_tables.specs.Sound.{IsFound, IsSound, inside, is_object, member_named}
use Rattle.yv_walk.specs.Existence.{holds, passes, stands_in}
use Rattle.yv_walk.specs.MemberNodes.{AreNamed, AreUnnamed}
use Rattle.yv_walk.proofs.Above.{held_within, inner_row, rank_within}
use Rattle.yv_walk.proofs.Bools.{and_true, data_not_passed, is_false, or_true, same_bool}
use Rattle.yv_walk.proofs.Joins.{one_number}
use Rattle.yv_walk.proofs.TreesInSchema.{IsIn, Sits, above_of, in_left, in_right, kids_below, kids_sit, numbered, others_sit, passes_first, rank_first, room_of, row_first, row_same}

-- ---- the numbers of opened trees

opened_own : (x : NodeId) (passed met : Bool) (inner rest : List NodeId) → passed ≡ false → met ≡ true → IsIn x (cond passed inner (cond met (x ∷ []) []) ++ rest)
opened_own x true met inner rest e f = absurd (false≢true (sym e))
opened_own x false true inner rest e f = inl refl
opened_own x false false inner rest e f = absurd (false≢true f)

opened_inner : (x : NodeId) (passed : Bool) (inner own rest : List NodeId) → passed ≡ true → IsIn x inner → IsIn x (cond passed inner own ++ rest)
opened_inner x true inner own rest e h = in_left x inner rest h
opened_inner x false inner own rest e h = absurd (false≢true e)

-- a data node that is held is among them
pub held_opened : (s : Rows) (p : NodeId) (at : ℕ) (ts : Forest) (x : NodeId) → Sits s p at ts → is_data (row_at s x).label.defined.kind ≡ true
    → holds at ts x ≡ true → IsIn x (opened_from at ts)
held_opened s p at no_trees x h met e = absurd (false≢true e)
held_opened s p at (tree (node l kids) ts) x h met e =
    let k = l.defined.kind in
    let rest = opened_from (at + 1 + count kids) ts in
    elim (or_true ((at == x.0) || (is_passed k && holds (at + 1) kids x)) (holds (at + 1 + count kids) ts x) e) [
      | inl f ↦ elim (or_true (at == x.0) (is_passed k && holds (at + 1) kids x) f) [
        | inl g ↦
            let same : at ≡ x.0 = eqb-true at x.0 g in
            let own : is_data k ≡ true = sym (ap (λ (r : Row). is_data r.label.defined.kind) (row_same s p at l kids ts h x same)) ∙ met in
            subst (λ (n : NodeId). IsIn n (opened_from at (tree (node l kids) ts))) (one_number (numbered at) x same)
            (opened_own (numbered at) (is_passed k) (is_data k) (opened_from (at + 1) kids) rest (data_not_passed k own) own)
        | inr g ↦
            let b = and_true (is_passed k) (holds (at + 1) kids x) g in
            opened_inner x (is_passed k) (opened_from (at + 1) kids) (cond (is_data k) (numbered at ∷ []) []) rest b.0
            (held_opened s (numbered at) (at + 1) kids x (kids_sit s p at l kids ts h) met b.1)
      ]
      | inr f ↦ in_right x (cond (is_passed k) (opened_from (at + 1) kids) (cond (is_data k) (numbered at ∷ []) [])) rest
          (held_opened s p (at + 1 + count kids) ts x (others_sit s p at l kids ts h) met f)
    ]

-- those of a choice or case are among those of the trees around it
pub inner_opened : (s : Rows) (p : NodeId) (at : ℕ) (ts : Forest) (a x : NodeId) → Sits s p at ts → passes s a ≡ true → holds at ts a ≡ true
    → IsIn x (opened_from (rank a) (below s a)) → IsIn x (opened_from at ts)
inner_opened s p at no_trees a x h pass e i = absurd (false≢true e)
inner_opened s p at (tree (node l kids) ts) a x h pass e i =
    let k = l.defined.kind in
    let rest = opened_from (at + 1 + count kids) ts in
    let own = cond (is_data k) (numbered at ∷ []) [] in
    elim (or_true ((at == a.0) || (is_passed k && holds (at + 1) kids a)) (holds (at + 1 + count kids) ts a) e) [
      | inl f ↦ elim (or_true (at == a.0) (is_passed k && holds (at + 1) kids a) f) [
        | inl g ↦
            let same : at ≡ a.0 = eqb-true at a.0 g in
            opened_inner x (is_passed k) (opened_from (at + 1) kids) own rest (sym (passes_first s p at l kids ts h a same) ∙ pass)
            (subst (λ (n : ℕ). IsIn x (opened_from n kids)) (rank_first s p at l kids ts h a same)
            (subst (λ (us : Forest). IsIn x (opened_from (rank a) us)) (kids_below s p at l kids ts h a same) i))
        | inr g ↦
            let b = and_true (is_passed k) (holds (at + 1) kids a) g in
            opened_inner x (is_passed k) (opened_from (at + 1) kids) own rest b.0
            (inner_opened s (numbered at) (at + 1) kids a x (kids_sit s p at l kids ts h) pass b.1 i)
      ]
      | inr f ↦ in_right x (cond (is_passed k) (opened_from (at + 1) kids) own) rest
          (inner_opened s p (at + 1 + count kids) ts a x (others_sit s p at l kids ts h) pass f i)
    ]

-- ---- what they are called

naming : (s : Rows) (key : List ℕ) (n : NodeId) (p : NodeId) (at : ℕ) (ts : Forest) → Sits s p at ts → is_data (row_at s n).label.defined.kind ≡ true
    → ((c : NodeId) → IsIn c (opened_from at ts) → bytes_eq (row_at s c).label.member key ≡ (c.0 == n.0)) → AreNamed key n (row_at s n).label.defined.kind at ts
naming s key n p at no_trees h met called = tt
naming s key n p at (tree (node l kids) ts) h met called =
    let k = l.defined.kind in
    let rest = opened_from (at + 1 + count kids) ts in
    let own = cond (is_data k) (numbered at ∷ []) [] in (
      record {
        called = λ e. sym (ap (λ (r : Row). bytes_eq r.label.member key) (row_first s p at l kids ts h))
            ∙ called (numbered at) (opened_own (numbered at) (is_passed k) (is_data k) (opened_from (at + 1) kids) rest (data_not_passed k e) e);
        met = λ e. sym (ap (λ (r : Row). is_data r.label.defined.kind) (row_same s p at l kids ts h n e)) ∙ met;
        alike = λ e. sym (ap (λ (r : Row). r.label.defined.kind) (row_same s p at l kids ts h n e));
      },
      λ passed. naming s key n (numbered at) (at + 1) kids (kids_sit s p at l kids ts h) met
          (λ c i. called c (opened_inner c (is_passed k) (opened_from (at + 1) kids) own rest passed i)),
      naming s key n p (at + 1 + count kids) ts (others_sit s p at l kids ts h) met
          (λ c i. called c (in_right c (cond (is_passed k) (opened_from (at + 1) kids) own) rest i)),
    )

unnaming : (s : Rows) (key : List ℕ) (p : NodeId) (at : ℕ) (ts : Forest) → Sits s p at ts
    → ((c : NodeId) → IsIn c (opened_from at ts) → bytes_eq (row_at s c).label.member key ≡ false) → AreUnnamed key ts
unnaming s key p at no_trees h called = tt
unnaming s key p at (tree (node l kids) ts) h called =
    let k = l.defined.kind in
    let rest = opened_from (at + 1 + count kids) ts in
    let own = cond (is_data k) (numbered at ∷ []) [] in (
      λ e. sym (ap (λ (r : Row). bytes_eq r.label.member key) (row_first s p at l kids ts h))
          ∙ called (numbered at) (opened_own (numbered at) (is_passed k) (is_data k) (opened_from (at + 1) kids) rest (data_not_passed k e) e),
      λ passed. unnaming s key (numbered at) (at + 1) kids (kids_sit s p at l kids ts h)
          (λ c i. called c (opened_inner c (is_passed k) (opened_from (at + 1) kids) own rest passed i)),
      unnaming s key p (at + 1 + count kids) ts (others_sit s p at l kids ts h)
          (λ c i. called c (in_right c (cond (is_passed k) (opened_from (at + 1) kids) own) rest i)),
    )

-- ---- by what is found

all_in : (P : NodeId → Type 0) (cs : List NodeId) (c : NodeId) → AllByRecursion P cs → IsIn c cs → P c
all_in P [] c h i = absurd i
all_in P (d ∷ ds) c h (inl e) = subst P (sym e) h.0
all_in P (d ∷ ds) c h (inr i) = all_in P ds c h.1 i

-- each node in an object is found by its member
pub found_in : (s : Rows) (p c : NodeId) → IsSound s → rank p ≤ length s.nodes → IsIn c (inside s p) → IsFound s p c
found_in s p c sound le i = all_in (IsFound s p) (inside s p) c (recursion_from_All (IsFound s p) (inside s p) (sound.found p le)) i

named_first : (b : Bool) (c id : NodeId) (rest : Option NodeId) → cond b (Some c) rest ≡ Some id → ((b ≡ true) × (c ≡ id)) ⊎ (rest ≡ Some id)
named_first true c id rest e = inl (refl, same_Some c id e)
named_first false c id rest e = inr e

-- a node that is found by a name is called so
pub named_member : (s : Rows) (cs : List NodeId) (key : List ℕ) (id : NodeId) → member_named s cs key ≡ Some id → (row_at s id).label.member ≡ key
named_member s [] key id e = absurd (let f : None ≡ Some id = e in cc)
named_member s (c ∷ cs) key id e =
    elim (named_first (bytes_eq (row_at s c).label.member key) c id (member_named s cs key) e) [
      | inl h ↦ ap (λ n. (row_at s n).label.member) (sym h.1) ∙ (bytes_eq-Decides (row_at s c).label.member key).0 h.0
      | inr h ↦ named_member s cs key id h
    ]

-- a node in the object is called so where it is the one that is found
called_found : (s : Rows) (p : NodeId) (key : List ℕ) (id c : NodeId) → member_named s (inside s p) key ≡ Some id → IsFound s p c
    → bytes_eq (row_at s c).label.member key ≡ (c.0 == id.0)
called_found s p key id c is found =
    let m = (row_at s c).label.member in
    same_bool (bytes_eq m key) (c.0 == id.0)
    (λ e. let one : Some c ≡ Some id = sym found ∙ ap (member_named s (inside s p)) ((bytes_eq-Decides m key).0 e) ∙ is in
    eq-eqb c.0 id.0 (ap (λ (n : NodeId). n.0) (same_Some c id one)))
    (λ e. (bytes_eq-Decides m key).1 (ap (λ (n : NodeId). (row_at s n).label.member) (one_number c id (eqb-true c.0 id.0 e)) ∙ named_member s (inside s p) key id is))

called_none : (s : Rows) (p : NodeId) (key : List ℕ) (c : NodeId) → member_named s (inside s p) key ≡ None → IsFound s p c → bytes_eq (row_at s c).label.member key ≡ false
called_none s p key c is found =
    let m = (row_at s c).label.member in
    is_false (bytes_eq m key) (λ e. let one : None ≡ Some c = sym is ∙ ap (member_named s (inside s p)) (sym ((bytes_eq-Decides m key).0 e)) ∙ found in cc)

-- ---- in an object

-- a node that stands in the object of p
pub record IsHeld (s : Rows) (p x : NodeId) : Type 0 where
  pub sit : Sits s p (rank p) (below s p)
  pub object : is_object s p ≡ true
  pub held : holds (rank p) (below s p) x ≡ true
  pub within : rank x ≤ length s.nodes

-- only what is in the schema holds nodes
rank_held : (s : Rows) (p x : NodeId) → holds (rank p) (below s p) x ≡ true → rank p ≤ length s.nodes
rank_held s p x e =
    elim (cases_Bool (is_root p)) [
      | inl f ↦
          let top : rank p ≡ 0 = ap (λ (b : Bool). cond b 0 (p.0 + 1)) f in
          omega (arith, top)
      | inr f ↦ elim (cases_Bool (nat_lt p.0 (length s.nodes))) [
        | inl g ↦
            let lt : p.0 < length s.nodes = grind (arith, nat_tests) in
            rank_within s p lt
        | inr g ↦
            let past : length s.nodes ≤ p.0 = grind (arith, nat_tests) in
            let none : children_of s p ≡ [] = ap (λ (b : Bool). cond b s.top (row_at s p).children) f
            ∙ ap (λ (r : Row). r.children) (get_or_past s.nodes p.0 blank_row past) in
            absurd (false≢true (sym (ap (λ (cs : List NodeId). holds (rank p) (forest s cs) x) none) ∙ e))
      ]
    ]

pub is_held : (s : Rows) (p x : NodeId) → IsSound s → stands_in s p x ≡ true → IsHeld s p x
is_held s p x sound e =
    let b = and_true (is_object s p) (holds (rank p) (below s p) x) e in
    let le = rank_held s p x b.1 in
    let sit = (above_of s p sound le).sit in
    let to = held_within (rank p) (below s p) x b.1 in
    record {
      sit = sit;
      object = b.0;
      held = b.1;
      within = rank_within s x (omega (arith, to.1, room_of s p (rank p) (below s p) sit));
    }

opened_inside : (b : Bool) (xs : List NodeId) (c : NodeId) → b ≡ true → IsIn c xs → IsIn c (cond b xs [])
opened_inside true xs c e i = i
opened_inside false xs c e i = absurd (false≢true e)

-- a data node is among those that members name
pub data_inside : (s : Rows) (p x : NodeId) → IsHeld s p x → is_data (row_at s x).label.defined.kind ≡ true → IsIn x (inside s p)
data_inside s p x h met = opened_inside (is_object s p) (opened_from (rank p) (below s p)) x h.object (held_opened s p (rank p) (below s p) x h.sit met h.held)

deep_inside : (s : Rows) (p a c : NodeId) → IsHeld s p a → passes s a ≡ true → IsIn c (opened_from (rank a) (below s a)) → IsIn c (inside s p)
deep_inside s p a c h pass i = opened_inside (is_object s p) (opened_from (rank p) (below s p)) c h.object (inner_opened s p (rank p) (below s p) a c h.sit pass h.held i)

-- in each choice and case of the object the found node alone is called so
pub are_named : (s : Rows) (p : NodeId) (key : List ℕ) (id a : NodeId) → IsSound s → rank p ≤ length s.nodes → member_named s (inside s p) key ≡ Some id
    → is_data (row_at s id).label.defined.kind ≡ true → stands_in s p a ≡ true → passes s a ≡ true
    → AreNamed key id (row_at s id).label.defined.kind (rank a) (below s a)
are_named s p key id a sound le is met stands pass =
    let h : IsHeld s p a = is_held s p a sound stands in
    naming s key id a (rank a) (below s a) (above_of s a sound h.within).sit met
    (λ c i. called_found s p key id c is (found_in s p c sound le (deep_inside s p a c h pass i)))

-- and none is, where none is found
pub are_unnamed : (s : Rows) (p : NodeId) (key : List ℕ) (a : NodeId) → IsSound s → rank p ≤ length s.nodes → member_named s (inside s p) key ≡ None
    → stands_in s p a ≡ true → passes s a ≡ true → AreUnnamed key (below s a)
are_unnamed s p key a sound le is stands pass =
    let h : IsHeld s p a = is_held s p a sound stands in
    unnaming s key a (rank a) (below s a) (above_of s a sound h.within).sit
    (λ c i. called_none s p key c is (found_in s p c sound le (deep_inside s p a c h pass i)))

-- a choice or case that stands in the object has a row
pub held_row : (s : Rows) (p a : NodeId) → IsSound s → rank p ≤ length s.nodes → stands_in s p a ≡ true → passes s a ≡ true → a.0 < length s.nodes
held_row s p a sound le stands pass = inner_row s a (is_held s p a sound stands).within pass
