-- One member more, and what exists then.
use Rattle.std.proofs.Common.{◌≡◌, ℕ, ◌+◌, ◌==◌, ◌||◌, ◌&&◌, List, Bool, true, false, cond, Option, Some, None, inl, inr, refl, sym, ap, ◌∙◌, eqb-true}
use Rattle.std.proofs.lemmas.Bool.{cases_Bool, false≢true}
use Rattle.std.specs.Ordering.{nat_cmp, is_eq, match_ordering}
use Rattle.std.specs.declared.cmp.Ordering.{Ordering}
use Rattle.std.specs.declared.cmp.Ordering.TheVariants.{Less, Equal, Greater}
use Rattle.std.specs.Cmp.Lexicographic.{slice_cmp}
use Rattle.std.specs.Str.{bytes_eq}
use Rattle.std.proofs.lemmas.Map.Text.{is_eq-slice_cmp}
use Rattle.std.proofs.lemmas.Slice.Eq.{bytes_eq-Decides}
use Rattle.serde_json.specs.Data.{Data, Members, member, no_members}
use Rattle.serde_json.specs.Find.{get_member}
use Rattle.yv_node_content.specs.declared.kind.NodeKind.{NodeKind}
use Rattle.yv_node_content.specs.declared.kind.NodeKind.TheVariants as kind
use Rattle.yv_node_content.specs.Kinds.{is_data, is_passed}
use Rattle.yv_nodes.specs.declared.node.NodeId.{NodeId}
use Rattle.yv_nodes.specs.Tree.{count, Forest, Label, no_trees, node, tree}
use Rattle.yv_walk.specs.declared.existence.Existence.{Existence}
use Rattle.yv_walk.specs.declared.existence.Existence.TheVariants.{Nothing, Only}
use Rattle.yv_walk.specs.Existence.{both, is_there, row_standing, kind_standing, existence_of, holds}
use Rattle.yv_walk.specs.Marks.{with_node}
use Rattle.yv_walk.specs.MemberNodes.{IsNamed, AreNamed, AreUnnamed}
use Rattle.yv_walk.proofs.Bools.{is_false, passed_no_data}
use Rattle.yv_walk.proofs.Joins.{one_number, joined_both, joined_other}

by_test : (o : Ordering) (b : Bool) (x y : Option Data) → is_eq o ≡ b → match_ordering o x y x ≡ cond b y x
by_test Less true x y e = cc
by_test Less false x y e = refl
by_test Equal true x y e = refl
by_test Equal false x y e = cc
by_test Greater true x y e = cc
by_test Greater false x y e = refl

-- the first member of a name
pub get_first : (name key : List ℕ) (d : Data) (ms : Members) → get_member name (member key d ms) ≡ cond (bytes_eq name key) (Some d) (get_member name ms)
get_first name key d ms = by_test (slice_cmp nat_cmp name key) (bytes_eq name key) (get_member name ms) (Some d) (is_eq-slice_cmp name key)

there : (b : Bool) (n : NodeId) → cond b (Only n) Nothing ≡ with_node b Nothing n
there true n = refl
there false n = refl

and_false : (b : Bool) → (b && false) ≡ false
and_false true = refl
and_false false = refl

and_left : (b : Bool) → (b && true) ≡ b
and_left true = refl
and_left false = refl

and_or : (b p q : Bool) → ((b && p) || (b && q)) ≡ (b && (p || q))
and_or true p q = refl
and_or false p q = refl

-- only data nodes exist
never_there : (k : NodeKind) (d : Data) → is_data k ≡ false → is_there k d ≡ false
never_there kind.List d e = absurd (false≢true (sym e))
never_there kind.LeafList d e = absurd (false≢true (sym e))
never_there kind.Container d e = e
never_there kind.Leaf d e = e
never_there kind.Choice d e = e
never_there kind.Case d e = e
never_there kind.Anydata d e = e
never_there kind.Anyxml d e = e
never_there kind.Rpc d e = e
never_there kind.Action d e = e
never_there kind.Notification d e = e
never_there kind.Input d e = e
never_there kind.Output d e = e

other_nothing : (k : NodeKind) (n : NodeId) (found : Option Data) → is_data k ≡ false → row_standing k n found ≡ Nothing
other_nothing k n None e = refl
other_nothing k n (Some d) e = ap (λ (b : Bool). cond b (Only n) Nothing) (never_there k d e)

row_by : (own k : NodeKind) (n id : NodeId) (d : Data) (later : Option Data) (same : Bool)
    → (n.0 == id.0) ≡ same → (same ≡ true → own ≡ k) → (same ≡ true → later ≡ None)
    → row_standing own n (cond same (Some d) later) ≡ with_node (is_there k d && same) (row_standing own n later) id
row_by own k n id d later true e f g =
    let at : n ≡ id = one_number n id (eqb-true n.0 id.0 e) in
    ap (λ x. cond (is_there x d) (Only n) Nothing) (f refl)
    ∙ ap (λ x. cond (is_there k d) (Only x) Nothing) at
    ∙ there (is_there k d) id
    ∙ ap (λ b. with_node b Nothing id) (sym (and_left (is_there k d)))
    ∙ ap (λ o. with_node (is_there k d && true) (row_standing own n o) id) (sym (g refl))
row_by own k n id d later false e f g = ap (λ b. with_node b (row_standing own n later) id) (sym (and_false (is_there k d)))

or_false : (b : Bool) → b ≡ (b || false)
or_false true = refl
or_false false = refl

-- of a node that is no choice or case
row_more : (first : ℕ) (l : Label) (id : NodeId) (k : NodeKind) (key : List ℕ) (d : Data) (ms : Members) → get_member key ms ≡ None → IsNamed key id k first l
    → row_standing l.defined.kind (record { 0 = first }) (get_member l.member (member key d ms))
    ≡ with_node (is_there k d && ((first == id.0) || false)) (row_standing l.defined.kind (record { 0 = first }) (get_member l.member ms)) id
row_more first l id k key d ms fresh h =
    let n : NodeId = record { 0 = first } in
    let own = l.defined.kind in
    ap (λ o. row_standing own n o) (get_first l.member key d ms)
    ∙ elim (cases_Bool (is_data own)) [
      | inl met ↦
          ap (λ b. row_standing own n (cond b (Some d) (get_member l.member ms))) (h.called met)
          ∙ row_by own k n id d (get_member l.member ms) (first == id.0) refl (λ e. h.alike (eqb-true first id.0 e))
          (λ e. ap (λ m. get_member m ms) ((bytes_eq-Decides l.member key).0 (h.called met ∙ e)) ∙ fresh)
          ∙ ap (λ b. with_node (is_there k d && b) (row_standing own n (get_member l.member ms)) id) (or_false (first == id.0))
      | inr other ↦
          let apart : (first == id.0) ≡ false = is_false (first == id.0) (λ e. false≢true (sym other ∙ h.met (eqb-true first id.0 e))) in
          other_nothing own n (cond (bytes_eq l.member key) (Some d) (get_member l.member ms)) other
          ∙ sym (other_nothing own n (get_member l.member ms) other)
          ∙ ap (λ b. with_node b (row_standing own n (get_member l.member ms)) id) (sym (and_false (is_there k d)))
          ∙ ap (λ b. with_node (is_there k d && (b || false)) (row_standing own n (get_member l.member ms)) id) (sym apart)
    ]

kind_more : (first : ℕ) (l : Label) (id : NodeId) (k : NodeKind) (key : List ℕ) (d : Data) (ms : Members) (deep : Bool) (new old : Existence)
    → get_member key ms ≡ None → IsNamed key id k first l → (is_passed l.defined.kind ≡ true → new ≡ with_node (is_there k d && deep) old id)
    → (b : Bool) → is_passed l.defined.kind ≡ b
    → cond b new (row_standing l.defined.kind (record { 0 = first }) (get_member l.member (member key d ms)))
    ≡ with_node (is_there k d && ((first == id.0) || (b && deep))) (cond b old (row_standing l.defined.kind (record { 0 = first }) (get_member l.member ms))) id
kind_more first l id k key d ms deep new old fresh h f true passed =
    let apart : (first == id.0) ≡ false = is_false (first == id.0) (λ e. false≢true (sym (passed_no_data l.defined.kind passed) ∙ h.met (eqb-true first id.0 e))) in
    f passed ∙ ap (λ b. with_node (is_there k d && (b || deep)) old id) (sym apart)
kind_more first l id k key d ms deep new old fresh h f false passed = row_more first l id k key d ms fresh h

pub more : (first : ℕ) (ts : Forest) (key : List ℕ) (d : Data) (ms : Members) (id : NodeId) (k : NodeKind) → AreNamed key id k first ts → get_member key ms ≡ None
    → existence_of first ts (member key d ms) ≡ with_node (is_there k d && holds first ts id) (existence_of first ts ms) id
more first no_trees key d ms id k h fresh = ap (λ b. with_node b Nothing id) (sym (and_false (is_there k d)))
more first (tree (node l kids) ts) key d ms id k h fresh =
    let n : NodeId = record { 0 = first } in
    let deep = holds (first + 1) kids id in
    let later = holds (first + 1 + count kids) ts id in
    let own = (first == id.0) || (is_passed l.defined.kind && deep) in
    let old = kind_standing l.defined.kind n (get_member l.member ms) (existence_of (first + 1) kids ms) in
    let rest = existence_of (first + 1 + count kids) ts ms in
    ap (λ x. both x (existence_of (first + 1 + count kids) ts (member key d ms)))
    (kind_more first l id k key d ms deep (existence_of (first + 1) kids (member key d ms)) (existence_of (first + 1) kids ms) fresh h.0
    (λ passed. more (first + 1) kids key d ms id k (h.1 passed) fresh) (is_passed l.defined.kind) refl)
    ∙ ap (both (with_node (is_there k d && own) old id)) (more (first + 1 + count kids) ts key d ms id k h.2 fresh)
    ∙ joined_both (is_there k d && own) (is_there k d && later) old rest id
    ∙ ap (λ b. with_node b (both old rest) id) (and_or (is_there k d) own later)

-- the mark may come before what is left
pub next : (first : ℕ) (ts : Forest) (key : List ℕ) (d : Data) (rest : Members) (id : NodeId) (k : NodeKind) (old : Existence)
    → AreNamed key id k first ts → get_member key rest ≡ None
    → both (with_node (is_there k d && holds first ts id) old id) (existence_of first ts rest) ≡ both old (existence_of first ts (member key d rest))
next first ts key d rest id k old h fresh =
    joined_other (is_there k d && holds first ts id) old (existence_of first ts rest) id
    ∙ ap (both old) (sym (more first ts key d rest id k h fresh))

kind_same : (k : NodeKind) (n : NodeId) (name key : List ℕ) (d : Data) (ms : Members) (new old : Existence) → (is_data k ≡ true → bytes_eq name key ≡ false)
    → (is_passed k ≡ true → new ≡ old) → (b : Bool) → is_passed k ≡ b
    → cond b new (row_standing k n (get_member name (member key d ms))) ≡ cond b old (row_standing k n (get_member name ms))
kind_same k n name key d ms new old uncalled f true passed = f passed
kind_same k n name key d ms new old uncalled f false passed = elim (cases_Bool (is_data k)) [
  | inl met ↦ ap (λ o. row_standing k n o) (get_first name key d ms ∙ ap (λ b. cond b (Some d) (get_member name ms)) (uncalled met))
  | inr other ↦ other_nothing k n (get_member name (member key d ms)) other ∙ sym (other_nothing k n (get_member name ms) other)
]

pub unknown : (first : ℕ) (ts : Forest) (key : List ℕ) (d : Data) (ms : Members) → AreUnnamed key ts → existence_of first ts (member key d ms) ≡ existence_of first ts ms
unknown first no_trees key d ms h = refl
unknown first (tree (node l kids) ts) key d ms h =
    let n : NodeId = record { 0 = first } in
    ap (λ x. both x (existence_of (first + 1 + count kids) ts (member key d ms)))
    (kind_same l.defined.kind n l.member key d ms (existence_of (first + 1) kids (member key d ms)) (existence_of (first + 1) kids ms) h.0
    (λ passed. unknown (first + 1) kids key d ms (h.1 passed)) (is_passed l.defined.kind) refl)
    ∙ ap (both (kind_standing l.defined.kind n (get_member l.member ms) (existence_of (first + 1) kids ms))) (unknown (first + 1 + count kids) ts key d ms h.2)

none_here : (b : Bool) (x : Existence) → x ≡ Nothing → cond b x Nothing ≡ Nothing
none_here true x e = e
none_here false x e = refl

pub nothing : (first : ℕ) (ts : Forest) → existence_of first ts no_members ≡ Nothing
nothing first no_trees = refl
nothing first (tree (node l kids) ts) =
    ap (λ x. both x (existence_of (first + 1 + count kids) ts no_members)) (none_here (is_passed l.defined.kind) (existence_of (first + 1) kids no_members) (nothing (first + 1) kids))
    ∙ nothing (first + 1 + count kids) ts
