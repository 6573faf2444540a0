-- One mark more.
use Rattle.std.proofs.Common.{◌≡◌, ℕ, ◌==◌, ◌||◌, ◌&&◌, ◌<◌, length, Bool, true, false, cond, Option, None, Some, is_some, inl, inr, refl, sym, ap, ◌∙◌, eqb-true, eq-eqb}
use Rattle.std.specs.Bool.{one_answer}
use Rattle.std.specs.Option.{unwrap_or}
use Rattle.std.specs.Ordering.{nat_cmp, is_eq}
use Rattle.std.specs.declared.cmp.Ordering.TheVariants.{Equal}
use Rattle.std.specs.Cmp.{Equal-is, nat_cmp_is}
use Rattle.std.specs.BTreeMap.{BTreeMap, UpdatesBy, get_by, is_at as matches_at}
use Rattle.std.proofs.lemmas.Bool.{true≢false}
use Rattle.std.proofs.lemmas.Map.Lookups.{exact_unsigned}
use Rattle.yv_nodes.specs.declared.node.NodeId.{NodeId}
use Rattle.yv_nodes.specs.Rows.{Rows, below, rank, row_at}
use Rattle.yv_schema_tables.specs.Sound.{IsSound}
use Rattle.yv_walk.specs.declared.existence.Existence.{Existence}
use Rattle.yv_walk.specs.declared.existence.Existence.TheVariants.{Nothing, Only}
use Rattle.yv_walk.specs.Existence.{both, passes, holds}
use Rattle.yv_walk.specs.declared.marks.Marks.{Marks}
use Rattle.yv_walk.specs.InnerMarks.{has_room}
use Rattle.yv_walk.specs.Marks.{with_node, mark_at}
use Rattle.yv_walk.proofs.Bools.{and_of, and_true, or_left, or_right, or_true}
use Rattle.yv_walk.proofs.Joins.{both_again}
use Rattle.yv_walk.proofs.Above.{is_at, climb}

pub is_eq_nat : (a b : ℕ) → is_eq (nat_cmp a b) ≡ (a == b)
is_eq_nat a b = one_answer (is_eq (nat_cmp a b)) (a == b)
    (λ h. exact_unsigned a b ((Equal-is (nat_cmp a b)).0 h), λ e. (Equal-is (nat_cmp a b)).1 (sym (nat_cmp_is a b Equal e)))
    (λ h. eqb-true a b h, λ e. eq-eqb a b e)

abbrev pub kept_mark : BTreeMap ℕ Existence → ℕ → Existence
kept_mark m n = unwrap_or (get_by (nat_cmp n) m) Nothing

chosen : (b : Bool) (v : Existence) (x : Option Existence) → unwrap_or (cond b (Some v) x) Nothing ≡ cond b v (unwrap_or x Nothing)
chosen true v x = refl
chosen false v x = refl

marked : (old new : BTreeMap ℕ Existence) (number : ℕ) (v : Existence) → UpdatesBy nat_cmp (λ k. nat_cmp number k) old new (Some v)
    → (n : ℕ) → kept_mark new n ≡ cond (number == n) v (kept_mark old n)
marked old new number v u n =
    ap (λ o. unwrap_or o Nothing) (u.0 n ∙ ap (λ b. cond b (Some v) (get_by (nat_cmp n) old)) (is_eq_nat number n))
    ∙ chosen (number == n) v (get_by (nat_cmp n) old)

room_by : (b : Bool) (v : Existence) (x : Option Existence) → is_some x ≡ true → is_some (cond b (Some v) x) ≡ true
room_by true v x e = refl
room_by false v x e = e

-- an entry more, and the others stay
pub room_kept : (old new : BTreeMap ℕ Existence) (number : ℕ) (v : Existence) → UpdatesBy nat_cmp (λ k. nat_cmp number k) old new (Some v)
    → (n : ℕ) → is_some (get_by (nat_cmp n) old) ≡ true → is_some (get_by (nat_cmp n) new) ≡ true
room_kept old new number v u n e = ap is_some (u.0 n) ∙ room_by (matches_at (nat_cmp number) n) v (get_by (nat_cmp n) old) e

pub room_made : (old new : BTreeMap ℕ Existence) (number : ℕ) (v : Existence) → UpdatesBy nat_cmp (λ k. nat_cmp number k) old new (Some v)
    → is_some (get_by (nat_cmp number) new) ≡ true
room_made old new number v u = ap is_some u.1

none_there : (x : Option Existence) → is_some x ≡ false → unwrap_or x Nothing ≡ Nothing
none_there None e = refl
none_there (Some v) e = absurd (true≢false e)

nothing_new : (b : Bool) (x : Existence) → (b ≡ true → x ≡ Nothing) → cond b Nothing x ≡ x
nothing_new true x h = sym (h refl)
nothing_new false x h = refl

-- an entry where there was none, which marks nothing
pub room_same : (old new : BTreeMap ℕ Existence) (number : ℕ) → is_some (get_by (nat_cmp number) old) ≡ false
    → UpdatesBy nat_cmp (λ k. nat_cmp number k) old new (Some Nothing) → (n : ℕ) → kept_mark new n ≡ kept_mark old n
room_same old new number none u n =
    marked old new number Nothing u n
    ∙ nothing_new (number == n) (kept_mark old n)
    (λ e. ap (kept_mark old) (sym (eqb-true number n e)) ∙ none_there (get_by (nat_cmp number) old) none)

joined_by : (b : Bool) (here there : Existence) (id : NodeId) → (b ≡ true → here ≡ there) → cond b (both here (Only id)) there ≡ with_node b there id
joined_by true here there id h = ap (λ x. both x (Only id)) (h refl)
joined_by false here there id h = refl

-- one mark more
pub joined_at : (old new : BTreeMap ℕ Existence) (number : ℕ) (v : Existence) (id : NodeId) → v ≡ both (kept_mark old number) (Only id)
    → UpdatesBy nat_cmp (λ k. nat_cmp number k) old new (Some v) → (n : ℕ) → kept_mark new n ≡ with_node (number == n) (kept_mark old n) id
joined_at old new number v id is u n =
    marked old new number v u n ∙ ap (λ x. cond (number == n) x (kept_mark old n)) is
    ∙ joined_by (number == n) (kept_mark old number) (kept_mark old n) id (λ e. ap (kept_mark old) (eqb-true number n e))

joined_step : (b w : Bool) (old : Existence) (id : NodeId) → with_node w (with_node b old id) id ≡ with_node (b || w) old id
joined_step true true old id = both_again old id
joined_step true false old id = refl
joined_step false w old id = refl

-- from one choice or case to the next above it
pub climbed : (s : Rows) (a here up id : NodeId) (old new : Marks) → IsSound s → a.0 < length s.nodes → passes s a ≡ true
    → here.0 < length s.nodes → passes s here ≡ true → up ≡ (row_at s here).parent
    → (k : ℕ) → k ≡ here.0 → ((n : ℕ) → mark_at new n ≡ with_node (k == n) (mark_at old n) id)
    → with_node (is_at s a up) (mark_at new a.0) id ≡ with_node (is_at s a here) (mark_at old a.0) id
climbed s a here up id old new sound in_a pass_a in_here pass is k key more =
    ap (λ y. with_node (is_at s a y) (mark_at new a.0) id) is
    ∙ ap (λ x. with_node (is_at s a (row_at s here).parent) x id) (more a.0 ∙ ap (λ j. with_node (j == a.0) (mark_at old a.0) id) key)
    ∙ joined_step (here.0 == a.0) (is_at s a (row_at s here).parent) (mark_at old a.0) id
    ∙ ap (λ b. with_node ((here.0 == a.0) || b) (mark_at old a.0) id) (sym (climb s a here sound in_a pass_a in_here))
    ∙ ap (λ b. with_node (b && ((here.0 == a.0) || holds (rank a) (below s a) here)) (mark_at old a.0) id) (sym pass)

-- ---- room on the way up

-- what contains a node contains what is in that
pub above_here : (s : Rows) (a here up : NodeId) → IsSound s → a.0 < length s.nodes → passes s a ≡ true → here.0 < length s.nodes
    → passes s here ≡ true → up ≡ (row_at s here).parent → is_at s a up ≡ true → is_at s a here ≡ true
above_here s a here up sound in_a pass_a in_here pass is e =
    and_of (passes s here) ((here.0 == a.0) || holds (rank a) (below s a) here) pass
    (or_right (here.0 == a.0) (holds (rank a) (below s a) here) (climb s a here sound in_a pass_a in_here ∙ ap (is_at s a) (sym is) ∙ e))

pub at_itself : (s : Rows) (here : NodeId) → passes s here ≡ true → is_at s here here ≡ true
at_itself s here pass =
    and_of (passes s here) ((here.0 == here.0) || holds (rank here) (below s here) here) pass
    (or_left (here.0 == here.0) (holds (rank here) (below s here) here) (eq-eqb here.0 here.0 refl))

-- there is room in what contains a node, or it is still to come
pub room_next : (s : Rows) (a here up : NodeId) (old new : Marks) → IsSound s → a.0 < length s.nodes → passes s a ≡ true → here.0 < length s.nodes
    → up ≡ (row_at s here).parent → (k : ℕ) → k ≡ here.0 → has_room new k ≡ true → ((n : ℕ) → has_room old n ≡ true → has_room new n ≡ true)
    → (is_at s a here || has_room old a.0) ≡ true → (is_at s a up || has_room new a.0) ≡ true
room_next s a here up old new sound in_a pass_a in_here is k key made kept h =
    elim (or_true (is_at s a here) (has_room old a.0) h) [
      | inl e ↦ elim (or_true (here.0 == a.0) (holds (rank a) (below s a) here)
          (and_true (passes s here) ((here.0 == a.0) || holds (rank a) (below s a) here) e).1) [
            | inl f ↦ or_right (is_at s a up) (has_room new a.0) (ap (has_room new) (sym (key ∙ eqb-true here.0 a.0 f)) ∙ made)
            | inr f ↦ or_left (is_at s a up) (has_room new a.0) (ap (is_at s a) is ∙ sym (climb s a here sound in_a pass_a in_here) ∙ f)
          ]
      | inr e ↦ or_right (is_at s a up) (has_room new a.0) (kept a.0 e)
    ]

room_left : (b c : Bool) → b ≡ false → (b || c) ≡ true → c ≡ true
room_left true c e h = absurd (true≢false e)
room_left false c e h = h

none_passed : (b c : Bool) → b ≡ false → (b && c) ≡ false
none_passed true c e = absurd (true≢false e)
none_passed false c e = refl

pub room_all : (s : Rows) (a here : NodeId) (b : Bool) → passes s here ≡ false → (is_at s a here || b) ≡ true → b ≡ true
room_all s a here b stop h =
    room_left (is_at s a here) b (none_passed (passes s here) ((here.0 == a.0) || holds (rank a) (below s a) here) stop) h
