-- What is known of nodes, from the last to the first.
use Rattle.std.proofs.Common.{◌≡◌, ℕ, zero, suc, ◌+◌, ◌-◌, List, [], ◌∷◌, ◌++◌, length, Bool, true, false, cond, not, ◌&&◌, ◌||◌, Option, Some, None, refl, sym, ap, ◌∙◌, arith, subst, ◌⊎◌, inl, inr}
use Rattle.std.specs.List.{slice_get}
use Rattle.std.specs.Option.{IfSome, SomeIff}
use Rattle.yv_node_content.specs.Kinds.{is_operation_or_notification}
use Rattle.yv_nodes.specs.declared.node.NodeId.{NodeId}
use Rattle.yv_nodes.specs.Defaults.{width}
use Rattle.yv_nodes.specs.Numbers.{numbers_from}
use Rattle.yv_nodes.specs.Rows.{AreTrees, below, children_of, forest, rank, Rows, tree_of}
use Rattle.yv_nodes.specs.Tree.{count, Forest, Label, Tree, node, tree}
use Rattle.yv_schema_tables.specs.Measures.{is_open, count_met}
use Rattle.yv_data_quiet.specs.NamedLeafs.{is_read}
use Rattle.yv_data_quiet.specs.Quiet.{are_quiet, AreKnown, is_mute, is_quiet, node_back, quiet_steps, steps_at, tree_met}
use Rattle.yv_data_quiet.proofs.Children.{split_of, Splits, trees_behind}
use Rattle.yv_data_quiet.proofs.ListLeafs.{one_number}

-- ---- the steps of a node

-- an operation is met nowhere
pub of_operation : (s : Rows) (n : ℕ) (l : Label) (kids : Forest) → is_operation_or_notification l.defined.kind ≡ true → quiet_steps s n (node l kids) ≡ Some 0
of_operation s n l kids e =
    ap (λ (b : Bool). cond (b || (is_mute (is_read s n) l.defined.kind l && (not (is_open l) || are_quiet s (n + 1) kids)))
    (Some (cond b 0 (width l + cond (is_open l) (count_met kids) 0))) None) e

-- of another node that says nothing itself
mute_steps : (s : Rows) (n : ℕ) (l : Label) (kids : Forest) → is_operation_or_notification l.defined.kind ≡ false → is_mute (is_read s n) l.defined.kind l ≡ true
    → quiet_steps s n (node l kids) ≡ cond (not (is_open l) || are_quiet s (n + 1) kids) (Some (width l + cond (is_open l) (count_met kids) 0)) None
mute_steps s n l kids other mute =
    ap (λ (b : Bool). cond (b || (is_mute (is_read s n) l.defined.kind l && (not (is_open l) || are_quiet s (n + 1) kids)))
    (Some (cond b 0 (width l + cond (is_open l) (count_met kids) 0))) None) other
    ∙ ap (λ (b : Bool). cond (b && (not (is_open l) || are_quiet s (n + 1) kids)) (Some (width l + cond (is_open l) (count_met kids) 0)) None) mute

-- the nodes in it are met elsewhere
pub of_closed : (s : Rows) (n : ℕ) (l : Label) (kids : Forest) (w : ℕ) → is_operation_or_notification l.defined.kind ≡ false → is_mute (is_read s n) l.defined.kind l ≡ true
    → is_open l ≡ false → w ≡ width l → quiet_steps s n (node l kids) ≡ Some w
of_closed s n l kids w other mute closed is =
    let sum : width l + 0 ≡ w = omega (arith, is) in
    mute_steps s n l kids other mute ∙ ap (λ (b : Bool). cond (not b || are_quiet s (n + 1) kids) (Some (width l + cond b (count_met kids) 0)) None) closed ∙ ap Some sum

-- the nodes in it are met where it is
pub of_open : (s : Rows) (n : ℕ) (l : Label) (kids : Forest) (w inner all : ℕ) → is_operation_or_notification l.defined.kind ≡ false → is_mute (is_read s n) l.defined.kind l ≡ true
    → is_open l ≡ true → are_quiet s (n + 1) kids ≡ true → w ≡ width l → count_met kids ≡ inner → all ≡ w + inner → quiet_steps s n (node l kids) ≡ Some all
of_open s n l kids w inner all other mute opened quiet is own sum =
    let total : width l + count_met kids ≡ all = omega (arith, is, own, sum) in
    mute_steps s n l kids other mute
    ∙ ap (λ (b : Bool). cond (not b || are_quiet s (n + 1) kids) (Some (width l + cond b (count_met kids) 0)) None) opened
    ∙ ap (λ (b : Bool). cond b (Some (width l + count_met kids)) None) quiet ∙ ap Some total

-- what is said of a sum that fits
pub if_sum : (o : Option ℕ) (fits : Type 0) (sum : ℕ) (P : ℕ → Type 0) → SomeIff o fits sum → ((n : ℕ) → n ≡ sum → P n) → IfSome o P
if_sum None fits sum P e h = tt
if_sum (Some n) fits sum P e h = h n e.1

-- ---- the steps of nodes, one after the other

-- quiet, with these steps
pub quiet_parts : (b : Bool) (v w : ℕ) → cond b (Some v) None ≡ Some w → (b ≡ true) × (v ≡ w)
quiet_parts true v w e = let same : v ≡ w = cc in (refl, same)
quiet_parts false v w e = absurd (cc)

split_met : (t : Tree) (others : Forest) → count_met (tree t others) ≡ tree_met t + count_met others
split_met (node l kids) others = refl

-- the trees of these nodes are quiet
abbrev pub ones_quiet : Rows → List NodeId → Bool
ones_quiet s [] = true
ones_quiet s (c ∷ cs) = is_quiet s c.0 (tree_of s c) && ones_quiet s cs

-- so are the trees by which they are numbered
ones_from : (s : Rows) (at : ℕ) (cs : List NodeId) → AreTrees s cs → cs ≡ numbers_from at (forest s cs) → ones_quiet s cs ≡ are_quiet s at (forest s cs)
ones_from s at [] trees are = refl
ones_from s at (c ∷ cs) trees are =
    let h : Splits s at c cs = split_of s at c cs trees are in
    ap (λ (b : Bool). is_quiet s c.0 (tree_of s c) && b) (ones_from s (c.0 + 1 + count (below s c)) cs (trees_behind s c cs trees) h.later)
    ∙ ap (λ n. are_quiet s n (tree (tree_of s c) (forest s cs))) (sym h.first)
    ∙ ap (λ ts. are_quiet s at ts) (sym h.here)

-- with what is left, the whole is quiet and has its steps
pub record IsLeft (s : Rows) (total : ℕ) (left whole : List NodeId) : Type 0 where
  pub quiet : ones_quiet s left ≡ true → ones_quiet s whole ≡ true
  pub steps : total + count_met (forest s left) ≡ count_met (forest s whole)

pub first_left : (s : Rows) (left whole : List NodeId) → left ≡ whole → IsLeft s 0 left whole
first_left s left whole same = record {
  quiet = λ e. sym (ap (ones_quiet s) same) ∙ e;
  steps = omega (arith, ap (λ (ns : List NodeId). count_met (forest s ns)) same);
}

-- nothing is left of the children of a node
pub record IsWhole (s : Rows) (total : ℕ) (p : NodeId) : Type 0 where
  pub quiet : are_quiet s (rank p) (below s p) ≡ true
  pub steps : count_met (below s p) ≡ total

pub all_left : (s : Rows) (total : ℕ) (left cs : List NodeId) (p : NodeId) → left ≡ [] → cs ≡ children_of s p → AreTrees s cs
    → children_of s p ≡ numbers_from (rank p) (below s p) → IsLeft s total left (children_of s p) → IsWhole s total p
all_left s total left cs p none same trees numbers h = record {
  quiet = sym (ones_from s (rank p) (children_of s p) (subst (λ (ns : List NodeId). AreTrees s ns) same trees) numbers) ∙ h.quiet (ap (ones_quiet s) none);
  steps = omega (arith, h.steps, ap (λ (ns : List NodeId). count_met (forest s ns)) none);
}

pub one_more : (s : Rows) (total new steps : ℕ) (c : NodeId) (left others whole : List NodeId) → left ≡ c ∷ others
    → forest s left ≡ tree (tree_of s c) (forest s others) → steps_at s c ≡ Some steps → new ≡ total + steps → IsLeft s total left whole → IsLeft s new others whole
one_more s total new steps c left others whole first split known sum h =
    let parts = quiet_parts (is_quiet s c.0 (tree_of s c)) (tree_met (tree_of s c)) steps known in
    let own : tree_met (tree_of s c) ≡ steps = parts.1 in
    let here : count_met (forest s left) ≡ tree_met (tree_of s c) + count_met (forest s others) = ap count_met split ∙ split_met (tree_of s c) (forest s others) in
    record {
      quiet = λ e. h.quiet (ap (ones_quiet s) first ∙ ap (λ (b : Bool). b && ones_quiet s others) parts.0 ∙ e);
      steps = omega (arith, h.steps, here, own, sum);
    }

-- ---- one more node is known

-- what is known at the place of a node
pub known_at : (s : Rows) (xs : List (Option ℕ)) (i : ℕ) (n : NodeId) (x : Option ℕ) → AreKnown s xs → slice_get xs i ≡ Some x → n.0 ≡ length s.nodes - 1 - i
    → IfSome x (λ steps. steps_at s n ≡ Some steps)
known_at s xs i n None known e number = tt
known_at s xs i n (Some w) known e number = ap (λ (m : NodeId). steps_at s m) (one_number n (node_back s i) number) ∙ known i w e

pub of_some : (x : Option ℕ) (w : ℕ) → x ≡ Some w → (P : ℕ → Type 0) → IfSome x P → P w
of_some x w e P h = let there : IfSome (Some w) P = subst (λ (o : Option ℕ). IfSome o P) e h in there

-- what is at a place is the last of a list, or is before it
pub among : {X : Type 0} (xs : List X) (x : X) (i : ℕ) (y : X) → slice_get (xs ++ x ∷ []) i ≡ Some y → (slice_get xs i ≡ Some y) ⊎ ((i ≡ length xs) × (x ≡ y))
among [] x zero y e = let same : x ≡ y = cc in inr (refl, same)
among [] x (suc i) y e = absurd (cc)
among (z ∷ xs) x zero y e = inl e
among (z ∷ xs) x (suc i) y e = elim (among xs x i y e) [
  | inl f ↦ inl f
  | inr f ↦ inr (ap suc f.0, f.1)
]

pub known_more : (s : Rows) (xs new : List (Option ℕ)) (x : Option ℕ) (at : ℕ) (n : NodeId) → AreKnown s xs → length xs ≡ at → new ≡ xs ++ x ∷ []
    → n.0 ≡ length s.nodes - 1 - at → IfSome x (λ steps. steps_at s n ≡ Some steps) → AreKnown s new
known_more s xs new x at n known many added number h = λ i w e.
    elim (among xs x i (Some w) (ap (λ (ys : List (Option ℕ)). slice_get ys i) (sym added) ∙ e)) [
      | inl f ↦ known i w f
      | inr f ↦
          let place : length s.nodes - 1 - i ≡ n.0 = omega (arith, f.0, many, number) in
          ap (λ (m : NodeId). steps_at s m) (one_number (node_back s i) n place)
          ∙ of_some x w f.1 (λ steps. steps_at s n ≡ Some steps) h
    ]
