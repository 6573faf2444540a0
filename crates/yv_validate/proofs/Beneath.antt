-- The nodes below one, by their numbers and as trees.
use Rattle.std.proofs.Common.{◌≡◌, ℕ, suc, ◌+◌, ◌<◌, ◌==◌, List, [], ◌∷◌, ◌++◌, length, get_or, drop, drop-cons, add-one, All, Bool, true, false, cond, Option, Some, None, refl, sym, ap, ◌∙◌, subst, arith}
use Rattle.std.specs.List.{AllByRecursion}
use Rattle.std.proofs.lemmas.Bool.{true≢false}
use Rattle.std.proofs.lemmas.Bool.Decides.{nat_tests}
use Rattle.std.proofs.lemmas.List.Elements.{recursion_from_All}
use Rattle.serde_json.specs.Data.{Data, array, Items, no_items, item, Members}
use Rattle.yv_node_content.specs.Kinds.{is_data}
use Rattle.yv_node_content.specs.declared.kind.NodeKind.{NodeKind}
use Rattle.yv_node_content.specs.declared.kind.NodeKind.TheVariants as kind
use Rattle.yv_text_statement.specs.declared.document_kind.Kind.{Kind}
use Rattle.yv_nodes.specs.declared.node.NodeId.{NodeId}
use Rattle.yv_nodes.specs.Numbers.{numbers_from}
use Rattle.yv_nodes.specs.Rows.{AreTrees, Rows, below, children_of, forest, rank, tree_of}
use Rattle.yv_nodes.specs.Tree.{count, Forest, Label, Tree, tree}
use Rattle.yv_schema_tables.specs.Sound.{IsChild, IsSound}
use Rattle.yv_walk.specs.Existence.{count_standing, is_there}
use Rattle.yv_data_leafrefs.specs.declared.scope.RuleScope.{RuleScope}
use Rattle.yv_data_leafrefs.specs.InUse.{is_asked}
use Rattle.yv_data_leafrefs.specs.Meetings.{at, count_entered, entries_met, entry_met, found_of, kind_met, Meeting, meetings, at_node, Node, Spot}
use Rattle.yv_validate.specs.Faults.{choice_faults, faults_at, flaw_if, kind_faults, node_faults, state_faults}
use Rattle.yv_data_faults.specs.Flaw.{Flaw}
use Rattle.yv_data_faults.specs.declared.fault.FaultKind.TheVariants.{State}
use Rattle.yv_validate.specs.InnerWalk.{one_from, ones_met, scope_at}
use Rattle.yv_data_quiet.proofs.Children.{rank_is, split_at, split_of, Splits, trees_behind}

-- nodes by their numbers are met as their trees
ones_from : (k : Kind) (s : Rows) (scope_of : ℕ → Tree → RuleScope) (spot : Spot) (next : ℕ) (ms : Members) (at : ℕ) (cs : List NodeId) → IsSound s → AllByRecursion (λ (c : NodeId). c.0 < length s.nodes) cs
    → AreTrees s cs → cs ≡ numbers_from at (forest s cs) → ones_met k s scope_of cs ms spot next ≡ meetings k s scope_of spot next at (forest s cs) ms
ones_from k s scope_of spot next ms at [] sound within trees are = refl
ones_from k s scope_of spot next ms at (c ∷ cs) sound within trees are =
    let h : Splits s at c cs = split_of s at c cs trees are in
    let scope : RuleScope = scope_at k s (scope_of c.0 (tree_of s c)) c in
    ap (λ r. let here : List Meeting = one_from k s scope c r ms spot next in here ++ ones_met k s scope_of cs ms spot (next + count_entered here)) (rank_is s c sound within.0)
    ∙ ap (λ (xs : List Meeting). one_from k s scope c (c.0 + 1) ms spot next ++ xs)
    (ones_from k s scope_of spot (next + count_entered (one_from k s scope c (c.0 + 1) ms spot next)) ms (c.0 + 1 + count (below s c)) cs sound within.1 (trees_behind s c cs trees) h.later)
    ∙ ap (λ n. meetings k s scope_of spot next n (tree (tree_of s c) (forest s cs)) ms) (sym h.first)
    ∙ ap (λ ts. meetings k s scope_of spot next at ts ms) (sym h.here)

pub children_within : (s : Rows) (p : NodeId) (cs : List NodeId) → AllByRecursion (IsChild s p) cs → AllByRecursion (λ (c : NodeId). c.0 < length s.nodes) cs
children_within s p [] h = h
children_within s p (c ∷ cs) h = (h.0.within, children_within s p cs h.1)

-- ---- the children of a node, as they are read

pub record AreKids (s : Rows) (p : NodeId) (cs : List NodeId) : Type 0 where
  pub same : cs ≡ children_of s p
  pub each : All (IsChild s p) cs
  pub trees : AreTrees s cs
  pub sound : IsSound s
  pub numbers : children_of s p ≡ numbers_from (rank p) (below s p)

pub ones_start : (k : Kind) (s : Rows) (p : NodeId) (cs : List NodeId) (scope_of : ℕ → Tree → RuleScope) (spot : Spot) (next : ℕ) (ms : Members) → AreKids s p cs
    → ones_met k s scope_of cs ms spot next ≡ meetings k s scope_of spot next (rank p) (below s p) ms
ones_start k s p cs scope_of spot next ms h =
    ones_from k s scope_of spot next ms (rank p) cs h.sound (children_within s p cs (recursion_from_All (IsChild s p) cs h.each)) h.trees
    (h.same ∙ h.numbers ∙ ap (λ xs. numbers_from (rank p) (forest s xs)) (sym h.same))
    ∙ ap (λ xs. meetings k s scope_of spot next (rank p) (forest s xs) ms) h.same

pub ones_drop : (k : Kind) (s : Rows) (scope_of : ℕ → Tree → RuleScope) (spot : Spot) (next : ℕ) (cs : List NodeId) (i : ℕ) (d : NodeId) (ms : Members) → i < length cs
    → ones_met k s scope_of (drop i cs) ms spot next ≡ ones_met k s scope_of (get_or cs i d ∷ drop (i + 1) cs) ms spot next
ones_drop k s scope_of spot next cs i d ms lt = ap (λ ns. ones_met k s scope_of ns ms spot next) (split_at cs i d lt)

-- ---- what is below a node, as the walk goes there

entries_same : (n : NodeId) (l : Label) (kids : Forest) (spot : Spot) (next : ℕ) (before : List Data) (ds : Items) (inside : Spot → ℕ → RuleScope → Members → List Meeting) (cs ns : List Meeting)
    → entries_met n l kids spot next before ds (record { inside = inside; cases = cs; nodes = ns }) ≡ entries_met n l kids spot next before ds (record { inside = inside; cases = []; nodes = [] })
entries_same n l kids spot next before no_items inside cs ns = refl
entries_same n l kids spot next before (item d ds) inside cs ns =
    let here : List Meeting = entry_met n l kids spot next before d (record { inside = inside; cases = []; nodes = [] }) in
    ap (λ (xs : List Meeting). here ++ xs) (entries_same n l kids spot (next + count_entered here) (before ++ d ∷ []) ds inside cs ns)

-- at a data node only what is inside it matters
pub kind_same : (K : NodeKind) (n : NodeId) (l : Label) (kids : Forest) (spot : Spot) (scope : RuleScope) (next : ℕ) (found : Option Data) (inside : Spot → ℕ → RuleScope → Members → List Meeting) (cs ns : List Meeting)
    → is_data K ≡ true
    → kind_met K n l kids spot scope next found (record { inside = inside; cases = cs; nodes = ns }) ≡ kind_met K n l kids spot scope next found (record { inside = inside; cases = []; nodes = [] })
kind_same kind.Container n l kids spot scope next None inside cs ns is_one = refl
kind_same kind.Container n l kids spot scope next (Some d) inside cs ns is_one = refl
kind_same kind.List n l kids spot scope next None inside cs ns is_one = refl
kind_same kind.List n l kids spot scope next (Some (array ds)) inside cs ns is_one = entries_same n l kids spot next [] ds inside cs ns
kind_same kind.List n l kids spot scope next (Some _) inside cs ns is_one = refl
kind_same kind.Choice n l kids spot scope next found inside cs ns is_one = absurd (true≢false (sym is_one))
kind_same kind.Case n l kids spot scope next found inside cs ns is_one = absurd (true≢false (sym is_one))
kind_same _ n l kids spot scope next found inside cs ns is_one = refl

-- a data node is of one of these kinds
pub other_kind : (K : NodeKind) → is_data K ≡ true → (K ≡ kind.Container → ⊥) → (K ≡ kind.Leaf → ⊥) → (K ≡ kind.LeafList → ⊥) → (K ≡ kind.List → ⊥) → (K ≡ kind.Anydata → ⊥) → (K ≡ kind.Anyxml → ⊥) → ⊥
other_kind kind.Container is_one a b c d e f = a refl
other_kind kind.Leaf is_one a b c d e f = b refl
other_kind kind.LeafList is_one a b c d e f = c refl
other_kind kind.List is_one a b c d e f = d refl
other_kind kind.Anydata is_one a b c d e f = e refl
other_kind kind.Anyxml is_one a b c d e f = f refl
other_kind _ is_one a b c d e f = true≢false (sym is_one)

-- and nothing is told of it
quiet_kind : (K : NodeKind) (m : Node) (found : Option Data) → is_data K ≡ false → (K ≡ kind.Choice → ⊥) → kind_faults K m found ≡ []
quiet_kind kind.Container m found is_one a = absurd (true≢false is_one)
quiet_kind kind.Leaf m found is_one a = absurd (true≢false is_one)
quiet_kind kind.LeafList m found is_one a = absurd (true≢false is_one)
quiet_kind kind.List m found is_one a = absurd (true≢false is_one)
quiet_kind kind.Anydata m found is_one a = absurd (true≢false is_one)
quiet_kind kind.Anyxml m found is_one a = absurd (true≢false is_one)
quiet_kind kind.Choice m found is_one a = absurd (a refl)
quiet_kind _ m found is_one a = refl

pub not_there : (K : NodeKind) (d : Data) → is_data K ≡ false → is_there K d ≡ false
not_there kind.LeafList d is_one = absurd (true≢false is_one)
not_there kind.List d is_one = absurd (true≢false is_one)
not_there kind.Container d is_one = is_one
not_there kind.Leaf d is_one = is_one
not_there kind.Anydata d is_one = is_one
not_there kind.Anyxml d is_one = is_one
not_there _ d is_one = refl

pub quiet_state : (K : NodeKind) (m : Node) (found : Option Data) → is_data K ≡ false → state_faults K m found ≡ []
quiet_state K m None is_one = refl
quiet_state K m (Some d) is_one = ap (λ (b : Bool). flaw_if b State (at m.spot m.label None)) (not_there K d is_one)

both_quiet : (b : Bool) (xs ys : List Flaw) → xs ≡ [] → ys ≡ [] → cond b xs ys ≡ []
both_quiet true xs ys p q = p
both_quiet false xs ys p q = q

pub quiet_faults : (K : NodeKind) (m : Node) (found : Option Data) → is_data K ≡ false → (K ≡ kind.Choice → ⊥) → node_faults K m found ≡ []
quiet_faults K m found is_one a = both_quiet (is_asked m.scope) (kind_faults K m found) (state_faults K m found) (quiet_kind K m found is_one a) (quiet_state K m found is_one)

-- a choice isn't written
pub choice_told : (k : Kind) (s : Rows) (m : Node) → m.label.defined.kind ≡ kind.Choice
    → faults_at k s (at_node m) ≡ cond (is_asked m.scope) (choice_faults m (count_standing (m.node.0 + 1) m.kids m.members)) []
choice_told k s m is =
    ap (λ (K : NodeKind). node_faults K m (found_of m)) is
    ∙ ap (λ (fs : List Flaw). cond (is_asked m.scope) (choice_faults m (count_standing (m.node.0 + 1) m.kids m.members)) fs) (quiet_state kind.Choice m (found_of m) refl)
