-- Children by their places: their numbers ascend, nothing exists of one of which nothing is kept,
-- and how many exist of those that are left.
use Rattle.std.proofs.Common.{◌≡◌, ℕ, zero, suc, ◌+◌, ◌<◌, ◌≤◌, List, length, drop, get_or, Bool, true, false, cond, Option, None, Some, inl, inr, refl, sym, ap, ◌∙◌, subst, arith}
use Rattle.std.proofs.lemmas.Bool.{cases_Bool, true≢false}
use Rattle.std.proofs.lemmas.Bool.Decides.{nat_tests}
use Rattle.std.proofs.Math.ListN.{drop_of_length-le}
use Rattle.serde_json.specs.Data.{Data, Members}
use Rattle.serde_json.specs.Find.{get_member}
use Rattle.yv_node_content.specs.Kinds.{is_data, is_passed}
use Rattle.yv_node_content.specs.declared.kind.NodeKind.{NodeKind}
use Rattle.yv_node_content.specs.declared.kind.NodeKind.TheVariants as kind
use Rattle.yv_nodes.specs.Numbers.{numbers_from}
use Rattle.yv_nodes.specs.Rows.{AreTrees, Rows, below, children_of, is_root, rank, row_at, tree_of}
use Rattle.yv_nodes.specs.Tree.{count, Forest, Label, no_trees, node, tree}
use Rattle.yv_nodes.specs.declared.node.NodeId.{NodeId}
use Rattle.yv_schema_tables.specs.Sound.{IsChild, IsSound}
use Rattle.yv_walk.specs.Context.{IsContext, members_of, parent_of}
use Rattle.yv_walk.specs.InnerNextExisting.{Ascend, IsUnkept}
use Rattle.yv_walk.specs.Existence.{any, child_exists, ChildrenStand, is_there, kind_standing, passes, row_standing, existence_of, stands_in, tree_standing}
use Rattle.yv_walk.specs.declared.context.Context.{Context}
use Rattle.yv_walk.specs.declared.existence.Existence.{Existence}
use Rattle.yv_walk.specs.declared.existence.Existence.TheVariants.{Nothing, Only}
use Rattle.yv_walk.proofs.ExistingChildren.{count_drop, count_of}
use Rattle.yv_walk.proofs.Above.{rank_within}
use Rattle.yv_walk.proofs.TreesInSchema.{above_of}
use Rattle.yv_walk.proofs.Stands.{inner_stands}

-- ---- their numbers

at_least : (at : ℕ) (ts : Forest) (k : ℕ) (d : NodeId) → k < length (numbers_from at ts) → at + k ≤ (get_or (numbers_from at ts) k d).0
at_least at no_trees k d lt = absurd (omega (arith, lt))
at_least at (tree (node l kids) ts) zero d lt = let same : at + 0 ≤ at = omega arith in same
at_least at (tree (node l kids) ts) (suc k) d lt =
    let h = at_least (at + 1 + count kids) ts k d (omega (arith, lt)) in
    omega (arith, h)

numbers_ascend : (at : ℕ) (ts : Forest) → Ascend (numbers_from at ts)
numbers_ascend at no_trees i k d less lt = absurd (omega (arith, lt))
numbers_ascend at (tree (node l kids) ts) i zero d less lt = absurd (omega (arith, less))
numbers_ascend at (tree (node l kids) ts) zero (suc k) d less lt =
    let h = at_least (at + 1 + count kids) ts k d (omega (arith, lt)) in
    omega (arith, h)
numbers_ascend at (tree (node l kids) ts) (suc i) (suc k) d less lt = numbers_ascend (at + 1 + count kids) ts i k d (omega (arith, less)) (omega (arith, lt))

pub children_ascend : (s : Rows) (p : NodeId) → IsSound s → rank p ≤ length s.nodes → Ascend (children_of s p)
children_ascend s p sound le = subst (λ (cs : List NodeId). Ascend cs) (sym (above_of s p sound le).are) (numbers_ascend (rank p) (below s p))

-- there are fewer than numbers of 32 bits
pub place_small : (s : Rows) (p : NodeId) (place : ℕ) → IsSound s → rank p ≤ length s.nodes → place < length (children_of s p) → place < 4294967295
place_small s p place sound le lt =
    let are : children_of s p ≡ numbers_from (rank p) (below s p) = (above_of s p sound le).are in
    let low : rank p + place ≤ (get_or (children_of s p) place p).0 =
    subst (λ (cs : List NodeId). place < length cs → rank p + place ≤ (get_or cs place p).0) (sym are) (at_least (rank p) (below s p) place p) lt in
    let within : (get_or (children_of s p) place p).0 < length s.nodes = (sound.children p le place p lt).within in
    omega (arith, low, within, sound.small)

-- ---- nothing is kept of it

not_there : (k : NodeKind) (d : Data) → is_data k ≡ false → is_there k d ≡ false
not_there kind.LeafList d e = absurd (true≢false e)
not_there kind.List d e = absurd (true≢false e)
not_there kind.Container d e = e
not_there kind.Leaf d e = e
not_there kind.Anydata d e = e
not_there kind.Anyxml d e = e
not_there _ d e = refl

not_written : (k : NodeKind) (n : NodeId) (found : Option Data) → is_data k ≡ false → row_standing k n found ≡ Nothing
not_written k n None e = refl
not_written k n (Some d) e = ap (λ (b : Bool). cond b (Only n) Nothing) (not_there k d e)

nothing_by : (b : Bool) (inner own : Existence) → (b ≡ true → inner ≡ Nothing) → (b ≡ false → own ≡ Nothing) → cond b inner own ≡ Nothing
nothing_by true inner own f g = f refl
nothing_by false inner own f g = g refl

unkept_kind : (k : NodeKind) (n : NodeId) (found : Option Data) (inner : Existence) → (is_data k ≡ true → found ≡ None) → (is_passed k ≡ true → inner ≡ Nothing)
    → kind_standing k n found inner ≡ Nothing
unkept_kind k n found inner none nothing =
    nothing_by (is_passed k) inner (row_standing k n found) nothing (λ own. elim (cases_Bool (is_data k)) [
      | inl e ↦ ap (row_standing k n) (none e)
      | inr e ↦ not_written k n found e
    ])

pub unkept_nothing : (s : Rows) (c : Context) (x : NodeId) → IsSound s → x.0 < length s.nodes → IsContext s c → stands_in s (parent_of c) x ≡ true → IsUnkept c x.0
    → tree_standing x.0 (tree_of s x) (members_of c) ≡ Nothing
unkept_nothing s c x sound lt context stands unkept =
    let l : Label = (row_at s x).label in
    let ms : Members = members_of c in
    let inside : is_root x ≡ false = grind (arith, nat_tests, sound.small) in
    let number : rank x ≡ x.0 + 1 = ap (λ (b : Bool). cond b 0 (x.0 + 1)) inside in
    unkept_kind l.defined.kind x (get_member l.member ms) (existence_of (x.0 + 1) (below s x) ms)
    (λ is_one. sym (context.values x stands is_one) ∙ unkept.value)
    (λ pass. ap (λ (n : ℕ). existence_of n (below s x) ms) (sym number)
    ∙ sym (context.marks x stands (ap (λ (b : Bool). cond b false (is_passed l.defined.kind)) inside ∙ pass)) ∙ unkept.mark)

-- of the children from one place up to another nothing is kept
abbrev pub AreUnkept : Context → List NodeId → (from to : ℕ) → Type 0
AreUnkept c cs from to = (place : ℕ) (d : NodeId) → from ≤ place → place < to → place < length cs → IsUnkept c (get_or cs place d).0

-- none of them exists, where the node's children stand in the object
pub unkept_children : (s : Rows) (c : Context) (p : NodeId) (cs : List NodeId) (from to : ℕ) → IsSound s → rank p ≤ length s.nodes → IsContext s c → ChildrenStand s (parent_of c) p
    → cs ≡ children_of s p → AreUnkept c cs from to → (place : ℕ) → from ≤ place → place < to → place < length (children_of s p)
    → child_exists s p (members_of c) place ≡ false
unkept_children s c p cs from to sound le context stand same unkept place low high within =
    let x : NodeId = get_or (children_of s p) place p in
    let here : IsUnkept c x.0 = subst (λ (xs : List NodeId). AreUnkept c xs from to) same unkept place p low high within in
    let is_child : IsChild s p x = sound.children p le place p within in
    ap any (unkept_nothing s c x sound is_child.within context (stand place p within) here)

pub unkept_places : (s : Rows) (c : Context) (p : NodeId) (cs : List NodeId) (from to : ℕ) → IsSound s → p.0 < length s.nodes → IsContext s c → stands_in s (parent_of c) p ≡ true
    → passes s p ≡ true → cs ≡ children_of s p → AreUnkept c cs from to → (place : ℕ) → from ≤ place → place < to → place < length (children_of s p)
    → child_exists s p (members_of c) place ≡ false
unkept_places s c p cs from to sound lt context stands pass same unkept place low high within =
    unkept_children s c p cs from to sound (rank_within s p lt) context (λ i d less. inner_stands s (parent_of c) p i d sound stands pass less) same unkept place low high within

-- ---- how many exist

-- those that don't exist don't count
pub count_past : (k : ℕ) (s : Rows) (p : NodeId) (from : ℕ) (ms : Members) → IsSound s → rank p ≤ length s.nodes → AreTrees s (children_of s p)
    → from + k ≤ length (children_of s p) → ((place : ℕ) → from ≤ place → place < from + k → child_exists s p ms place ≡ false)
    → count_of s (drop from (children_of s p)) ms ≡ count_of s (drop (from + k) (children_of s p)) ms
count_past zero s p from ms sound le trees fits none =
    let same : from ≡ from + zero = omega arith in
    ap (λ (n : ℕ). count_of s (drop n (children_of s p)) ms) same
count_past (suc k) s p from ms sound le trees fits none =
    let cs : List NodeId = children_of s p in
    let next : ℕ = count_of s (drop (from + 1) cs) ms in
    let first : count_of s (drop from cs) ms ≡ 0 + next =
    count_drop s p from p ms sound le trees (omega (arith, fits)) ∙ ap (λ (b : Bool). cond b 1 0 + next) (none from (omega arith) (omega arith)) in
    let rest : next ≡ count_of s (drop (from + 1 + k) cs) ms =
    count_past k s p (from + 1) ms sound le trees (omega (arith, fits)) (λ place low high. none place (omega (arith, low)) (omega (arith, high))) in
    let same : from + 1 + k ≡ from + suc k = omega arith in
    let end : count_of s (drop (from + 1 + k) cs) ms ≡ count_of s (drop (from + suc k) cs) ms = ap (λ (n : ℕ). count_of s (drop n cs) ms) same in
    omega (arith, first, rest, end)

pub none_left : (s : Rows) (cs : List NodeId) (from : ℕ) (ms : Members) → length cs ≤ from → count_of s (drop from cs) ms ≡ 0
none_left s cs from ms le = ap (λ (ns : List NodeId). count_of s ns ms) (drop_of_length-le cs le)
