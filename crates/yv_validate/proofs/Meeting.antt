-- Which nodes stand in an object, one after the other, and in which scope.
use Rattle.std.proofs.Common.{◌≡◌, ℕ, ◌+◌, ◌<◌, ◌≤◌, ◌&&◌, not, cond, List, length, get_or, true, false, Bool, Option, None, refl, ap, ◌∙◌, subst, sym, arith}
use Rattle.std.specs.List.{slice_index_or}
use Rattle.serde_json.specs.Data.{Members}
use Rattle.serde_json.specs.Find.{get_member}
use Rattle.yv_node_content.specs.Kinds.{is_passed}
use Rattle.yv_node_content.specs.declared.kind.NodeKind.{NodeKind}
use Rattle.yv_node_content.specs.declared.kind.NodeKind.TheVariants as kind
use Rattle.yv_nodes.specs.declared.node.NodeId.{NodeId}
use Rattle.yv_nodes.specs.Rows.{Rows, below, children_of, rank, row_at, tree_of}
use Rattle.yv_schema_tables.specs.Sound.{IsSound, is_object}
use Rattle.yv_walk.specs.Context.{IsContext, parent_of}
use Rattle.yv_walk.specs.Existence.{kind_standing, passes, existence_of, stands_in, tree_standing}
use Rattle.yv_walk.specs.declared.context.Context.{Context}
use Rattle.yv_walk.specs.declared.existence.Existence.{Existence}
use Rattle.yv_data_leafrefs.specs.InUse.{is_number}
use Rattle.yv_validate.specs.InnerWalk.{Meets, MeetsBelow}
use Rattle.yv_data_leafrefs.specs.declared.scope.RuleScope.{RuleScope}
use Rattle.yv_data_leafrefs.specs.declared.scope.RuleScope.TheVariants.{InCase, InDefault}
use Rattle.yv_data_quiet.proofs.Children.{not_same, rank_is}

-- a child
pub meets_child : (s : Rows) (x : Context) (p : NodeId) (cs : List NodeId) (i : ℕ) (d : NodeId) → MeetsBelow s x p → cs ≡ children_of s p → i < length cs → Meets s x (get_or cs i d)
meets_child s x p cs i d h same lt = record {
  context = h.context;
  stands = ap (λ xs. stands_in s (parent_of x) (get_or xs i d)) same ∙ h.stand i d (subst (λ (xs : List NodeId). i < length xs) same lt);
}

-- the children of a node that is no choice or case, in its object
pub meets_object : (s : Rows) (x : Context) (p : NodeId)
    → ((s : Rows) (p : NodeId) (i : ℕ) (d : NodeId) → IsSound s → rank p ≤ length s.nodes → is_object s p ≡ true → i < length (children_of s p)
    → stands_in s p (slice_index_or (children_of s p) i d) ≡ true)
    → IsSound s → rank p ≤ length s.nodes → is_object s p ≡ true → IsContext s x → parent_of x ≡ p → MeetsBelow s x p
meets_object s x p law sound le object context is = record {
  context = context;
  stand = λ i d lt. ap (λ q. stands_in s q (slice_index_or (children_of s p) i d)) is ∙ law s p i d sound le object lt;
}

-- what exists of a choice is what exists in it
pub choice_standing : (s : Rows) (n : NodeId) (ms : Members) → IsSound s → n.0 < length s.nodes → (row_at s n).label.defined.kind ≡ kind.Choice
    → tree_standing n.0 (tree_of s n) ms ≡ existence_of (rank n) (below s n) ms
choice_standing s n ms sound lt is =
    ap (λ (k : NodeKind). kind_standing k n (get_member (row_at s n).label.member ms) (existence_of (n.0 + 1) (below s n) ms)) is
    ∙ ap (λ (m : ℕ). existence_of m (below s n) ms) (sym (rank_is s n sound lt))

and_false : (b : Bool) → (b && false) ≡ false
and_false true = refl
and_false false = refl

and_true : (b : Bool) → (b && true) ≡ b
and_true true = refl
and_true false = refl

counts : (is_any : Bool) (o : Option NodeId) (at : ℕ) → is_number (cond is_any None o) at ≡ (is_number o at && not is_any)
counts true o at = sym (and_false (is_number o at))
counts false o at = sym (and_true (is_number o at))

-- the scope of a choice's child
pub scope_is : (is_any : Bool) (o : Option NodeId) (at : ℕ) (those : Existence) (fallback : Option NodeId) (scope : RuleScope) → fallback ≡ cond is_any None o
    → scope ≡ cond (is_number fallback at) InDefault (InCase those) → scope ≡ cond (is_number o at && not is_any) InDefault (InCase those)
scope_is is_any o at those fallback scope is chosen =
    chosen ∙ ap (λ (f : Option NodeId). cond (is_number f at) InDefault (InCase those)) is ∙ ap (λ (b : Bool). cond b InDefault (InCase those)) (counts is_any o at)

-- a choice has no object of its own
pub choice_passes : (s : Rows) (n : NodeId) → IsSound s → n.0 < length s.nodes → (row_at s n).label.defined.kind ≡ kind.Choice → passes s n ≡ true
choice_passes s n sound lt is =
    ap (λ (b : Bool). cond b false (is_passed (row_at s n).label.defined.kind)) (not_same n.0 4294967295 (omega (arith, sound.small, lt))) ∙ ap is_passed is
