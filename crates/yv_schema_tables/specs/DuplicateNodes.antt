-- Nodes that are refused, since an earlier one has their name.
use Rattle.std.specs.Prelude.{◌≡◌, ◌<◌, ◌⊎◌, ℕ, List, [], ◌∷◌, ◌++◌, length, Some, slice_get, if◌then◌else◌}
use Rattle.yv_text_statement.specs.declared.refusal.Refusal.{Refusal}
use Rattle.yv_text_statement.specs.declared.refusal.Code.TheVariants as code
use Rattle.yv_text_statement.specs.Order.{Among, Stands}
use Rattle.yv_node_content.specs.declared.kind.NodeKind.{NodeKind}
use Rattle.yv_node_content.specs.Kinds.{is_case, is_choice, is_passed}
use Rattle.yv_nodes.specs.Places.{places}
use Rattle.yv_nodes.specs.Refusals.{refusal_of}
use Rattle.yv_nodes.specs.Tree.{Forest, Label, labels, no_trees, node, tree}

-- the nodes whose names have to differ below one parent: also those in choices and cases, and
-- choices themselves, but no cases
abbrev pub names_that_differ : Forest → List Label
names_that_differ no_trees = []
names_that_differ (tree (node l kids) ts) =
    (if is_case l.defined.kind then [] else l ∷ [])
    ++ (if is_passed l.defined.kind then names_that_differ kids else []) ++ names_that_differ ts

-- those below a node of a kind: of a choice its cases, and the nodes that are cases of their own;
-- those below a case are compared where its choice is
abbrev pub family : NodeKind → Forest → List Label
family kind kids =
    if is_choice kind then labels kids else (if is_case kind then [] else names_that_differ kids)

-- a refusal at the statement that defines a node
abbrev pub duplicate_at : Label → Refusal
duplicate_at l = refusal_of code.DuplicateNode l

-- a node before number k has the name of this one, and is of the same module by `module_of`
pub record IsRepeated {A : Type 0} (module_of : Label → A) (ls : List Label) (k : ℕ)
    (l : Label) : Type 0 where
  pub place : ℕ
  pub first : Label
  pub before : place < k
  pub at : slice_get ls place ≡ Some first
  pub same_module : module_of first ≡ module_of l
  pub same_name : first.defined.name ≡ l.defined.name

-- two of these nodes have one name, and are of one module by `module_of`: the later is refused
abbrev pub RepeatsBy : {A : Type 0} → (module_of : Label → A) → List Label → Refusal → Type 0
RepeatsBy module_of ls f =
    Among ls (λ k l. Stands (IsRepeated module_of ls k l) (duplicate_at l)) (length ls) f

-- two of these nodes have one module, by its name, and one name
abbrev pub HasRepeat : List Label → Refusal → Type 0
HasRepeat ls f = RepeatsBy (λ (l : Label). l.module_name) ls f

-- two nodes have one module and one name where they have to differ (RFC 7950, section 6.2.1): at
-- the top, or below a node
abbrev pub HasDuplicate : Forest → Refusal → Type 0
HasDuplicate ts f = HasRepeat (names_that_differ ts) f
    ⊎ Among (places ts) (λ k p. HasRepeat (family p.label.defined.kind p.kids))
    (length (places ts)) f
