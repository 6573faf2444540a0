-- The lines of nodes and of groups of nodes.
use Rattle.std.proofs.Common.{◌≡◌, ℕ, Bool, true, false, List, ◌∷◌, ◌++◌, refl, sym, ap, ◌∙◌, subst, if◌then◌else◌, Option}
use Rattle.std.proofs.lemmas.Bool.{false≢true}
use Rattle.std.specs.Prelude.{codes}
use Rattle.yv_nodes.specs.declared.node.NodeId.{NodeId}
use Rattle.yv_nodes.specs.Tree.{Forest, Tree, no_trees, node, tree}
use Rattle.yv_nodes.specs.Rows.{Module, Rows, row_at, tree_of}
use Rattle.yv_tree.specs.Columns.{Sheet, case_line, label_width, lacks_case, width}
use Rattle.yv_tree.specs.Lines.{any_line, bars, has_line}
use Rattle.yv_tree.specs.DrawnNodes.{drawn_nodes, drawn_tree, drawn_trees, if_left, none_left, one_less}
use Rattle.yv_tree.specs.Diagram.{text_of}
use Rattle.yv_tree.specs.InnerDraw.{node_lines, sheet_with}
use Rattle.yv_tree.specs.InnerPart.{trimmed_tree}
use Rattle.yv_base_streams.specs.Pages.{Adds, Output}
use Rattle.yv_tree.proofs.Parts.{adds_both}
use Rattle.yv_tree.proofs.WholeDrawings.{both}
use Rattle.yv_tree_drawing.specs.Steps.{Step}

-- without columns the width makes no difference
no_width_tree : (modules : List Module) (own : ℕ) (in_choice : Bool) (one other : ℕ) (left : Option ℕ) (margin : List ℕ) (follows : Bool) (t : Tree)
    → drawn_tree (sheet_with modules own false) in_choice one left margin follows t ≡ drawn_tree (sheet_with modules own false) in_choice other left margin follows t
no_width_tree modules own in_choice one other left margin follows (node l kids) = refl

no_width : (modules : List Module) (own : ℕ) (in_choice : Bool) (one other : ℕ) (left : Option ℕ) (margin : List ℕ) (ts : Forest)
    → drawn_trees (sheet_with modules own false) in_choice one left margin ts ≡ drawn_trees (sheet_with modules own false) in_choice other left margin ts
no_width modules own in_choice one other left margin no_trees = refl
no_width modules own in_choice one other left margin (tree t ts) =
    both (has_line t) (drawn_tree (sheet_with modules own false) in_choice one left margin (any_line ts) t) (drawn_tree (sheet_with modules own false) in_choice other left margin (any_line ts) t)
    (drawn_trees (sheet_with modules own false) in_choice one left margin ts) (drawn_trees (sheet_with modules own false) in_choice other left margin ts)
    (no_width_tree modules own in_choice one other left margin (any_line ts) t) (no_width modules own in_choice one other left margin ts)

-- a width that is right where it is asked for
same_lines : (modules : List Module) (own : ℕ) (columns in_choice : Bool) (one other : ℕ) (left : Option ℕ) (margin : List ℕ) (ts : Forest) → (columns ≡ true → one ≡ other)
    → drawn_trees (sheet_with modules own columns) in_choice one left margin ts ≡ drawn_trees (sheet_with modules own columns) in_choice other left margin ts
same_lines modules own true in_choice one other left margin ts right = ap (λ n. drawn_trees (sheet_with modules own true) in_choice n left margin ts) (right refl)
same_lines modules own false in_choice one other left margin ts right = no_width modules own in_choice one other left margin ts

some_left : (left : Option ℕ) (b : Bool) (margin : List ℕ) (ts : Forest) (lines : List (List ℕ)) → none_left left ≡ b → b ≡ false → if_left left margin ts lines ≡ lines
some_left left true margin ts lines e f = absurd (false≢true (sym f))
some_left left false margin ts lines e f = rw e refl

-- where levels are left, the lines of a group are those of its nodes
pub with_levels : (modules : List Module) (own : ℕ) (columns in_choice : Bool) (measured : ℕ) (left : Option ℕ) (margin : List ℕ) (ts : Forest) → none_left left ≡ false
    → (columns ≡ true → measured ≡ width (sheet_with modules own columns) ts)
    → drawn_nodes (sheet_with modules own columns) in_choice left margin ts ≡ drawn_trees (sheet_with modules own columns) in_choice measured (one_less left) margin ts
with_levels modules own columns in_choice measured left margin ts some right =
    some_left left false margin ts (drawn_trees (sheet_with modules own columns) in_choice (width (sheet_with modules own columns) ts) (one_less left) margin ts) some refl
    ∙ sym (same_lines modules own columns in_choice measured (width (sheet_with modules own columns) ts) (one_less left) margin ts right)

case_first : (b : Bool) (x y : List (List ℕ)) → b ≡ true → (if b then x else y) ≡ x
case_first true x y e = refl
case_first false x y e = absurd (false≢true e)

-- a node before which a case is written out
pub with_case : (sheet : Sheet) (in_choice : Bool) (group_width : ℕ) (left : Option ℕ) (margin : List ℕ) (follows : Bool) (way : List Step) (s : Rows) (c : NodeId)
    → lacks_case sheet in_choice (row_at s c).label ≡ true
    → text_of (drawn_tree sheet in_choice group_width left margin follows (trimmed_tree way (tree_of s c)))
    ≡ (margin ++ case_line sheet (row_at s c).label ++ codes "\n")
    ++ text_of (node_lines sheet (label_width sheet (row_at s c).label) left (margin ++ bars follows) false (trimmed_tree way (tree_of s c)))
with_case sheet in_choice group_width left margin follows way s c lacks =
    ap text_of (case_first (lacks_case sheet in_choice (row_at s c).label)
    ((margin ++ case_line sheet (row_at s c).label) ∷ node_lines sheet (label_width sheet (row_at s c).label) left (margin ++ bars follows) false (trimmed_tree way (tree_of s c)))
    (node_lines sheet group_width left margin follows (trimmed_tree way (tree_of s c))) lacks)

-- a text of two parts is put by putting them one after the other
pub adds_parts : (all first rest : List ℕ) (old mid new : Output) → all ≡ first ++ rest → Adds first old mid → Adds rest mid new → Adds all old new
adds_parts all first rest old mid new e one two = subst (λ (l : List ℕ). Adds l old new) (sym e) (adds_both first rest old mid new one two)
