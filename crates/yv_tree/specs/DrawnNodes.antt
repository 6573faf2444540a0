-- The lines of schema nodes in a diagram that stops at a level (RFC 8340, section 2.4).
use Rattle.std.specs.Prelude.{ℕ, ◌-◌, List, [], ◌∷◌, ◌++◌, Bool, true, false, ◌==◌, Option, Some, None, if◌then◌else◌, codes}
use Rattle.yv_nodes.specs.Tree.{Tree, node, Forest, no_trees, tree}
use Rattle.yv_tree.specs.Columns.{Sheet, case_line, is_choice, label_width, lacks_case, sheet_line, width}
use Rattle.yv_tree.specs.Lines.{any_line, bars, has_line}

-- so many levels are still to be drawn, or all of them: there is none left
abbrev pub none_left : Option ℕ → Bool
none_left None = false
none_left (Some levels) = levels == 0

-- one level fewer is left
abbrev pub one_less : Option ℕ → Option ℕ
one_less None = None
one_less (Some levels) = Some (levels - 1)

-- the line in the place of nodes below the last level, where one of them has a line
abbrev pub dots : (margin : List ℕ) → (is_there : Bool) → List (List ℕ)
dots margin false = []
dots margin true = (margin ++ codes "...") ∷ []

-- the lines of nodes, or the one in their place where no level is left
abbrev pub if_left : (left : Option ℕ) → (margin : List ℕ) → Forest → (lines : List (List ℕ))
    → List (List ℕ)
if_left left margin ts lines = if none_left left then dots margin (any_line ts) else lines

-- The lines of nodes, in order, each followed by those below it, of which so many levels are left.
-- They may be in a choice, and are in a group of this width. A case that is written out before a
-- node is no level, and the node is a group of its own.
abbrev mutual
  pub drawn_tree : Sheet → (in_choice : Bool) → (width : ℕ) → (left : Option ℕ)
      → (margin : List ℕ) → (follows : Bool) → Tree → List (List ℕ)
  drawn_tree sheet in_choice group_width left margin follows (node l kids) =
      if lacks_case sheet in_choice l
      then (margin ++ case_line sheet l)
      ∷ (margin ++ bars follows ++ sheet_line sheet (label_width sheet l) l)
      ∷ if_left left (margin ++ bars follows ++ bars false) kids
      (drawn_trees sheet (is_choice l.defined.kind) (width sheet kids) (one_less left)
      (margin ++ bars follows ++ bars false) kids)
      else (margin ++ sheet_line sheet group_width l)
      ∷ if_left left (margin ++ bars follows) kids
      (drawn_trees sheet (is_choice l.defined.kind) (width sheet kids) (one_less left)
      (margin ++ bars follows) kids)

  pub drawn_trees : Sheet → (in_choice : Bool) → (width : ℕ) → (left : Option ℕ)
      → (margin : List ℕ) → Forest → List (List ℕ)
  drawn_trees sheet in_choice group_width left margin no_trees = []
  drawn_trees sheet in_choice group_width left margin (tree t ts) =
      (if has_line t then drawn_tree sheet in_choice group_width left margin (any_line ts) t
      else [])
      ++ drawn_trees sheet in_choice group_width left margin ts

-- the lines of a group of nodes of which so many levels are left, these included
abbrev pub drawn_nodes : Sheet → (in_choice : Bool) → (left : Option ℕ) → (margin : List ℕ)
    → Forest → List (List ℕ)
drawn_nodes sheet in_choice left margin ts =
    if_left left margin ts (drawn_trees sheet in_choice (width sheet ts) (one_less left) margin ts)
