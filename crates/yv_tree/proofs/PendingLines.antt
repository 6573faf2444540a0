-- The lines of trees one of which waits for what follows it.
use Rattle.std.proofs.Common.{◌≡◌, ℕ, ◌+◌, ◌<◌, ◌≤◌, Bool, true, false, List, [], ◌++◌, length, drop, get_or, refl, sym, ap, ◌∙◌, subst, append-nil, if◌then◌else◌, Option, Some, None}
use Rattle.std.proofs.lemmas.Bool.{false≢true}
use Rattle.std.proofs.lemmas.List.{drop_all}
use Rattle.std.specs.Prelude.{IfSome}
use Rattle.yv_nodes.specs.declared.node.NodeId.{NodeId}
use Rattle.yv_nodes.specs.Tree.{Forest, Tree, no_trees, tree}
use Rattle.yv_nodes.specs.Rows.{AreTrees, Rows, forest, tree_of}
use Rattle.yv_tree.proofs.Parts.{text_append}
use Rattle.yv_tree.specs.Lines.{any_line, has_line}
use Rattle.yv_tree.specs.DrawnNodes.{drawn_tree, drawn_trees}
use Rattle.yv_tree.specs.Diagram.{text_of}
use Rattle.yv_tree.specs.InnerDraw.{Form, IsShown, Leaves, shown_text, trees_text, waiting_text, waiting_trees}
use Rattle.yv_tree.specs.InnerPart.{trimmed_trees, trimmed_tree}
use Rattle.yv_base_streams.specs.Pages.{Adds, Output}
use Rattle.yv_tree.proofs.TextRemainder.{left_less}

-- lines that are drawn
put_lines : (b : Bool) (xs ys : List (List ℕ)) → b ≡ true → text_of ((if b then xs else []) ++ ys) ≡ text_of xs ++ text_of ys
put_lines true xs ys e = text_append xs ys
put_lines false xs ys e = absurd (false≢true e)

-- lines that aren't
skipped : (b : Bool) (xs ys : List (List ℕ)) → b ≡ false → (if b then xs else []) ++ ys ≡ ys
skipped true xs ys e = absurd (false≢true (sym e))
skipped false xs ys e = refl

-- the lines of a tree
abbrev lines_of : Form → Bool → Tree → List (List ℕ)
lines_of f follows t = drawn_tree f.sheet f.in_choice f.width f.left f.margin follows (trimmed_tree f.way t)

-- the lines of trees
abbrev all_lines : Form → Forest → List (List ℕ)
all_lines f ts = drawn_trees f.sheet f.in_choice f.width f.left f.margin (trimmed_trees f.way ts)

-- a tree with a line, which trees with or without lines follow
drawn_first : (f : Form) (follows : Bool) (t : Tree) (ts : Forest) → has_line (trimmed_tree f.way t) ≡ true → any_line (trimmed_trees f.way ts) ≡ follows
    → trees_text f (tree t ts) ≡ shown_text f follows t ++ trees_text f ts
drawn_first f follows t ts shown some =
    put_lines (has_line (trimmed_tree f.way t)) (lines_of f (any_line (trimmed_trees f.way ts)) t) (all_lines f ts) shown
    ∙ ap (λ (b : Bool). text_of (lines_of f b t) ++ text_of (all_lines f ts)) some

line_first : (way : Form) (t : Tree) (ts : Forest) → has_line (trimmed_tree way.way t) ≡ true → any_line (trimmed_trees way.way (tree t ts)) ≡ true
line_first way t ts shown = rw shown refl

line_later : (way : Form) (t : Tree) (ts : Forest) → has_line (trimmed_tree way.way t) ≡ false → any_line (trimmed_trees way.way (tree t ts)) ≡ any_line (trimmed_trees way.way ts)
line_later way t ts hidden = rw hidden refl

-- a tree with a line behind the one that waits
waits_no_more : (s : Rows) (f : Form) (p : NodeId) (last : Option NodeId) (t : Tree) (ts : Forest) → IfSome last (IsShown s f.way p) → has_line (trimmed_tree f.way t) ≡ true
    → trees_text f (waiting_trees s last (tree t ts)) ≡ waiting_text s f true last ++ trees_text f (tree t ts)
waits_no_more s f p None t ts h shown = refl
waits_no_more s f p (Some c) t ts h shown = drawn_first f true (tree_of s c) (tree t ts) h.shown (line_first f t ts shown)

-- one without a line
waits_on : (s : Rows) (f : Form) (p : NodeId) (last : Option NodeId) (t : Tree) (ts : Forest) → IfSome last (IsShown s f.way p) → has_line (trimmed_tree f.way t) ≡ false
    → trees_text f (waiting_trees s last (tree t ts)) ≡ trees_text f (waiting_trees s last ts)
waits_on s f p None t ts h hidden =
    ap text_of (skipped (has_line (trimmed_tree f.way t)) (lines_of f (any_line (trimmed_trees f.way ts)) t) (all_lines f ts) hidden)
waits_on s f p (Some c) t ts h hidden =
    drawn_first f (any_line (trimmed_trees f.way ts)) (tree_of s c) (tree t ts) h.shown (line_later f t ts hidden)
    ∙ ap (λ (l : List ℕ). text_of (lines_of f (any_line (trimmed_trees f.way ts)) (tree_of s c)) ++ l)
    (ap text_of (skipped (has_line (trimmed_tree f.way t)) (lines_of f (any_line (trimmed_trees f.way ts)) t) (all_lines f ts) hidden))
    ∙ sym (drawn_first f (any_line (trimmed_trees f.way ts)) (tree_of s c) ts h.shown refl)

-- nothing follows
waits_at_end : (s : Rows) (f : Form) (p : NodeId) (last : Option NodeId) → IfSome last (IsShown s f.way p)
    → trees_text f (waiting_trees s last no_trees) ≡ waiting_text s f false last
waits_at_end s f p None h = refl
waits_at_end s f p (Some c) h = drawn_first f false (tree_of s c) no_trees h.shown refl ∙ append-nil (shown_text f false (tree_of s c))

-- a node with a line waits in place of the one before it, whose lines were put
pub shown_step : (s : Rows) (f : Form) (p : NodeId) (last : Option NodeId) (cs : List NodeId) (i : ℕ) (d : NodeId)
    (all : List ℕ) (old mid new : Output) → AreTrees s cs → i < length cs → IfSome last (IsShown s f.way p) → has_line (trimmed_tree f.way (tree_of s (get_or cs i d))) ≡ true
    → Leaves all (trees_text f (waiting_trees s last (forest s (drop i cs)))) old mid → Adds (waiting_text s f true last) mid new
    → Leaves all (trees_text f (waiting_trees s (Some (get_or cs i d)) (forest s (drop (i + 1) cs)))) old new
shown_step s f p last cs i d all old mid new are less h shown before put =
    let c = get_or cs i d in
    let rest = forest s (drop (i + 1) cs) in
    let same : trees_text f (waiting_trees s last (forest s (drop i cs))) ≡ waiting_text s f true last ++ trees_text f (tree (tree_of s c) rest) =
    ap (λ (ts : Forest). trees_text f (waiting_trees s last ts)) (are i d less) ∙ waits_no_more s f p last (tree_of s c) rest h shown in
    left_less all (waiting_text s f true last) (trees_text f (tree (tree_of s c) rest)) old mid new
    (subst (λ (l : List ℕ). Leaves all l old mid) same before) put

-- a node without a line changes nothing
pub hidden_step : (s : Rows) (f : Form) (p : NodeId) (last : Option NodeId) (cs : List NodeId) (i : ℕ) (d : NodeId)
    (all : List ℕ) (old mid : Output) → AreTrees s cs → i < length cs → IfSome last (IsShown s f.way p) → has_line (trimmed_tree f.way (tree_of s (get_or cs i d))) ≡ false
    → Leaves all (trees_text f (waiting_trees s last (forest s (drop i cs)))) old mid
    → Leaves all (trees_text f (waiting_trees s last (forest s (drop (i + 1) cs)))) old mid
hidden_step s f p last cs i d all old mid are less h hidden before =
    let c = get_or cs i d in
    let rest = forest s (drop (i + 1) cs) in
    let same : trees_text f (waiting_trees s last (forest s (drop i cs))) ≡ trees_text f (waiting_trees s last rest) =
    ap (λ (ts : Forest). trees_text f (waiting_trees s last ts)) (are i d less) ∙ waits_on s f p last (tree_of s c) rest h hidden in
    subst (λ (l : List ℕ). Leaves all l old mid) same before

-- behind the last node the one that waits is put
pub end_step : (s : Rows) (f : Form) (p : NodeId) (last : Option NodeId) (cs : List NodeId) (i : ℕ)
    (all : List ℕ) (old mid new : Output) → length cs ≤ i → IfSome last (IsShown s f.way p)
    → Leaves all (trees_text f (waiting_trees s last (forest s (drop i cs)))) old mid → Adds (waiting_text s f false last) mid new
    → Adds all old new
end_step s f p last cs i all old mid new ends h before put =
    let same : trees_text f (waiting_trees s last (forest s (drop i cs))) ≡ waiting_text s f false last =
    ap (λ (xs : List NodeId). trees_text f (waiting_trees s last (forest s xs))) (drop_all i cs ends) ∙ waits_at_end s f p last h in
    before new (subst (λ (l : List ℕ). Adds l mid new) (sym same) put)
