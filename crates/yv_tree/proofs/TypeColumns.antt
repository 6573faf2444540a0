-- Where types begin in columns.
use Rattle.std.proofs.Common.{◌≡◌, ℕ, ◌+◌, ◌≤◌, [], ◌++◌, length, Bool, true, false, refl, ap, arith, codes, if◌then◌else◌, ◌||◌, length-append, inl, inr}
use Rattle.std.proofs.lemmas.Bool.{false≢true}
use Rattle.yv_node_content.specs.declared.kind.NodeKind.{NodeKind}
use Rattle.yv_node_content.specs.declared.kind.NodeKind.TheVariants as kinds
use Rattle.yv_node_content.specs.declared.kind.NodeStatus.{NodeStatus}
use Rattle.yv_node_content.specs.declared.kind.NodeStatus.TheVariants.{Current, Deprecated, Obsolete}
use Rattle.yv_nodes.specs.Tree.{Forest, Label, no_trees, node, tree}
use Rattle.yv_tree.specs.Columns.{Sheet, blanks_before, column_front, column_options, counts, label_width, shown_label, tree_width, width}
use Rattle.yv_tree.specs.Lines.{access, line_start, status_mark}
use Rattle.yv_tree.specs.LawWords.{HasLineOf, TypeBegins, is_typed}

mark_length : (status : NodeStatus) → length (status_mark status) ≡ 1
mark_length Current = refl
mark_length Deprecated = refl
mark_length Obsolete = refl

either_length : (a b : Bool) → length (if a then codes "-w" else (if b then codes "rw" else codes "ro")) ≡ 2
either_length true b = refl
either_length false true = refl
either_length false false = refl

access_length : (l : Label) → length (access l ++ codes " ") ≡ 3
access_length l = omega (arith, length-append (access l) (codes " "), either_length l.is_input l.is_config)

start_length : (k : NodeKind) (l : Label) → is_typed k ≡ true → length (line_start k l) ≡ 3
start_length kinds.Leaf l e = access_length l
start_length kinds.LeafList l e = access_length l
start_length kinds.Anydata l e = access_length l
start_length kinds.Anyxml l e = access_length l
start_length _ l e = absurd (false≢true e)

optional_if : (b : Bool) → length (if b then [] else codes "?") ≤ 1
optional_if true = omega arith
optional_if false = omega arith

options_length : (k : NodeKind) (l : Label) → is_typed k ≡ true → length (column_options k l) ≤ 1
options_length kinds.Leaf l e = optional_if (l.defined.is_mandatory || l.is_key)
options_length kinds.LeafList l e = omega arith
options_length kinds.Anydata l e = optional_if (l.defined.is_mandatory || l.is_key)
options_length kinds.Anyxml l e = optional_if (l.defined.is_mandatory || l.is_key)
options_length _ l e = absurd (false≢true e)

it_counts : (k : NodeKind) (l : Label) → is_typed k ≡ true → counts k l ≡ true
it_counts kinds.Leaf l e = refl
it_counts kinds.LeafList l e = refl
it_counts kinds.Anydata l e = refl
it_counts kinds.Anyxml l e = refl
it_counts _ l e = absurd (false≢true e)

-- a name that counts is no longer than the width of its group
within : (sheet : Sheet) (ts : Forest) (l : Label) → HasLineOf l ts → label_width sheet l ≤ width sheet ts
within sheet no_trees l h = absurd h
within sheet (tree (node m kids) ts) l h =
    elim h [
      | inl here ↦
          let same : label_width sheet l ≡ label_width sheet m = ap (label_width sheet) here.0 in
          let shown : tree_width sheet (node m kids) ≡ label_width sheet m = ap (λ b. if b then label_width sheet m else 0) here.1 in
          omega (arith, same, shown)
      | inr later ↦ omega (arith, within sheet ts l later)
    ]

-- the type of a node begins in the column of its group
pub begins : (sheet : Sheet) (ts : Forest) (l : Label) → HasLineOf l ts → is_typed l.defined.kind ≡ true
    → (blanks : ℕ) × TypeBegins sheet (width sheet ts) l blanks
begins sheet ts l h typed =
    let label = shown_label sheet l in
    let marks = column_options l.defined.kind l in
    let start = line_start l.defined.kind l in
    let first = status_mark l.defined.status in
    let counted : label_width sheet l ≡ length label = ap (λ b. if b then length label else 0) (it_counts l.defined.kind l typed) in
    let inside : label_width sheet l ≤ width sheet ts = within sheet ts l h in
    let few : length marks ≤ 1 = options_length l.defined.kind l typed in
    let shown : length (label ++ marks) ≡ length label + length marks = length-append label marks in
    let front : length (column_front sheet l) ≡ 6 + length label + length marks =
    omega (
      arith,
      length-append (first ++ codes "--" ++ start ++ label) marks,
      length-append (first ++ codes "--" ++ start) label,
      length-append (first ++ codes "--") start,
      length-append first (codes "--"),
      mark_length l.defined.status,
      start_length l.defined.kind l typed,
    ) in
    (blanks_before (width sheet ts) sheet l, record { line = refl; apart = omega (arith, counted, inside, few, shown); column = omega (arith, counted, inside, few, shown, front) })
