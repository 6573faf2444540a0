-- How many children exist, one more at a time.
use Rattle.std.proofs.Common.{◌≡◌, ℕ, ◌+◌, ◌<◌, ◌≤◌, List, [], ◌∷◌, length, drop, drop-cons, add-one, get_or, Bool, true, false, cond, refl, sym, ap, ◌∙◌, arith}
use Rattle.std.proofs.lemmas.Bool.{false≢true}
use Rattle.serde_json.specs.Data.{Members}
use Rattle.yv_nodes.specs.declared.node.NodeId.{NodeId}
use Rattle.yv_nodes.specs.Numbers.{numbers_from}
use Rattle.yv_nodes.specs.Rows.{AreTrees, Rows, below, children_of, forest, rank, tree_of}
use Rattle.yv_nodes.specs.Tree.{count, Forest, no_trees, node, tree}
use Rattle.yv_schema_tables.specs.Sound.{IsSound}
use Rattle.yv_walk.specs.Existence.{any, count_standing, tree_standing}
use Rattle.yv_walk.proofs.TreesInSchema.{IsAbove, above_of}
use Rattle.yv_walk.proofs.Stands.{later_numbers}

abbrev pub start_of : List NodeId → ℕ
start_of [] = 0
start_of (c ∷ cs) = c.0

-- how many of the trees of these numbers exist
abbrev pub count_of : Rows → List NodeId → Members → ℕ
count_of s cs ms = count_standing (start_of cs) (forest s cs) ms

same_start : (at : ℕ) (ts : Forest) (cs : List NodeId) (ms : Members) → cs ≡ numbers_from at ts → count_standing (start_of cs) ts ms ≡ count_standing at ts ms
same_start at no_trees cs ms e = refl
same_start at (tree (node l kids) ts) cs ms e = ap (λ n. count_standing n (tree (node l kids) ts) ms) (ap start_of e)

-- all of them, of a node
pub count_all : (s : Rows) (p : NodeId) (ms : Members) → IsSound s → rank p ≤ length s.nodes → count_of s (children_of s p) ms ≡ count_standing (rank p) (below s p) ms
count_all s p ms sound le =
    let h : IsAbove s p = above_of s p sound le in
    same_start (rank p) (below s p) (children_of s p) ms h.are

-- the first of them, and the others
pub count_drop : (s : Rows) (p : NodeId) (i : ℕ) (d : NodeId) (ms : Members) → IsSound s → rank p ≤ length s.nodes → AreTrees s (children_of s p)
    → i < length (children_of s p)
    → count_of s (drop i (children_of s p)) ms
    ≡ cond (any (tree_standing (get_or (children_of s p) i d).0 (tree_of s (get_or (children_of s p) i d)) ms)) 1 0 + count_of s (drop (i + 1) (children_of s p)) ms
count_drop s p i d ms sound le trees lt =
    let cs : List NodeId = children_of s p in
    let c : NodeId = get_or cs i d in
    let F : Forest = forest s (drop (i + 1) cs) in
    let next : ℕ = c.0 + 1 + count (below s c) in
    let own : ℕ = cond (any (tree_standing c.0 (tree_of s c) ms)) 1 0 in
    let split : drop i cs ≡ c ∷ drop (i + 1) cs = rw (add-one) (drop-cons cs i d lt) in
    let first : start_of (drop i cs) ≡ c.0 = ap start_of split in
    let here : forest s (drop i cs) ≡ tree (tree_of s c) F = trees i d lt in
    let numbers : c ∷ drop (i + 1) cs ≡ c ∷ numbers_from next F = sym split ∙ later_numbers s p i d sound le lt ∙ ap (numbers_from c.0) here in
    let later : drop (i + 1) cs ≡ numbers_from next F = cc in
    ap (λ n. count_standing n (forest s (drop i cs)) ms) first
    ∙ ap (λ ts. count_standing c.0 ts ms) here
    ∙ ap (λ n. own + n) (sym (same_start next F (drop (i + 1) cs) ms later))

-- one more exists, or doesn't
pub more_true : (total rest new all : ℕ) (b : Bool) → total + (cond b 1 0 + rest) ≡ all → b ≡ true → new ≡ total + 1 → new + rest ≡ all
more_true total rest new all true e f g = omega (arith, e, g)
more_true total rest new all false e f g = absurd (false≢true f)

pub more_false : (total rest new all : ℕ) (b : Bool) → total + (cond b 1 0 + rest) ≡ all → b ≡ false → new ≡ total → new + rest ≡ all
more_false total rest new all true e f g = absurd (false≢true (sym f))
more_false total rest new all false e f g = omega (arith, e, g)
