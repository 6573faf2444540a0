-- What is shown of some children of a node.
use Rattle.std.proofs.Common.{◌≡◌, ℕ, zero, suc, ◌+◌, ◌-◌, ◌<◌, List, [], ◌∷◌, length, drop, take, get_or, Bool, true, false, ◌&&◌, Option, Some, None, refl, sym, ap, ◌∙◌, subst, arith, All, if◌then◌else◌}
use Rattle.std.proofs.lemmas.List.Elements.{All-get_or}
use Rattle.std.proofs.Math.Seq.{drop-cons}
use Rattle.yv_nodes.specs.declared.node.NodeId.{NodeId}
use Rattle.yv_nodes.specs.Tree.{Forest, Label, Tree, no_trees, node, tree}
use Rattle.yv_nodes.specs.Rows.{AreTrees, Rows, below, blank, forest, row_at, trees_from, tree_of}
use Rattle.yv_tree.specs.InnerPart.{IsPlaceOf, leads_at, others, part_at, step_into, trimmed_trees}
use Rattle.yv_tree.specs.Lines.{has_line}
use Rattle.yv_tree.specs.Part.{is_step, leads, part}
use Rattle.yv_tree_drawing.specs.Steps.{Step}

-- without a step all is shown
pub trimmed_all : (ts : Forest) → trimmed_trees [] ts ≡ ts
trimmed_all no_trees = refl
trimmed_all (tree (node l kids) ts) = ap (tree (node l kids)) (trimmed_all ts)

part_if_step : (b : Bool) (xs : List Step) (l : Label) (kids later : Forest) (o : Option Tree) → later ≡ part_at xs o
    → (if b then tree (node l (part (Some l.module_file) xs kids)) no_trees else later) ≡ part_at xs (if b then Some (node l kids) else o)
part_if_step true xs l kids later o same = refl
part_if_step false xs l kids later o same = same

-- the part that a first step leaves
pub part_by_step : (above : Option ℕ) (x : Step) (xs : List Step) (ts : Forest) → part above (x ∷ xs) ts ≡ part_at xs (step_into above x ts)
part_by_step above x xs no_trees = refl
part_by_step above x xs (tree (node l kids) ts) =
    part_if_step (is_step above x l) xs l kids (part above (x ∷ xs) ts) (step_into above x ts) (part_by_step above x xs ts)

leads_if_step : (b : Bool) (xs : List Step) (l : Label) (kids : Forest) (later : Bool) (o : Option Tree) → later ≡ leads_at xs o
    → (if b then has_line (node l kids) && leads (Some l.module_file) xs kids else later) ≡ leads_at xs (if b then Some (node l kids) else o)
leads_if_step true xs l kids later o same = refl
leads_if_step false xs l kids later o same = same

-- where steps lead by way of a first step
pub leads_by_step : (above : Option ℕ) (x : Step) (xs : List Step) (ts : Forest) → leads above (x ∷ xs) ts ≡ leads_at xs (step_into above x ts)
leads_by_step above x xs no_trees = refl
leads_by_step above x xs (tree (node l kids) ts) =
    leads_if_step (is_step above x l) xs l kids (leads above (x ∷ xs) ts) (step_into above x ts) (leads_by_step above x xs ts)

same_tree : (t u : Tree) (ts us : Forest) → tree t ts ≡ tree u us → t ≡ u
same_tree t u ts us e = cc

-- one of some nodes is its tree
pub one_forest : (s : Rows) (cs : List NodeId) (i : ℕ) (d : NodeId) → AreTrees s cs → i < length cs → forest s (get_or cs i d ∷ []) ≡ tree (tree_of s (get_or cs i d)) no_trees
one_forest s cs i d are lt =
    let c = get_or cs i d in
    let here : forest s (c ∷ drop (suc i) cs) ≡ tree (tree_of s c) (forest s (drop (i + 1) cs)) = ap (forest s) (sym (drop-cons cs i d lt)) ∙ are i d lt in
    ap (λ (t : Tree). tree t no_trees) (same_tree (get_or (trees_from 0 s.nodes) (c.0 - 0) blank) (tree_of s c) (forest s (drop (suc i) cs)) (forest s (drop (i + 1) cs)) here)

pub one_are : (s : Rows) (cs : List NodeId) (i : ℕ) (d : NodeId) → AreTrees s cs → i < length cs → AreTrees s (get_or cs i d ∷ [])
one_are s cs i d are lt zero e less = one_forest s cs i d are lt
one_are s cs i d are lt (suc k) e less = absurd (omega (arith, less))

-- what holds of each holds of one
pub one_each : {X : Type 0} (P : X → Type 0) (xs : List X) (i : ℕ) (d : X) → i < length xs → All P xs → All P (get_or xs i d ∷ [])
one_each P xs i d lt all zero e less = All-get_or P xs i d lt all
one_each P xs i d lt all (suc k) e less = absurd (omega (arith, less))

pub nil_of : {X : Type 0} (xs : List X) → length xs ≡ 0 → xs ≡ []
nil_of [] e = refl
nil_of (x ∷ xs) e = absurd (omega (arith, e))

-- what is shown without a step
pub no_step : (s : Rows) (above : Option ℕ) (way : List Step) (cs : List NodeId) → way ≡ [] → part above way (forest s cs) ≡ trimmed_trees (others way) (forest s cs)
no_step s above way cs none =
    subst (λ (w : List Step). part above w (forest s cs) ≡ trimmed_trees (others w) (forest s cs)) (sym none) (sym (trimmed_all (forest s cs)))

-- what is shown where the first step leads to one of the nodes
pub to_place : (s : Rows) (above : Option ℕ) (way : List Step) (x : Step) (xs : List Step) (cs shown : List NodeId) (i : ℕ) (d : NodeId) → way ≡ x ∷ xs → AreTrees s cs
    → IsPlaceOf s cs (step_into above x (forest s cs)) i → shown ≡ get_or cs i d ∷ [] → part above way (forest s cs) ≡ trimmed_trees (others way) (forest s shown)
to_place s above way x xs cs shown i d first are place one =
    let c = get_or cs i d in
    ap (λ (w : List Step). part above w (forest s cs)) first ∙ part_by_step above x xs (forest s cs) ∙ ap (part_at xs) (place.tree_is d)
    ∙ ap (trimmed_trees xs) (sym (ap (forest s) one ∙ one_forest s cs i d are place.within)) ∙ ap (λ (w : List Step). trimmed_trees (others w) (forest s shown)) (sym first)

-- and where it leads to none
pub to_none : (s : Rows) (above : Option ℕ) (way : List Step) (x : Step) (xs : List Step) (cs shown : List NodeId) → way ≡ x ∷ xs
    → step_into above x (forest s cs) ≡ None → shown ≡ [] → part above way (forest s cs) ≡ trimmed_trees (others way) (forest s shown)
to_none s above way x xs cs shown first nowhere empty =
    ap (λ (w : List Step). part above w (forest s cs)) first ∙ part_by_step above x xs (forest s cs) ∙ ap (part_at xs) nowhere
    ∙ ap (λ (l : List NodeId). trimmed_trees (others way) (forest s l)) (sym empty)

-- one element of a list
pub one_range : {X : Type 0} (xs : List X) (i : ℕ) (d : X) (n : ℕ) → n ≡ 1 → i < length xs → take n (drop i xs) ≡ get_or xs i d ∷ []
one_range xs i d n e lt = rw (e, drop-cons xs i d) refl

-- where steps lead by way of a place
pub leads_by_place : (s : Rows) (above : Option ℕ) (way : List Step) (x : Step) (xs : List Step) (cs : List NodeId) (i : ℕ) (d : NodeId) → way ≡ x ∷ xs
    → IsPlaceOf s cs (step_into above x (forest s cs)) i
    → leads above way (forest s cs) ≡ (has_line (tree_of s (get_or cs i d)) && leads (Some (row_at s (get_or cs i d)).label.module_file) xs (below s (get_or cs i d)))
leads_by_place s above way x xs cs i d first place =
    ap (λ (w : List Step). leads above w (forest s cs)) first ∙ leads_by_step above x xs (forest s cs) ∙ ap (leads_at xs) (place.tree_is d)

pub leads_by_none : (s : Rows) (above : Option ℕ) (way : List Step) (x : Step) (xs : List Step) (cs : List NodeId) → way ≡ x ∷ xs
    → step_into above x (forest s cs) ≡ None → leads above way (forest s cs) ≡ false
leads_by_none s above way x xs cs first nowhere =
    ap (λ (w : List Step). leads above w (forest s cs)) first ∙ leads_by_step above x xs (forest s cs) ∙ ap (leads_at xs) nowhere
