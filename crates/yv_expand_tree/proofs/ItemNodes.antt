-- The items of a tree as nodes, one by one.
use Rattle.std.proofs.Common.{◌≡◌, ℕ, ◌+◌, ◌-◌, ◌<◌, ◌≤◌, Bool, if◌then◌else◌, slice_index_or, List, [], ◌∷◌, ◌++◌, drop, length, Option, Some, None, refl, sym, ap, ◌∙◌, arith, append_assoc}
use Rattle.std.specs.List.{slice_get}
use Rattle.std.proofs.lemmas.List.{append-nil, drop_all}
use Rattle.std.proofs.lemmas.Bool.{eq-eqb, ne_eqb}
use Rattle.yv_expand_rounds.specs.Tree.{Tree, none, item, tree_list}
use Rattle.yv_expand_rounds.specs.declared.row.ItemRow.{ItemRow}
use Rattle.yv_expand.specs.Tree as expansion
use Rattle.yv_expand.specs.Tree.{Node, Nodes}
use Rattle.yv_expand_tree.proofs.GivenFiles.{rest_of}
use Rattle.yv_expand_tree.specs.Remains.{nodes_of}
use Rattle.yv_expand_tree.specs.InnerNodes.{enter, last_above, nodes_of_rows}

abbrev Last : Type 0
Last = ℕ → Option ℕ

-- the last nodes of each depth behind the items of a tree
after : Tree → Last → (place depth : ℕ) → Last
after none last place depth = last
after (item i below behind) last place depth =
    after behind (after below (enter (depth + 1) place last) (place + 1) (depth + 1)) (place + 1 + expansion.count (nodes_of below)) depth

entered_here : (d place : ℕ) (last : Last) → enter d place last d ≡ Some place
entered_here d place last = ap (λ (b : Bool). if b then Some place else last d) (eq-eqb d d refl)

entered_other : (e d place : ℕ) (last : Last) → d < e → enter e place last d ≡ last d
entered_other e d place last lt = ap (λ (b : Bool). if b then Some place else last d) (ne_eqb d e (λ same. omega (arith, lt, same)))

above_one : (last : Last) (depth : ℕ) → last_above last (depth + 1) ≡ last depth
above_one last depth =
    ap (λ (b : Bool). if b then None else last (depth + 1 - 1)) (ne_eqb (depth + 1) 0 (λ same. omega (arith, same)))
    ∙ ap last (omega arith)

keeps : (t : Tree) (last : Last) (place depth d : ℕ) → d ≤ depth → after t last place depth d ≡ last d
unfolding after
keeps none last place depth d le = refl
keeps (item i below behind) last place depth d le =
    let inner : Last = enter (depth + 1) place last in
    let outer : Last = after below inner (place + 1) (depth + 1) in
    keeps behind outer (place + 1 + expansion.count (nodes_of below)) depth d le
    ∙ keeps below inner (place + 1) (depth + 1) d (omega (arith, le))
    ∙ entered_other (depth + 1) d place last (omega (arith, le))

noded_tree : (t : Tree) (last : Last) (place depth : ℕ) (parent : Option ℕ) (rest : List ItemRow) → nodes_of_rows last place (tree_list parent (depth + 1) t ++ rest)
    ≡ expansion.item_list (last depth) place (nodes_of t) ++ nodes_of_rows (after t last place depth) (place + expansion.count (nodes_of t)) rest
unfolding after
noded_tree none last place depth parent rest = ap (λ (n : ℕ). nodes_of_rows last n rest) (omega arith)
noded_tree (item i below behind) last place depth parent rest =
    let inside : List ItemRow = tree_list (Some i) (depth + 1 + 1) below in
    let beside : List ItemRow = tree_list parent (depth + 1) behind in
    let inner : Last = enter (depth + 1) place last in
    let outer : Last = after below inner (place + 1) (depth + 1) in
    let next : ℕ = place + 1 + expansion.count (nodes_of below) in
    let x : Node = record { origin = i; parent = last depth } in
    let within : List Node = expansion.item_list (Some place) (place + 1) (nodes_of below) in
    let others : List Node = expansion.item_list (last depth) next (nodes_of behind) in
    let end : Last = after behind outer next depth in
    ap (λ (p : Option ℕ). record { origin = i; parent = p } ∷ nodes_of_rows inner (place + 1) ((inside ++ beside) ++ rest)) (above_one last depth)
    ∙ ap (λ (l : List ItemRow). x ∷ nodes_of_rows inner (place + 1) l) (append_assoc inside beside rest)
    ∙ ap (λ (l : List Node). x ∷ l) (noded_tree below inner (place + 1) (depth + 1) (Some i) (beside ++ rest))
    ∙ ap (λ (p : Option ℕ). x ∷ (expansion.item_list p (place + 1) (nodes_of below) ++ nodes_of_rows outer next (beside ++ rest))) (entered_here (depth + 1) place last)
    ∙ ap (λ (l : List Node). x ∷ (within ++ l)) (noded_tree behind outer next depth parent rest)
    ∙ ap (λ (p : Option ℕ). x ∷ (within ++ (expansion.item_list p next (nodes_of behind) ++ nodes_of_rows end (next + expansion.count (nodes_of behind)) rest)))
    (keeps below inner (place + 1) (depth + 1) depth (omega arith) ∙ entered_other (depth + 1) depth place last (omega arith))
    ∙ ap (λ (l : List Node). x ∷ l) (sym (append_assoc within others (nodes_of_rows end (next + expansion.count (nodes_of behind)) rest)))
    ∙ ap (λ (n : ℕ). x ∷ ((within ++ others) ++ nodes_of_rows end n rest)) (omega arith)

pub nodes_listed : (t : Tree) (tree : List ItemRow) → tree ≡ tree_list None 1 t → nodes_of_rows (λ d. None) 0 tree ≡ expansion.item_list None 0 (nodes_of t)
nodes_listed t tree is =
    ap (nodes_of_rows (λ d. None) 0) (is ∙ sym (append-nil (tree_list None 1 t))) ∙ noded_tree t (λ d. None) 0 0 None [] ∙ append-nil (expansion.item_list None 0 (nodes_of t))

-- these are the places of the last nodes
abbrev pub last_in : List (Option ℕ) → Last
last_in places d = slice_index_or places d None

pub nodes_step : (tree : List ItemRow) (i : ℕ) (x : ItemRow) (read places next : List (Option ℕ)) (parent : Option ℕ) (old new whole : List Node)
    → slice_get tree i ≡ Some x → read ≡ places → parent ≡ last_above (last_in read) x.depth
    → ((d : ℕ) → last_in next d ≡ enter x.depth i (last_in places) d) → new ≡ old ++ record { origin = x.number; parent = parent } ∷ []
    → old ++ nodes_of_rows (last_in places) i (drop i tree) ≡ whole → new ++ nodes_of_rows (last_in next) (i + 1) (drop (i + 1) tree) ≡ whole
nodes_step tree i x read places next parent old new whole at is_read up to now before =
    let xs : List ItemRow = drop (i + 1) tree in
    let told : last_in next ≡ enter x.depth i (last_in places) = λ j d. to d j in
    let node : Node = record { origin = x.number; parent = parent } in
    ap (λ (l : List Node). l ++ nodes_of_rows (last_in next) (i + 1) xs) now
    ∙ append_assoc old (node ∷ []) (nodes_of_rows (last_in next) (i + 1) xs)
    ∙ ap (λ (f : Last). old ++ node ∷ nodes_of_rows f (i + 1) xs) told
    ∙ ap (λ (p : Option ℕ). old ++ record { origin = x.number; parent = p } ∷ nodes_of_rows (enter x.depth i (last_in places)) (i + 1) xs)
    (up ∙ ap (λ (ps : List (Option ℕ)). last_above (last_in ps) x.depth) is_read)
    ∙ ap (λ (l : List ItemRow). old ++ nodes_of_rows (last_in places) i l) (sym (rest_of tree i x at))
    ∙ before

pub nodes_all : (tree : List ItemRow) (i : ℕ) (last : Last) (all whole : List Node) → length tree ≤ i → all ++ nodes_of_rows last i (drop i tree) ≡ whole → all ≡ whole
nodes_all tree i last all whole past h = sym (append-nil all) ∙ ap (λ (l : List ItemRow). all ++ nodes_of_rows last i l) (sym (drop_all i tree past)) ∙ h
