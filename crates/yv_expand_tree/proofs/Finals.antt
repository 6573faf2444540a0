-- The final tree of files is one, and what is left of it are its items.
use Rattle.std.proofs.Common.{inl, inr, ◌≡◌, ℕ, zero, suc, ◌+◌, ◌<◌, ◌≤◌, Bool, true, false, if◌then◌else◌, List, [], ◌∷◌, map, length, length-append, Option, Some, None, refl, sym, ap, subst, ◌∙◌, arith}
use Rattle.std.specs.List.{slice_get}
use Rattle.yv_text_statement.specs.Selection.{ModuleChoice}
use Rattle.yv_link_scopes.specs.Files.{Files, brief_of}
use Rattle.yv_link_scopes.specs.RowList.{rows_of}
use Rattle.yv_expand.specs.Tree as expansion
use Rattle.yv_expand.specs.Tree.{Item, Node, Nodes, all_of, count, join}
use Rattle.yv_expand.specs.Expansion.{IsWhole}
use Rattle.yv_expand_rounds.specs.Groups.{Groups}
use Rattle.yv_expand_rounds.specs.Placements.{StandOnce as EachOnce}
use Rattle.yv_expand_rounds.specs.Tree.{IsTree, Tree, none, item, tree_list}
use Rattle.yv_expand_rounds.specs.Turns.{State}
use Rattle.yv_expand_rounds.specs.declared.row.ItemRow.{ItemRow}
use Rattle.yv_expand_augments.specs.Augmentation.{AreAugmented}
use Rattle.yv_expand_rounds.specs.declared.label.Label.{Label}
use Rattle.yv_expand_augments.specs.Remains.{is_left, remains}
use Rattle.yv_expand_uses.specs.Spots.{Whole, labels_of, layout_of, whole}
use Rattle.yv_expand_uses.specs.declared.spot.Spot.{Spot}
use Rattle.yv_expand_uses.proofs.Bounds.{laid_whole}
use Rattle.yv_expand_statements.specs.Truth.{Truth}
use Rattle.yv_expand_tree.specs.Final.{Final, IsFinal, spots_of, whole_of}
use Rattle.yv_expand_statements.specs.FileOrder.{marks_of, order_of}
use Rattle.yv_expand_tree.specs.Remains.{AreLeft, nodes_of}
use Rattle.yv_expand_tree.proofs.NodePositions.{every_left, every_node, every_row, Stands}

pub slice_get_absent : {X : Type 0} (xs : List X) (i : ℕ) → slice_get xs i ≡ None → length xs ≤ i
slice_get_absent [] i e = omega arith
slice_get_absent (x ∷ xs) zero e = absurd (let bad : Some x ≡ None = e in cc)
slice_get_absent (x ∷ xs) (suc i) e = (let l = slice_get_absent xs i e in omega (arith, l))

-- the laws of expansions and augments
abbrev pub OneWhole : Type 0
OneWhole = (files : Files) (marks : List Bool) (order : List ℕ) (own own' : ℕ) (items items' : List Item) → IsWhole files marks order own items
    → IsWhole files marks order own' items' → (own ≡ own') × (items ≡ items')

abbrev pub OneState : Type 0
OneState = (w : Whole) (items : List Item) (a b : State) → AreAugmented w items a → AreAugmented w items b → a ≡ b

abbrev pub OneTree : Type 0
OneTree = (labels : List Label) (groups : Groups) (a b : Tree) → IsTree labels groups a → IsTree labels groups b → a ≡ b

pub final_one : OneWhole → OneState → OneTree → (choice : ModuleChoice) (files : Files) (a b : Final) → IsFinal choice files a → IsFinal choice files b → a ≡ b
final_one one_whole one_state one_tree choice files a b p q =
    let items : a.items ≡ b.items = (one_whole files (marks_of choice files) (order_of choice files) p.own q.own a.items b.items p.expanded q.expanded).1 in
    let augments : a.augments ≡ b.augments = p.augments ∙ sym q.augments in
    let briefs = map brief_of files in
    let rows = rows_of files in
    let labels_in : List ℕ → List Item → List Label = λ ks xs. labels_of (layout_of (whole briefs rows ks (length xs)) xs).spots in
    let moved : AreAugmented (whole_of files b) b.items a.state =
    subst (λ (ks : List ℕ). AreAugmented (whole briefs rows ks (length b.items)) b.items a.state) augments
    (subst (λ (xs : List Item). AreAugmented (whole briefs rows a.augments (length xs)) xs a.state) items p.grafted) in
    let state : a.state ≡ b.state = one_state (whole_of files b) b.items a.state b.state moved q.grafted in
    let tree : a.tree ≡ b.tree =
    one_tree (labels_in b.augments b.items) b.state.groups a.tree b.tree
    (subst (λ (st : State). IsTree (labels_in b.augments b.items) st.groups a.tree) state
    (subst (λ (ks : List ℕ). IsTree (labels_in ks b.items) a.state.groups a.tree) augments
    (subst (λ (xs : List Item). IsTree (labels_in a.augments xs) a.state.groups a.tree) items p.is_tree)))
    q.is_tree in
    λ i. record { items = items i; augments = augments i; state = state i; tree = tree i }

abbrev pub Once : Type 0
Once = (w : Whole) (items : List Item) (st : State) → w.items ≡ length items → AreAugmented w items st → EachOnce (length items) st.groups

abbrev pub Within : Type 0
Within = (labels : List Label) (groups : Groups) (items k : ℕ) (row : ItemRow) (t : Tree) → IsTree labels groups t → EachOnce items groups → slice_get (tree_list None 1 t) k ≡ Some row
    → row.number < items

abbrev pub Counted : Type 0
Counted = (labels : List Label) (groups : Groups) (items : ℕ) (t : Tree) → IsTree labels groups t → EachOnce items groups → length (tree_list None 1 t) ≤ items

count_listed : (parent : Option ℕ) (depth : ℕ) (t : Tree) → count (nodes_of t) ≡ length (tree_list parent depth t)
count_listed parent depth none = refl
count_listed parent depth (item i below behind) =
    let inside : List ItemRow = tree_list (Some i) (depth + 1) below in
    let beside : List ItemRow = tree_list parent depth behind in
    let a = count_listed (Some i) (depth + 1) below in
    let b = count_listed parent depth behind in
    omega (arith, length-append inside beside, a, b)

count_left : (is_kept : ℕ → Bool) (t : Tree) → count (nodes_of (remains is_kept t)) ≤ count (nodes_of t)
count_left is_kept none = omega arith
count_left is_kept (item i below behind) = by (is_kept i) (count_left is_kept below) (count_left is_kept behind)
  where
    by : (b : Bool) → count (nodes_of (remains is_kept below)) ≤ count (nodes_of below) → count (nodes_of (remains is_kept behind)) ≤ count (nodes_of behind)
        → count (nodes_of (if b then item i (remains is_kept below) (remains is_kept behind) else remains is_kept behind)) ≤ count (nodes_of (item i below behind))
    by true inner outer = omega (arith, inner, outer)
    by false inner outer = omega (arith, inner, outer)

module _ (choice : ModuleChoice) (files : Files) (truth : Truth) (f : Final) (is : IsFinal choice files f) where
  pub laid_long : length (spots_of files f) ≡ length f.items
  laid_long = (laid_whole (whole_of files f) f.items refl).long

  pub stand_once : Once → EachOnce (length f.items) f.state.groups
  stand_once once = once (whole_of files f) f.items f.state refl is.grafted

  pub left_within : Once → Counted → (nodes : Nodes) → AreLeft truth files f nodes → count nodes ≤ length f.items
  left_within once counted nodes are =
      let kept : ℕ → Bool = is_left (spots_of files f) are.marks in
      let e : count nodes ≡ count (nodes_of (remains kept f.tree)) = ap count are.are in
      omega (arith, e, count_left kept f.tree, count_listed None 1 f.tree, counted (labels_of (spots_of files f)) f.state.groups (length f.items) f.tree is.is_tree (stand_once once))

  -- what is left stands as it does in the final tree
  pub left_stands : (P : Option ℕ → ℕ → Type 0) → ((k : ℕ) (row : ItemRow) → slice_get (tree_list None 1 f.tree) k ≡ Some row → P row.parent row.number)
      → (nodes : Nodes) → AreLeft truth files f nodes → (k : ℕ) (x : Node) → slice_get (expansion.item_list None 0 nodes) k ≡ Some x
      → Stands P None None 0 (expansion.item_list None 0 nodes) x
  left_stands P all nodes are k x at =
      let kept : ℕ → Bool = is_left (spots_of files f) are.marks in
      subst (λ (n : Nodes). Stands P None None 0 (expansion.item_list None 0 n) x) (sym are.are)
      (every_node P None None 0 (remains kept f.tree) (every_left P kept None f.tree (every_row P None 1 f.tree all)) k x
      (ap (λ (n : Nodes). slice_get (expansion.item_list None 0 n) k) (sym are.are) ∙ at))

  pub item_spot : (i : ℕ) → i < length f.items → (s : Spot) × (slice_get (spots_of files f) i ≡ Some s)
  item_spot i lt = by (slice_get (spots_of files f) i) refl
    where
      by : (o : Option Spot) → slice_get (spots_of files f) i ≡ o → (s : Spot) × (slice_get (spots_of files f) i ≡ Some s)
      by None at = absurd (let l = slice_get_absent (spots_of files f) i at in omega (arith, l, lt, laid_long))
      by (Some s) at = (s, at)

  abbrev IsItem : Option ℕ → ℕ → Type 0
  IsItem parent i = i < length f.items

  pub left_items : Once → Within → (nodes : Nodes) → AreLeft truth files f nodes → (k : ℕ) (x : Node) → slice_get (expansion.item_list None 0 nodes) k ≡ Some x
      → (s : Spot) × (slice_get (spots_of files f) x.origin ≡ Some s)
  left_items once within nodes are k x at =
      item_spot x.origin (elim (left_stands IsItem
      (λ j row there. within (labels_of (spots_of files f)) f.state.groups (length f.items) j row f.tree is.is_tree (stand_once once) there) nodes are k x at) [
        | inl top ↦ top.1
        | inr s ↦ s.4
      ])
