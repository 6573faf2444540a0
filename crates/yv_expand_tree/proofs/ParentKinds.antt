-- What is left of a final tree stands below nodes that may have some below them.
use Rattle.std.proofs.Common.{inl, inr, ◌≡◌, ℕ, zero, suc, ◌+◌, ◌<◌, ◌||◌, ◌&&◌, ◌==◌, not, Bool, true, false, if◌then◌else◌, List, [], ◌∷◌, Option, Some, None, refl, sym, ap, ◌∙◌, subst, arith}
use Rattle.std.specs.List.{count_by, list_all, slice_get}
use Rattle.std.specs.Option.{option_map, unwrap_or}
use Rattle.std.specs.Str.{bytes_eq}
use Rattle.std.proofs.lemmas.Bool.{eqb-true, false≢true, false_from_ne_true}
use Rattle.std.proofs.lemmas.Option.{get_or_from_slice_get, same_Some, slice_get_within}
use Rattle.std.proofs.lemmas.Slice.Eq.{bytes_eq-Decides}
use Rattle.yv_text_statement.specs.Selection.{ModuleChoice}
use Rattle.yv_link_scopes.specs.Files.{Files}
use Rattle.yv_link_scopes.specs.RowList.{rows_of}
use Rattle.yv_link_scopes.specs.Rows.{Row}
use Rattle.yv_text_statement.specs.Words.{is_among}
use Rattle.yv_expand_statements.specs.StatementBlocks.{block_of, numbers_from, stands_in, is_at, is_node_or_uses, those}
use Rattle.yv_expand.proofs.UnitListing.{numbers_are}
use Rattle.yv_expand.specs.Conformance.{Conform, gives_nodes, is_lowest as is_leaf, lowest}
use Rattle.yv_expand.specs.Tree as expansion
use Rattle.yv_expand.specs.Tree.{Item, Node, Nodes}
use Rattle.yv_expand_rounds.specs.Groups.{Groups, IsIn, members_of}
use Rattle.yv_expand_statements.specs.Kinds.{may_be_target, kind_of_keyword, kind_in, kinds}
use Rattle.yv_expand_rounds.specs.Tree.{IsTree, Tree, group_under, tree_list}
use Rattle.yv_expand_statements.specs.declared.statement_kind.StatementKind.{StatementKind}
use Rattle.yv_expand_statements.specs.declared.statement_kind.StatementKind.TheVariants as kind
use Rattle.yv_expand_rounds.specs.declared.label.Label.{Label}
use Rattle.yv_expand_rounds.specs.declared.row.ItemRow.{ItemRow}
use Rattle.yv_expand_uses.specs.Kinds.{kind_at, kind_of}
use Rattle.yv_expand_uses.specs.Spots.{labels_of}
use Rattle.yv_expand_uses.specs.declared.spot.Spot.{Spot}
use Rattle.yv_expand_statements.specs.Truth.{Truth}
use Rattle.yv_expand_tree.specs.Final.{Final, IsFinal, spots_of, whole_of}
use Rattle.yv_expand_statements.specs.FileOrder.{marks_of, order_of}
use Rattle.yv_expand_tree.specs.Remains.{AreLeft}
use Rattle.yv_expand_tree.specs.Lowest.{is_lowest}
use Rattle.yv_expand_tree.proofs.Finals.{Once, Within, left_items, left_stands}
use Rattle.yv_expand_tree.proofs.ChildlessItems.{grafted_empty}
use Rattle.yv_expand_tree.proofs.TreeRemains.{spot_item}
use Rattle.yv_expand_tree.proofs.TerminalNodes.{whole_high}

-- the keyword of a kind
abbrev is_named : List ℕ × StatementKind → Bool
is_named n = not (is_lowest n.1) || is_among lowest n.0

and_first : (a b : Bool) → (a && b) ≡ true → a ≡ true
and_first true b h = refl
and_first false b h = absurd (false≢true h)

and_second : (a b : Bool) → (a && b) ≡ true → b ≡ true
and_second true b h = h
and_second false b h = absurd (false≢true h)

named_in : (ns : List (List ℕ × StatementKind)) (text : List ℕ) → list_all is_named ns ≡ true → is_lowest (unwrap_or (kind_in ns text) kind.Uses) ≡ true
    → is_among lowest text ≡ true
named_in [] text all low = absurd (false≢true low)
named_in (n ∷ ns) text all low = by (bytes_eq n.0 text) refl (named_in ns text (and_second (is_named n) (list_all is_named ns) all)) low
  where
    this : (a b : Bool) → (not a || b) ≡ true → a ≡ true → b ≡ true
    this true b h e = h
    this false b h e = absurd (false≢true e)

    by : (b : Bool) → bytes_eq n.0 text ≡ b → (is_lowest (unwrap_or (kind_in ns text) kind.Uses) ≡ true → is_among lowest text ≡ true)
        → is_lowest (unwrap_or (if b then Some n.1 else kind_in ns text) kind.Uses) ≡ true → is_among lowest text ≡ true
    by true e others h =
        ap (is_among lowest) (sym ((bytes_eq-Decides n.0 text).0 e)) ∙ this (is_lowest n.1) (is_among lowest n.0) (and_first (is_named n) (list_all is_named ns) all) h
    by false e others h = others h

named_kinds : list_all is_named kinds ≡ true
named_kinds = refl

lowest_word : (r : Row) → is_lowest (kind_at (Some r)) ≡ true → is_leaf r ≡ true
unfolding kind_of_keyword
lowest_word r low = named_in kinds r.head.keyword named_kinds low

none_passes : (test : Row → Bool) (rows : List Row) (ks : List ℕ)
    → ((i k : ℕ) → slice_get ks i ≡ Some k → is_at test rows k ≡ false) → those test rows ks ≡ []
none_passes test rows [] none = refl
none_passes test rows (k ∷ ks) none =
    ap (λ (b : Bool). if b then k ∷ those test rows ks else those test rows ks) (none 0 k refl) ∙ none_passes test rows ks (λ i m at. none (suc i) m at)

abbrev pub Leafs : Type 0
Leafs = (files : Files) (k j : ℕ) (q r : Row) → Conform files → slice_get (rows_of files) k ≡ Some q → is_leaf q ≡ true
    → slice_get (rows_of files) j ≡ Some r → r.scope ≡ k → gives_nodes r ≡ false

abbrev pub Below : Type 0
Below = (labels : List Label) (groups : Groups) (k : ℕ) (row : ItemRow) (t : Tree) → IsTree labels groups t → slice_get (tree_list None 1 t) k ≡ Some row
    → IsIn row.number (group_under row.parent) groups

lowest_closed : (k : StatementKind) → is_lowest k ≡ true → may_be_target k ≡ false
lowest_closed kind.Leaf low = refl
lowest_closed kind.LeafList low = refl
lowest_closed kind.Anydata low = refl
lowest_closed kind.Anyxml low = refl
lowest_closed _ low = absurd (false≢true low)

-- one of the numbers of statements that pass
number_told : (passes : ℕ → Row → Bool) (rows : List Row) (i k : ℕ) → slice_get (numbers_from passes 0 rows) i ≡ Some k
    → (r : Row) × (slice_get rows k ≡ Some r) × (passes k r ≡ true)
number_told passes rows i k at =
    let ks : List ℕ = numbers_from passes 0 rows in
    let (j, r, there, e, is) = numbers_are passes 0 rows k (i, slice_get_within ks i k at, get_or_from_slice_get ks i k k at) in
    (r, ap (slice_get rows) (let same : k ≡ j = omega (arith, e) in same) ∙ there, is)

scope_told : (block k : ℕ) (r : Row) → stands_in block k r ≡ true → r.scope ≡ block
scope_told block k r is = eqb-true r.scope block (and_first (r.scope == block) (not (r.scope == k)) is)

label_told : (spots : List Spot) (p : ℕ) (l : Label) → slice_get (labels_of spots) p ≡ Some l → (s : Spot) × (slice_get spots p ≡ Some s) × (s.label ≡ l)
label_told [] p l at = absurd (let bad : None ≡ Some l = at in cc)
label_told (s ∷ spots) zero l at = (s, refl, same_Some s.label l at)
label_told (s ∷ spots) (suc p) l at = label_told spots p l at

module _ (files : Files) (fine : Conform files) (leafs : Leafs) where
  block_empty : (k : ℕ) (r : Row) → slice_get (rows_of files) k ≡ Some r → is_lowest (kind_at (Some r)) ≡ true → those is_node_or_uses (rows_of files) (block_of (rows_of files) k) ≡ []
  unfolding is_node_or_uses
  block_empty k r at low =
      none_passes is_node_or_uses (rows_of files) (block_of (rows_of files) k)
      (λ i j there.
      let (s, here, inside) = number_told (stands_in k) (rows_of files) i j there in
      ap (λ (o : Option Row). unwrap_or (option_map is_node_or_uses o) false) here
      ∙ leafs files k j r s fine at (lowest_word r low) here (scope_told k j s inside))

  module _ (choice : ModuleChoice) (truth : Truth) (f : Final) (is : IsFinal choice files f) (below : Below) where
    abbrev IsLow : ℕ → Type 0
    IsLow p = (x : Item) × (slice_get f.items p ≡ Some x) × (is_lowest (kind_of (rows_of files) x.origin) ≡ true)

    items_high : (i p : ℕ) (x : Item) → slice_get f.items i ≡ Some x → x.parent ≡ Some p → IsLow p → ⊥
    items_high i p x at up v =
        let (y, there, high) = whole_high files (marks_of choice files) (order_of choice files) is.own f.items block_empty is.expanded i p x at up in
        let same : y ≡ v.0 = same_Some y v.0 (sym there ∙ v.1) in
        false≢true (sym high ∙ ap (λ (z : Item). is_lowest (kind_of (rows_of files) z.origin)) same ∙ v.2)

    labels_closed : (p : ℕ) (l : Label) → IsLow p → slice_get (labels_of (spots_of files f)) p ≡ Some l → may_be_target l.kind ≡ false
    labels_closed p l v at =
        let (s, there, label) = label_told (spots_of files f) p l at in
        let (x, here, kind_is) = spot_item (whole_of files f) f.items p s there in
        let same : v.0 ≡ x = same_Some v.0 x (sym v.1 ∙ here) in
        lowest_closed l.kind (ap (λ (m : Label). is_lowest m.kind) (sym label) ∙ ap is_lowest kind_is
        ∙ ap (λ (z : Item). is_lowest (kind_of (rows_of files) z.origin)) (sym same) ∙ v.2)

    abbrev IsHigh : Option ℕ → ℕ → Type 0
    IsHigh parent i = (p : ℕ) → parent ≡ Some p → IsLow p → ⊥

    rows_high : (k : ℕ) (row : ItemRow) → slice_get (tree_list None 1 f.tree) k ≡ Some row → IsHigh row.parent row.number
    rows_high k row at p up v =
        let inside : IsIn row.number (group_under row.parent) f.state.groups = below (labels_of (spots_of files f)) f.state.groups k row f.tree is.is_tree at in
        let here : 0 < count_by (λ i. i == row.number) (members_of f.state.groups (p + 1)) =
        subst (λ (o : Option ℕ). IsIn row.number (group_under o) f.state.groups) up inside in
        let empty : members_of f.state.groups (p + 1) ≡ [] =
        grafted_empty (whole_of files f) IsLow f.items f.state (λ q u. slice_get_within f.items q u.0 u.1) items_high labels_closed is.grafted p v in
        let none : count_by (λ i. i == row.number) (members_of f.state.groups (p + 1)) ≡ 0 = ap (λ (ms : List ℕ). count_by (λ i. i == row.number) ms) empty in
        omega (arith, here, none)

    pub parents_left : Once → Within → (nodes : Nodes) (place p : ℕ) (x : Node) → AreLeft truth files f nodes
        → slice_get (expansion.item_list None 0 nodes) place ≡ Some x → x.parent ≡ Some p
        → (above : Node) × (item : Item) × (slice_get (expansion.item_list None 0 nodes) p ≡ Some above) × (slice_get f.items above.origin ≡ Some item)
        × (is_lowest (kind_of (rows_of files) item.origin) ≡ false)
    parents_left once within nodes place p x are at up =
        elim (left_stands choice files truth f is IsHigh rows_high nodes are place x at) [
          | inl top ↦ absurd (let bad : None ≡ Some p = sym top.0 ∙ up in cc)
          | inr s ↦
              let same : s.0 ≡ p = (let e : 0 + s.0 ≡ p = same_Some (0 + s.0) p (sym s.2 ∙ up) in omega (arith, e)) in
              let spot = left_items choice files truth f is once within nodes are s.0 s.1 s.3 in
              let told = spot_item (whole_of files f) f.items s.1.origin spot.0 spot.1 in (
                s.1,
                told.0,
                ap (slice_get (expansion.item_list None 0 nodes)) (sym same) ∙ s.3,
                told.1,
                false_from_ne_true (is_lowest (kind_of (rows_of files) told.0.origin)) (λ low. s.4 s.1.origin refl (told.0, told.1, low)),
              )
        ]
