-- The marks of items go down the uses and augments round them, up to the next node.
use Rattle.std.proofs.Common.{inl, inr, ◌⊎◌, ◌≡◌, ℕ, zero, suc, ◌+◌, ◌<◌, ◌&&◌, not, Bool, true, false, if◌then◌else◌, List, [], ◌∷◌, ◌++◌, refl, sym, ◌∙◌, ap, subst, arith, Option, Some, None}
use Rattle.std.specs.List.{list_all, slice_get}
use Rattle.std.proofs.lemmas.Bool.{false≢true}
use Rattle.std.proofs.lemmas.List.{append-nil}
use Rattle.std.proofs.lemmas.List.Folds.{list_all-append}
use Rattle.std.proofs.lemmas.Option.{same_Some, slice_get-map, slice_get_within}
use Rattle.std.specs.Option.{option_map}
use Rattle.yv_link_scopes.specs.Files.{Files}
use Rattle.yv_link_scopes.specs.RowList.{rows_of}
use Rattle.yv_link_scopes.specs.Rows.{Row}
use Rattle.yv_expand_statements.specs.Origin.{number_of}
use Rattle.yv_expand.specs.Tree.{Item, all_of, join}
use Rattle.yv_expand_statements.specs.declared.origin.Origin.{Origin}
use Rattle.yv_expand_statements.specs.declared.origin.Origin.TheVariants.{Statement, Input, Output}
use Rattle.yv_expand.specs.Expansion.{IsWhole}
use Rattle.yv_expand_rounds.specs.declared.label.Label.{Label}
use Rattle.yv_expand_uses.specs.Ends.{end_at}
use Rattle.yv_expand_statements.specs.StatementBlocks.{is_augment}
use Rattle.yv_expand_statements.specs.Kinds.{is_uses}
use Rattle.yv_expand_uses.specs.Kinds.{kind_of}
use Rattle.yv_base_graph.specs.Marks.{is_marked}
use Rattle.yv_expand_augments.specs.Placement.{augment_around, augment_at}
use Rattle.yv_expand_uses.specs.On.{above_on, augment_on, block_on, uses_on}
use Rattle.yv_expand_augments.specs.RefineMeanings.{refined_all}
use Rattle.yv_expand_uses.specs.Spots.{Whole, labels_of, layout_of, spot_at}
use Rattle.yv_expand_uses.specs.declared.spot.Spot.{Spot}
use Rattle.yv_expand_changes.specs.Changes.{changes, changes_from}
use Rattle.yv_expand_refines.specs.Targets.{RefineMeaning}
use Rattle.yv_expand_changes.specs.IfFeatures.{is_on_with, item_marks}
use Rattle.yv_expand_definition.specs.Nodes.{Node, if_feature_statements}
use Rattle.yv_expand_tree.proofs.NodePositions.{parents_first}
use Rattle.yv_expand_laws.specs.Conditions.{AreMarks, MarksAsk, asked_at, gives_node, near, near_by, stands_in_node}
use Rattle.yv_expand_laws.specs.Files.{ShowFiles, expansion_of}
use Rattle.yv_expand_laws.specs.StatementItems.{around, one_of, under_of}
use Rattle.yv_expand_laws.specs.Shows.{Items}
use Rattle.yv_expand_laws.specs.ItemProperties.{is_some_node}
use Rattle.yv_expand_laws.proofs.OuterConditions.{augment_row}
use Rattle.yv_expand_laws.proofs.BlockStatements.{left_is, right_is}
use Rattle.yv_expand_laws.proofs.FoundItems.{not_none}
use Rattle.yv_expand_laws.proofs.KeywordKinds.{node_is}
use Rattle.yv_expand_laws.proofs.RefineTargets.{no_changes}
use Rattle.yv_expand_laws.proofs.Scopes.{IsRightBelow, IsUnwritten, stands_below}
use Rattle.yv_expand_laws.proofs.StatementMarks.{both_true}
use Rattle.yv_expand_laws.proofs.LabelsAndPaths.{SpotTells, laid_many, there_is, told_at}

module _ (rows : List Row) (S : ℕ → Bool) where
  -- what is asked of the block in which a statement stands is asked of the augment around it
  around_is : (r : Option Row) → augment_on rows S r ≡ list_all S (around rows r)
  around_is None = refl
  around_is (Some r) = by (slice_get rows r.scope)
    where
      last : (b : Bool) → b ≡ (b && true)
      last true = refl
      last false = refl

      inner : (b : Bool) → (if b then S r.scope else true) ≡ list_all S (one_of (if b then Some r.scope else None))
      inner true = last (S r.scope)
      inner false = refl

      by : (o : Option Row) → block_on S r.scope o ≡ list_all S (one_of (augment_at r.scope o))
      by None = refl
      by (Some q) = inner (is_augment q)

  -- what stands in a node stands in no augment
  node_around : (r : Option Row) → stands_in_node rows r ≡ true → around rows r ≡ []
  node_around None is = refl
  node_around (Some r) is = by (slice_get rows r.scope) is
    where
      inner : (q : Row) (b : Bool) → is_augment q ≡ b → gives_node (Some q) ≡ true → one_of (if b then Some r.scope else None) ≡ []
      inner q true aug is = absurd (false≢true (sym (augment_row q aug) ∙ is))
      inner q false aug is = refl

      by : (o : Option Row) → gives_node o ≡ true → one_of (augment_at r.scope o) ≡ []
      by None is = refl
      by (Some q) is = inner q (is_augment q) refl is

  near_all : (k u : ℕ) (us : List ℕ) → S u ≡ true → list_all S (near rows u us) ≡ true → list_all S (near rows k (u ∷ us)) ≡ true
  near_all k u us is all = by (stands_in_node rows (slice_get rows k))
    where
      by : (b : Bool) → list_all S (if b then [] else u ∷ near rows u us) ≡ true
      by true = refl
      by false = both_true (S u) (list_all S (near rows u us)) is all

  near_around : (k : ℕ) (o : Option ℕ) (us : List ℕ) → list_all S (one_of o) ≡ true → ((j : ℕ) → list_all S (near rows j us) ≡ true)
      → list_all S (near rows k (one_of o ++ us)) ≡ true
  near_around k None us is all = all k
  near_around k (Some a) us is all = near_all k a us (left_is (S a) true is) (all a)

  near_written : (o : Origin) (under : List ℕ) → list_all S (near rows (number_of o) under) ≡ true
      → list_all S (near_by rows o under) ≡ true
  near_written (Statement k) under all = all
  near_written (Input k) under all = refl
  near_written (Output k) under all = refl

  near_unwritten : (o : Origin) (under : List ℕ) → IsUnwritten rows o → list_all S (near_by rows o under) ≡ true
  near_unwritten (Statement k) under h = absurd h
  near_unwritten (Input k) under h = refl
  near_unwritten (Output k) under h = refl

  near_in_node : (k : ℕ) (under : List ℕ) → stands_in_node rows (slice_get rows k) ≡ true → near rows k under ≡ []
  near_in_node k [] is = refl
  near_in_node k (u ∷ us) is = ap (λ (b : Bool). if b then [] else u ∷ near rows u us) is

  -- a uses is written
  uses_written : (o : Origin) (under : List ℕ) → is_uses (kind_of rows o) ≡ true → near_by rows o under ≡ near rows (number_of o) under
  uses_written (Statement k) under h = refl
  uses_written (Input k) under h = absurd (false≢true h)
  uses_written (Output k) under h = absurd (false≢true h)

module _ (files : Files) (modules : List Bool) (order : List ℕ) (own : ℕ) (items : List Item) (its : Items) (expanded : IsWhole files modules order own items)
    (tells : ShowFiles files modules items its) (statements marks : List Bool) (on : AreMarks files modules items statements marks) where
  abbrev rows : List Row
  rows = rows_of files

  abbrev w : Whole
  w = expansion_of files modules items

  abbrev spots : List Spot
  spots = (layout_of w items).spots

  abbrev refined : List RefineMeaning
  refined = refined_all w items

  abbrev S : ℕ → Bool
  S = is_marked statements

  abbrev under : ℕ → List ℕ
  under i = (its.node_of i).under

  abbrev row_of : Item → Option Row
  row_of x = slice_get rows (number_of x.origin)

  -- what is told of an item's spot
  spot_of_item : (i : ℕ) (x : Item) → slice_get items i ≡ Some x → (s : Spot) × (slice_get spots i ≡ Some s) × SpotTells w x s
  spot_of_item i x at =
      let less = slice_get_within items i x at in
      let many = laid_many w items in
      let s = there_is spots i (omega (arith, less, many)) in
      let t = told_at w items i s.0 s.1 in
      (s.0, s.1, subst (λ z. SpotTells w z s.0) (same_Some t.0 x (sym t.1 ∙ at)) t.2)

  own_at : (n : ℕ) (ss : List Spot) (i : ℕ) (s : Spot) → slice_get ss i ≡ Some s
      → is_marked (item_marks statements ss (changes_from files spots refined n ss)) i ≡ is_on_with statements s (changes files spots refined (n + i))
  own_at n [] i s at = absurd (not_none at)
  own_at n (t ∷ ss) zero s at =
      ap (λ (z : Spot). is_on_with statements z (changes files spots refined n)) (same_Some t s at)
      ∙ ap (λ (m : ℕ). is_on_with statements s (changes files spots refined m)) (let e : n ≡ n + 0 = omega arith in e)
  own_at n (t ∷ ss) (suc i) s at =
      own_at (n + 1) ss i s at ∙ ap (λ (m : ℕ). is_on_with statements s (changes files spots refined m)) (let e : n + 1 + i ≡ n + suc i = omega arith in e)

  -- the mark of an item
  mark_is : (i : ℕ) (x : Item) → slice_get items i ≡ Some x
      → is_marked marks i ≡ ((S (number_of x.origin) && list_all S (changes files spots refined i)) && (above_on spots marks x.parent && list_all S (around rows (row_of x))))
  mark_is i x at =
      let s = spot_of_item i x at in
      on.at i x at
      ∙ (ap (λ (b : Bool). b && (above_on spots marks x.parent && augment_on rows S (row_of x)))
      (own_at 0 spots i s.0 s.1
      ∙ (ap (λ (m : ℕ). is_on_with statements s.0 (changes files spots refined m)) (let e : 0 + i ≡ i = omega arith in e)
      ∙ ap (λ (m : ℕ). S m && list_all S (changes files spots refined i)) s.2.statement))
      ∙ ap (λ (b : Bool). (S (number_of x.origin) && list_all S (changes files spots refined i)) && (above_on spots marks x.parent && b)) (around_is rows S (row_of x)))

  -- the item above one
  record Above (i : ℕ) (x : Item) (of_uses : Bool) : Type 0 where
    p : ℕ
    y : Item
    s : Spot
    up : x.parent ≡ Some p
    less : p < i
    item : slice_get items p ≡ Some y
    spot : slice_get spots p ≡ Some s
    told : SpotTells w y s
    kind_is : is_uses s.label.kind ≡ of_uses

  stands : (i : ℕ) (x : Item) → slice_get items i ≡ Some x → (x.parent ≡ None) ⊎ (Above i x true ⊎ Above i x false)
  stands i x at = by x.parent refl
    where
      by : (o : Option ℕ) → x.parent ≡ o → (x.parent ≡ None) ⊎ (Above i x true ⊎ Above i x false)
      by None is = inl is
      by (Some p) is =
          let less = parents_first (join (all_of expanded.trees) (all_of expanded.added)) items expanded.listed i p x at is in
          let within = slice_get_within items i x at in
          let y = there_is items p (omega (arith, less, within)) in
          let s = spot_of_item p y.0 y.1 in
          choose less y.0 y.1 s.0 s.1 s.2
        where
          choose : p < i → (y : Item) → slice_get items p ≡ Some y → (s : Spot) → slice_get spots p ≡ Some s → SpotTells w y s
              → (x.parent ≡ None) ⊎ (Above i x true ⊎ Above i x false)
          choose less y there s spot told = last (is_uses s.label.kind) refl
            where
              last : (c : Bool) → is_uses s.label.kind ≡ c → (x.parent ≡ None) ⊎ (Above i x true ⊎ Above i x false)
              last true k =
                  inr (inl (record { p = p; y = y; s = s; up = is; less = less; item = there; spot = spot; told = told; kind_is = k }))
              last false k =
                  inr (inr (record { p = p; y = y; s = s; up = is; less = less; item = there; spot = spot; told = told; kind_is = k }))

  under_top : (i : ℕ) (x : Item) → slice_get items i ≡ Some x → x.parent ≡ None → under i ≡ around rows (row_of x)
  under_top i x at top = tells.under i x at ∙ ap (λ o. under_of rows its (row_of x) o (spot_at spots o)) top

  under_above : (i : ℕ) (x : Item) (b : Bool) → slice_get items i ≡ Some x → (a : Above i x b)
      → under i ≡ (if b then around rows (row_of x) ++ a.s.statement ∷ under a.p else under a.p)
  under_above i x b at a =
      tells.under i x at
      ∙ (ap (λ o. under_of rows its (row_of x) o (spot_at spots o)) a.up
      ∙ (ap (λ o. under_of rows its (row_of x) (Some a.p) o) a.spot
      ∙ ap (λ (c : Bool). if c then around rows (row_of x) ++ a.s.statement ∷ under a.p else under a.p) a.kind_is))

  above_top : (x : Item) → x.parent ≡ None → above_on spots marks x.parent ≡ true
  above_top x top = ap (above_on spots marks) top

  above_is : (i : ℕ) (x : Item) (b : Bool) (a : Above i x b) → above_on spots marks x.parent ≡ (if b then is_marked marks a.p else true)
  above_is i x b a =
      ap (above_on spots marks) a.up ∙ (ap (λ o. uses_on o (is_marked marks a.p)) a.spot
      ∙ ap (λ (c : Bool). if c then is_marked marks a.p else true) a.kind_is)

  -- the kind of the item above
  above_kind : (i : ℕ) (x : Item) (b : Bool) (a : Above i x b) → is_uses (kind_of rows a.y.origin) ≡ b
  above_kind i x b a = ap (λ (l : Label). is_uses l.kind) (sym a.told.label) ∙ a.kind_is

  below_node : (i : ℕ) (x : Item) → slice_get items i ≡ Some x → (a : Above i x false) → IsRightBelow rows a.y.origin x.origin
  below_node i x at a = stands_below files modules order own items expanded i a.p x a.y at a.up a.item (above_kind i x false a)

  -- no refine changes a uses
  uses_unchanged : (p : ℕ) (s : Spot) → slice_get spots p ≡ Some s → is_uses s.label.kind ≡ true → changes files spots refined p ≡ []
  uses_unchanged p s at of_uses =
      no_changes (labels_of spots) w files spots (layout_of w items).copies (end_at items) spots p
      (ap is_some_node (slice_get-map (λ (z : Spot). z.label) spots p ∙ ap (option_map (λ (z : Spot). z.label)) at) ∙ (node_is s.label.kind ∙ ap not of_uses))

  -- where all that is round an item has marks, the augment around its statement has
  around_held : (n i : ℕ) (x : Item) → i < n → slice_get items i ≡ Some x → list_all S (under i) ≡ true
      → list_all S (around rows (row_of x)) ≡ true
  around_held zero i x l at all = absurd (omega (arith, l))
  around_held (suc n) i x l at all = elim (stands i x at) [
    | inl top ↦ ap (list_all S) (sym (under_top i x at top)) ∙ all
    | inr (inl a) ↦
        left_is (list_all S (around rows (row_of x))) (list_all S (a.s.statement ∷ under a.p))
        (sym (list_all-append S (around rows (row_of x)) (a.s.statement ∷ under a.p)) ∙ (ap (list_all S) (sym (under_above i x true at a)) ∙ all))
    | inr (inr a) ↦ elim (below_node i x at a) [
      | inl node ↦ ap (list_all S) (node_around rows S (row_of x) node)
      | inr part ↦
          let less = a.less in
          ap (λ (k : ℕ). list_all S (around rows (slice_get rows k))) part.1
          ∙ around_held n a.p a.y (omega (arith, l, less)) a.item (ap (list_all S) (sym (under_above i x false at a)) ∙ all)
    ]
  ]

  -- where an item has a mark, what is round it up to the next node has marks
  near_held : (n i : ℕ) (x : Item) → i < n → slice_get items i ≡ Some x → is_marked marks i ≡ true
      → list_all S (near_by rows x.origin (under i)) ≡ true
  near_held zero i x l at has = absurd (omega (arith, l))
  near_held (suc n) i x l at has =
      let mark = sym (mark_is i x at) ∙ has in
      let own_part : Bool = S (number_of x.origin) && list_all S (changes files spots refined i) in
      let rest = right_is own_part (above_on spots marks x.parent && list_all S (around rows (row_of x))) mark in
      let aug = right_is (above_on spots marks x.parent) (list_all S (around rows (row_of x))) rest in
      let up = left_is (above_on spots marks x.parent) (list_all S (around rows (row_of x))) rest in
      elim (stands i x at) [
        | inl top ↦
            near_written rows S x.origin (under i)
            (ap (λ us. list_all S (near rows (number_of x.origin) us)) (under_top i x at top ∙ sym (append-nil (around rows (row_of x))))
            ∙ near_around rows S (number_of x.origin) (augment_around rows (row_of x)) [] aug (λ j. refl))
        | inr (inl a) ↦
            let less = a.less in
            let above = sym (above_is i x true a) ∙ up in
            let inner = near_held n a.p a.y (omega (arith, l, less)) a.item above in
            let theirs = sym (mark_is a.p a.y a.item) ∙ above in
            let statement : S a.s.statement ≡ true =
            ap S a.told.statement ∙ left_is (S (number_of a.y.origin)) (list_all S (changes files spots refined a.p))
            (left_is (S (number_of a.y.origin) && list_all S (changes files spots refined a.p)) (above_on spots marks a.y.parent && list_all S (around rows (row_of a.y))) theirs) in
            let low : list_all S (near rows a.s.statement (under a.p)) ≡ true =
            ap (λ (k : ℕ). list_all S (near rows k (under a.p))) a.told.statement
            ∙ (ap (list_all S) (sym (uses_written rows S a.y.origin (under a.p) (above_kind i x true a))) ∙ inner) in
            near_written rows S x.origin (under i)
            (ap (λ us. list_all S (near rows (number_of x.origin) us)) (under_above i x true at a)
            ∙ near_around rows S (number_of x.origin) (augment_around rows (row_of x)) (a.s.statement ∷ under a.p) aug (λ j. near_all rows S j a.s.statement (under a.p) statement low))
        | inr (inr a) ↦ elim (below_node i x at a) [
          | inl node ↦ near_written rows S x.origin (under i) (ap (list_all S) (near_in_node rows S (number_of x.origin) (under i) node))
          | inr part ↦ near_unwritten rows S x.origin (under i) part.0
        ]
      ]

  -- where all conditions of an item hold it has a mark
  marked_by : (n i : ℕ) (x : Item) → i < n → slice_get items i ≡ Some x → S (number_of x.origin) ≡ true → list_all S (under i) ≡ true
      → list_all S (changes files spots refined i) ≡ true → is_marked marks i ≡ true
  marked_by zero i x l at first all refines = absurd (omega (arith, l))
  marked_by (suc n) i x l at first all refines =
      let above : above_on spots marks x.parent ≡ true = elim (stands i x at) [
        | inl top ↦ above_top x top
        | inr (inl a) ↦
            let less = a.less in
            let rest = right_is (list_all S (around rows (row_of x))) (list_all S (a.s.statement ∷ under a.p))
            (sym (list_all-append S (around rows (row_of x)) (a.s.statement ∷ under a.p)) ∙ (ap (list_all S) (sym (under_above i x true at a)) ∙ all)) in
            above_is i x true a
            ∙ marked_by n a.p a.y (omega (arith, l, less)) a.item (ap S (sym a.told.statement) ∙ left_is (S a.s.statement) (list_all S (under a.p)) rest)
            (right_is (S a.s.statement) (list_all S (under a.p)) rest) (ap (list_all S) (uses_unchanged a.p a.s a.spot a.kind_is))
        | inr (inr a) ↦ above_is i x false a
      ] in
      mark_is i x at
      ∙ both_true (S (number_of x.origin) && list_all S (changes files spots refined i)) (above_on spots marks x.parent && list_all S (around rows (row_of x)))
      (both_true (S (number_of x.origin)) (list_all S (changes files spots refined i)) first refines)
      (both_true (above_on spots marks x.parent) (list_all S (around rows (row_of x))) above (around_held (suc n) i x l at all))

  -- the item that shows a node
  item_of : (i : ℕ) → its.is_node i ≡ true → (x : Item) × (slice_get items i ≡ Some x)
  item_of i is = by (slice_get spots i) refl
    where
      by : (o : Option Spot) → slice_get spots i ≡ o → (x : Item) × (slice_get items i ≡ Some x)
      by None none =
          absurd (false≢true (sym (tells.told.node i ∙ ap is_some_node (slice_get-map (λ (z : Spot). z.label) spots i ∙ ap (option_map (λ (z : Spot). z.label)) none)) ∙ is))
      by (Some s) at = (let t = told_at w items i s at in (t.0, t.1))

  ask : (i : ℕ) → its.is_node i ≡ true
      → (list_all S (if_feature_statements (its.node_of i)) ≡ true → is_marked marks i ≡ true)
      × (is_marked marks i ≡ true → list_all S (asked_at rows (its.node_of i)) ≡ true)
  ask i is =
      let x = item_of i is in
      let origin = tells.origin i x.0 x.1 in
      let refines = tells.refines i in
      let g : Node = its.node_of i in (
        (λ all.
            let rest = right_is (S (number_of g.origin)) (list_all S (g.under ++ g.refines)) all in
            let split = sym (list_all-append S g.under g.refines) ∙ rest in
            marked_by (suc i) i x.0 (omega arith) x.1 (ap (λ (o : Origin). S (number_of o)) (sym origin) ∙ left_is (S (number_of g.origin)) (list_all S (g.under ++ g.refines)) all)
            (left_is (list_all S g.under) (list_all S g.refines) split)
            (ap (list_all S) (sym refines) ∙ right_is (list_all S g.under) (list_all S g.refines) split)),
        (λ has.
            let mark = sym (mark_is i x.0 x.1) ∙ has in
            let own_part = left_is (S (number_of x.0.origin) && list_all S (changes files spots refined i)) (above_on spots marks x.0.parent && list_all S (around rows (row_of x.0))) mark in
            let near_part = near_held (suc i) i x.0 (omega arith) x.1 has in
            both_true (S (number_of g.origin)) (list_all S (near_by rows g.origin g.under ++ g.refines))
            (ap (λ (o : Origin). S (number_of o)) origin ∙ left_is (S (number_of x.0.origin)) (list_all S (changes files spots refined i)) own_part)
            (list_all-append S (near_by rows g.origin g.under) g.refines
            ∙ both_true (list_all S (near_by rows g.origin g.under)) (list_all S g.refines)
            (ap (λ (o : Origin). list_all S (near_by rows o g.under)) origin ∙ near_part)
            (ap (list_all S) refines ∙ right_is (S (number_of x.0.origin)) (list_all S (changes files spots refined i)) own_part))),
      )

pub marks_ask : (files : Files) → MarksAsk files
marks_ask files modules order own items its statements marks i expanded tells on is =
    ask files modules order own items its expanded tells statements marks on i is
