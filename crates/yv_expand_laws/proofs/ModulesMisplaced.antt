-- The augments of modules that give items to nodes which don't take them are refused so by both
-- definitions.
use Rattle.std.proofs.Common.{inl, inr, ◌≡◌, ℕ, suc, ◌+◌, ◌-◌, ◌<◌, ◌≤◌, Bool, true, false, if◌then◌else◌, List, [], ◌∷◌, length, map, Option, Some, None, refl, sym, ◌∙◌, ap, subst, arith}
use Rattle.std.specs.List.{Contains, slice_get}
use Rattle.std.proofs.lemmas.Bool.{cases_lt, false≢true}
use Rattle.std.proofs.lemmas.List.Sums.{sum_by-append}
use Rattle.std.proofs.lemmas.Option.{same_Some, slice_get_within}
use Rattle.yv_link_scopes.specs.Files.{Files, brief_of}
use Rattle.yv_link_scopes.specs.RowList.{rows_of}
use Rattle.yv_link_scopes.specs.Rows.{Row}
use Rattle.yv_expand_statements.specs.StatementBlocks.{block_of, augments_of, is_node_or_uses}
use Rattle.yv_expand_statements.specs.Origin.{number_of}
use Rattle.yv_expand.specs.Tree.{Item, all_of, join}
use Rattle.yv_expand_statements.specs.declared.origin.Origin.{Origin}
use Rattle.yv_expand_statements.specs.declared.origin.Origin.TheVariants.{Input, Output, Statement}
use Rattle.yv_expand.specs.Expansion.{IsWhole}
use Rattle.yv_expand_rounds.specs.Groups.{Groups, group_of_augment, members_of, times}
use Rattle.yv_expand_rounds.specs.Placements.{HaveEntered, StandOnce}
use Rattle.yv_expand_rounds.specs.Tree.{IsTree, Tree}
use Rattle.yv_expand_rounds.specs.Tree as by_number
use Rattle.yv_expand_rounds.specs.Turns.{State, target_of}
use Rattle.yv_expand_statements.specs.declared.statement_kind.StatementKind.{StatementKind}
use Rattle.yv_expand_statements.specs.declared.statement_kind.StatementKind.TheVariants as kind
use Rattle.yv_expand_rounds.specs.declared.label.Label.{Label}
use Rattle.yv_expand_rounds.specs.declared.row.ItemRow.{ItemRow}
use Rattle.yv_expand_augments.specs.Augmentation.{AreAugmented}
use Rattle.yv_expand_uses.specs.AugmentOrder.{place_of}
use Rattle.yv_expand_statements.specs.Kinds.{is_uses, takes}
use Rattle.yv_expand_uses.specs.Kinds.{kind_at, kind_of}
use Rattle.yv_expand_augments.specs.Placement.{augment_around}
use Rattle.yv_expand_uses.specs.Spots.{Whole, copy_group, source_in, group_below, labels_of, layout_of, spot_at, top_group_of, top_group, used_group, whole}
use Rattle.yv_expand_uses.specs.declared.spot.Spot.{Spot}
use Rattle.yv_expand_augments.proofs.ItemEntry.{whole_entered}
use Rattle.yv_expand_tree.specs.Final.{final_items}
use Rattle.yv_expand_statements.specs.FileOrder.{marks_of, order_of}
use Rattle.yv_expand_tree.proofs.NodePositions.{parents_first}
use Rattle.yv_expand_definition.proofs.GivenNodeUniqueness.{RefersToOne}
use Rattle.yv_expand_laws.specs.Files.{AreGiven, ShowFiles, expansion_of, giver_by, giver_of, labels_in, start_of}
use Rattle.yv_expand_laws.specs.Misplacements.{HasMisplaced, MisplacedByModule, MisplacementsByModulesAreOne}
use Rattle.yv_expand_laws.specs.ModuleBlocks.{IsUntaken, ModuleBlocksAreOne}
use Rattle.yv_expand_laws.specs.Shows.{Items}
use Rattle.yv_expand_laws.specs.Under.{FinalStands}
use Rattle.yv_expand_laws.specs.Under.Under.{in_group}
use Rattle.yv_expand_laws.proofs.FoundItems.{not_none}
use Rattle.yv_expand_laws.proofs.Givers.{giver_here, giver_high, giver_low, giver_place, many_labels}
use Rattle.yv_expand_laws.proofs.ItemPositions.{group_at}
use Rattle.yv_expand_laws.proofs.LaidBlocks.{still_at}
use Rattle.yv_expand_laws.proofs.FileMarks.{order_marked}
use Rattle.yv_expand_laws.proofs.Modules.{at_first, stand_givers, start_is}
use Rattle.yv_expand_laws.proofs.AugmentBlocks.{MayBelow, items_stand}
use Rattle.yv_expand_laws.proofs.Orders.{IsModuleAugment, at_there, augment_in, augments_rise, place_is, rises_one}
use Rattle.yv_expand_laws.proofs.TakenBlocks.{scope_of, stands_there, targets_take}
use Rattle.yv_expand_laws.proofs.Targets.{contains_at}
use Rattle.yv_expand_laws.proofs.LabelsAndPaths.{laid_many, there_is, told_at}
use Rattle.yv_expand_laws.proofs.TopItems.{all_have, expands_top, joined_second, listed_has}
use Rattle.yv_expand_laws.proofs.Trees.{contained}
use Rattle.yv_expand_laws.proofs.Trees as often

-- what takes something is no uses
takes_no_uses : (k g : StatementKind) → takes k g ≡ true → is_uses k ≡ false
takes_no_uses kind.Uses g h = absurd (false≢true h)
takes_no_uses kind.Container g h = refl
takes_no_uses kind.Leaf g h = refl
takes_no_uses kind.LeafList g h = refl
takes_no_uses kind.List g h = refl
takes_no_uses kind.Choice g h = refl
takes_no_uses kind.Case g h = refl
takes_no_uses kind.Anydata g h = refl
takes_no_uses kind.Anyxml g h = refl
takes_no_uses kind.Rpc g h = refl
takes_no_uses kind.Action g h = refl
takes_no_uses kind.Input g h = refl
takes_no_uses kind.Output g h = refl
takes_no_uses kind.Notification g h = refl

-- what stands as often as once stands in some group
stands_somewhere : (y : ℕ) (groups : Groups) → 1 ≤ times y groups → (g : ℕ) × Contains (members_of groups g) y
stands_somewhere y [] h = absurd (omega (arith, h))
stands_somewhere y (members ∷ groups) h =
    let a = sum_by-append (λ ms. often.count y ms) (members ∷ []) groups in
    let e : times y (members ∷ groups) ≡ 0 + often.count y members + times y groups = a in
    elim (cases_lt 0 (often.count y members)) [
      | inl l ↦ (0, contained y members (omega (arith, l)))
      | inr l ↦ (let r = stands_somewhere y groups (omega (arith, e, l, h)) in (suc r.0, r.1))
    ]

abbrev pub GivenBelow : Type 0
GivenBelow =
    (w : Whole) (items : List Item) (st : State) (t : Tree) (k place : ℕ) (row : ItemRow) (s : Spot) → w.items ≡ length items → AreAugmented w items st
    → IsTree (labels_of (layout_of w items).spots) st.groups t → slice_get (by_number.tree_list None 1 t) k ≡ Some row → slice_get (layout_of w items).spots row.number ≡ Some s
    → place < length w.augments → s.group ≡ copy_group w place
    → (p : ℕ) × (row.parent ≡ Some p) × (target_of (labels_of (layout_of w items).spots) st.ends place ≡ Some p)

abbrev pub Once : Type 0
Once = (labels : List Label) (augments : ℕ) (st : State) → HaveEntered labels augments 0 st → StandOnce (length labels) st.groups

-- an item that is laid below a node stands below it in the final tree
abbrev pub StandsBelow : Type 0
StandsBelow =
    (w : Whole) (items : List Item) (st : State) (t : Tree) (k p : ℕ) (row : ItemRow) (s : Spot) → w.items ≡ length items → AreAugmented w items st
    → IsTree (labels_of (layout_of w items).spots) st.groups t → slice_get (by_number.tree_list None 1 t) k ≡ Some row → slice_get (layout_of w items).spots row.number ≡ Some s
    → p < length items → s.group ≡ p + 1 → row.parent ≡ Some p

module _ (files : Files) (marks : List Bool) (order : List ℕ) (own : ℕ) (items : List Item) (expanded : IsWhole files marks order own items)
    (st : State) (tree : Tree) (grafted : AreAugmented (expansion_of files marks items) items st) (is_tree : IsTree (labels_in files marks items) st.groups tree)
    (given_below : GivenBelow) (stands_below_law : StandsBelow) where
  abbrev rows : List Row
  rows = rows_of files

  abbrev augments : List ℕ
  augments = augments_of (map brief_of files) rows marks

  abbrev w : Whole
  w = expansion_of files marks items

  abbrev spots : List Spot
  spots = (layout_of w items).spots

  abbrev labels : List Label
  labels = labels_in files marks items

  module _ (i : ℕ) (s : Spot) (x : Item) (at : slice_get spots i ≡ Some s) (x_at : slice_get items i ≡ Some x) (statement : s.statement ≡ number_of x.origin) (kind_is : s.label.kind ≡ kind_of rows x.origin) where
    -- an item at the top in the block of an augment stands in its group
    top_stands : (k a j : ℕ) (r : Row) → slice_get augments k ≡ Some a → x.parent ≡ None → x.origin ≡ Statement j → slice_get rows j ≡ Some r → r.scope ≡ a → s.group ≡ copy_group w k
    top_stands k a j r at_k top origin at_j scope =
        let (before, more, are, long, group) = group_at w items i s x at x_at in
        group ∙ (ap (λ (o : Origin). group_below w (slice_get rows (number_of o)) x.parent (spot_at before x.parent)) origin
        ∙ (ap (λ (p : Option ℕ). group_below w (slice_get rows j) p (spot_at before p)) top
        ∙ (ap (top_group w) at_j ∙ (ap (λ (n : ℕ). top_group_of w (place_of augments n)) scope
        ∙ ap (top_group_of w) (place_is augments (augments_rise files marks) k a at_k)))))

    -- an operation's part that isn't written stands below it, and is taken
    pub part_taken : (k p : ℕ) (y : Item) (row : ItemRow) (above : Spot) (part : StatementKind) → slice_get (by_number.tree_list None 1 tree) k ≡ Some row → row.number ≡ i
        → spot_at spots row.parent ≡ Some above → x.parent ≡ Some p → slice_get items p ≡ Some y → takes (kind_of rows y.origin) part ≡ true
        → takes above.label.kind part ≡ true
    part_taken k p y row above part at_row is node_is up at_y taken =
        let (before, more, are, long, group) = group_at w items i s x at x_at in
        let first : p < i = parents_first (join (all_of expanded.trees) (all_of expanded.added)) items expanded.listed i p x x_at up in
        let few = slice_get_within items i x x_at in
        let many = laid_many w items in
        let z = there_is spots p (omega (arith, few, many, first)) in
        let t = told_at w items p z.0 z.1 in
        let same : t.0 ≡ y = same_Some t.0 y (sym t.1 ∙ at_y) in
        let kind_z : z.0.label.kind ≡ kind_of rows y.origin = ap (λ l. l.kind) t.2.label ∙ ap (λ (u : Item). kind_of rows u.origin) same in
        let no_uses : is_uses z.0.label.kind ≡ false = ap is_uses kind_z ∙ takes_no_uses (kind_of rows y.origin) part taken in
        let there : slice_get before p ≡ Some z.0 = sym (still_at before more p (omega (arith, first, long))) ∙ (ap (λ (l : List Spot). slice_get l p) (sym are) ∙ z.1) in
        let in_it : s.group ≡ p + 1 =
        group ∙ (ap (λ (o : Option ℕ). group_below w (slice_get rows (number_of x.origin)) o (spot_at before o)) up
        ∙ (ap (group_below w (slice_get rows (number_of x.origin)) (Some p)) there
        ∙ ap (λ (b : Bool). if b then used_group w z.0 (slice_get rows (number_of x.origin)) else p + 1) no_uses)) in
        let parent : row.parent ≡ Some p =
        stands_below_law w items st tree k p row s refl grafted is_tree at_row (ap (slice_get spots) is ∙ at) (omega (arith, few, first)) in_it in
        let one : z.0 ≡ above = same_Some z.0 above (sym z.1 ∙ (ap (spot_at spots) (sym parent) ∙ node_is)) in
        ap (λ (u : Spot). takes u.label.kind part) (sym one) ∙ (ap (λ (q : StatementKind). takes q part) kind_z ∙ taken)

  -- where an item of its block isn't taken, the block isn't
  pub block_untaken : (k a : ℕ) → slice_get augments k ≡ Some a → HasMisplaced rows spots (by_number.tree_list None 1 tree) a → IsUntaken w items st k a
  block_untaken k a at h =
      let t = told_at w items h.row.number h.spot h.spot_is in
      let kind_is : h.spot.label.kind ≡ kind_of rows t.0.origin = ap (λ l. l.kind) t.2.label in
      elim (items_stand files marks order own items expanded h.row.number t.0 t.1) [
        | inl (top, (j, r, origin, at_j, is_one)) ↦ top_case t.0 t.1 t.2.statement kind_is j r top origin at_j is_one
        | inr (p, y, up, at_y, may) ↦ absurd (below_case t.0 t.1 t.2.statement kind_is p y up at_y t.0.origin refl may)
      ]
    where
      q : IsModuleAugment files marks a
      q = augment_in files marks a (at_there augments k a at)

      around_is : (x : Item) → h.spot.statement ≡ number_of x.origin → (j : ℕ) (r : Row) → x.origin ≡ Statement j → slice_get rows j ≡ Some r → augment_around rows (Some r) ≡ Some a
      around_is x statement j r origin at_j = sym (ap (augment_around rows) (ap (slice_get rows) (statement ∙ ap number_of origin) ∙ at_j)) ∙ h.around

      top_case : (x : Item) → slice_get items h.row.number ≡ Some x → h.spot.statement ≡ number_of x.origin → h.spot.label.kind ≡ kind_of rows x.origin → (j : ℕ) (r : Row) → x.parent ≡ None
          → x.origin ≡ Statement j → slice_get rows j ≡ Some r → is_node_or_uses r ≡ true → IsUntaken w items st k a
      top_case x x_at statement kind_is j r top origin at_j is_one =
          let around = around_is x statement j r origin at_j in
          let scope : r.scope ≡ a = scope_of rows a q.row kind.Leaf q.at q.is r around in
          let group = top_stands h.row.number h.spot x h.spot_is x_at statement kind_is k a j r at top origin at_j scope in
          let (p, up, adds) = given_below w items st tree h.place k h.row h.spot refl grafted is_tree h.at h.spot_is (slice_get_within augments k a at) group in
          let same : kind_at (Some r) ≡ h.spot.label.kind = sym (kind_is ∙ (ap (kind_of rows) origin ∙ ap kind_at at_j)) in
          record {
            target = p;
            adds = adds;
            node = h.node;
            target_at = ap (spot_at spots) (sym up) ∙ h.node_is;
            untaken = (targets_take rows a q.row h.node.label.kind q.at q.is).1 (record {
              statement = j;
              row = r;
              at = at_j;
              item = is_one;
              around = around;
              taken = ap (takes h.node.label.kind) same ∙ h.untaken;
            });
          }

      below_case : (x : Item) → slice_get items h.row.number ≡ Some x → h.spot.statement ≡ number_of x.origin → h.spot.label.kind ≡ kind_of rows x.origin → (p : ℕ) (y : Item) → x.parent ≡ Some p
          → slice_get items p ≡ Some y → (o : Origin) → x.origin ≡ o → MayBelow files marks y.origin o → ⊥
      below_case x x_at statement kind_is p y up at_y (Statement j) origin (r, at_j, never, sides) =
          let scope : r.scope ≡ a = scope_of rows a q.row kind.Leaf q.at q.is r (around_is x statement j r origin at_j) in
          never (subst (λ (n : ℕ). Contains augments n) (sym scope) (at_there augments k a at))
      below_case x x_at statement kind_is p y up at_y (Input j) origin taken =
          let t = part_taken h.row.number h.spot x h.spot_is x_at statement kind_is h.place p y h.row h.node kind.Input h.at refl h.node_is up at_y taken in
          false≢true (sym h.untaken ∙ (ap (takes h.node.label.kind) (kind_is ∙ ap (kind_of rows) origin) ∙ t))
      below_case x x_at statement kind_is p y up at_y (Output j) origin taken =
          let t = part_taken h.row.number h.spot x h.spot_is x_at statement kind_is h.place p y h.row h.node kind.Output h.at refl h.node_is up at_y taken in
          false≢true (sym h.untaken ∙ (ap (takes h.node.label.kind) (kind_is ∙ ap (kind_of rows) origin) ∙ t))

  -- only what augments of modules give has them
  giver_group : (x a : ℕ) → giver_here w items refl x ≡ Some a → (k : ℕ) × (x ≡ group_of_augment labels k) × (slice_get augments k ≡ Some a)
  giver_group x a h = elim (cases_lt (length labels) x) [
    | inl l ↦
        let k : ℕ = x - length labels - 1 in
        let same : x ≡ group_of_augment labels k = omega (arith, l) in
        (k, same, sym (giver_high w items refl k) ∙ (ap (giver_here w items refl) (sym same) ∙ h))
    | inr l ↦ absurd (not_none (sym (giver_low w items refl x (omega (arith, l))) ∙ h))
  ]

  module _ (its : Items) (given : AreGiven files marks order) (shown : ShowFiles files marks items its) (one_meant : RefersToOne files) (once : Once) (final_stands : FinalStands) where
    -- an item that is laid in the group of an augment stands there at first
    stands_at_first : (k a i : ℕ) (s : Spot) → slice_get augments k ≡ Some a → slice_get spots i ≡ Some s → s.group ≡ copy_group w k
        → Contains (members_of (start_of files marks items).groups (group_of_augment labels k)) i
    stands_at_first k a i s at_k at group =
        let start : State = start_of files marks items in
        let stand = once labels (layout_of w items).copies start (whole_entered w items refl) in
        let few = slice_get_within spots i s at in
        let many = many_labels w items refl in
        let many' = laid_many w items in
        let less : i < length labels = omega (arith, few, many, many') in
        let one = stand.once i less in
        let g = stands_somewhere i start.groups (omega (arith, one)) in
        let there : Contains (members_of (at_first files marks order own items its given expanded shown one_meant).groups g.0) i =
        subst (λ (z : State). Contains (members_of z.groups g.0) i) (start_is files marks order own items its given expanded shown one_meant) g.1 in
        let gives : giver_of w items i ≡ Some a =
        ap (giver_by w) at ∙ (ap (source_in w.items w.augments) (group ∙ (let e : copy_group w k ≡ group_of_augment labels k = omega (arith, many) in e)) ∙ giver_place w items refl k a at_k) in
        let (c, same, at_c) = giver_group g.0 a (sym (stand_givers files marks order own items its given expanded shown one_meant g.0 i there) ∙ gives) in
        let place : c ≡ k = rises_one augments (augments_rise files marks) c k a at_c at_k in
        subst (λ (n : ℕ). Contains (members_of start.groups n) i) (same ∙ ap (group_of_augment labels) place) g.1

    -- an item has each statement of a block that gives one
    item_of : (k a j : ℕ) (r : Row) → slice_get augments k ≡ Some a → Contains (block_of rows a) j → slice_get rows j ≡ Some r → is_node_or_uses r ≡ true
        → (i : ℕ) × (slice_get items i ≡ Some (record { origin = Statement j; parent = None }))
    item_of k a j r at_k there at_j is_one =
        let l = slice_get_within augments k a at_k in
        let e = expanded.are_added.each in
        let t = there_is expanded.added k (omega (arith, l, e)) in
        let top = expands_top (expanded.are_added.expands k a t.0 at_k t.1) j r there at_j is_one in
        let i = listed_has j None 0 (join (all_of expanded.trees) (all_of expanded.added)) (joined_second j (all_of expanded.trees) (all_of expanded.added) (all_have j expanded.added k t.0 t.1 top)) in
        (i.0, ap (λ z. slice_get z i.0) expanded.listed ∙ i.1)

    -- where the block isn't taken an item of it isn't
    pub item_misplaced : (k a : ℕ) → slice_get augments k ≡ Some a → IsUntaken w items st k a → HasMisplaced rows spots (by_number.tree_list None 1 tree) a
    item_misplaced k a at u =
        let q = augment_in files marks a (at_there augments k a at) in
        let n = (targets_take rows a q.row u.node.label.kind q.at q.is).0 u.untaken in
        let here = stands_there rows a q.row u.node.label.kind q.at q.is n.statement n.row n.at n.item n.around in
        let i = item_of k a n.statement n.row at here n.at n.item in
        let few = slice_get_within items i.0 (record { origin = Statement n.statement; parent = None }) i.1 in
        let many = laid_many w items in
        let s = there_is spots i.0 (omega (arith, few, many)) in
        let t = told_at w items i.0 s.0 s.1 in
        let x : Item = record { origin = Statement n.statement; parent = None } in
        let same : t.0 ≡ x = same_Some t.0 x (sym t.1 ∙ i.1) in
        let statement : s.0.statement ≡ n.statement = t.2.statement ∙ ap (λ (y : Item). number_of y.origin) same in
        let kind_is : s.0.label.kind ≡ kind_at (slice_get rows n.statement) = ap (λ l. l.kind) t.2.label ∙ ap (λ (y : Item). kind_of rows y.origin) same in
        let scope = scope_of rows a q.row u.node.label.kind q.at q.is n.row n.around in
        let group = top_stands i.0 s.0 x s.1 i.1 statement kind_is k a n.statement n.row at refl refl n.at scope in
        let first = stands_at_first k a i.0 s.0 at s.1 group in
        let there = (final_stands w items st tree i.0 refl grafted is_tree).1 (inr (record {
          place = k;
          less = slice_get_within augments k a at;
          target = u.target;
          adds = u.adds;
          stands = in_group first;
        })) in
        let spot_is : slice_get spots there.row.number ≡ Some s.0 = ap (slice_get spots) there.is ∙ s.1 in
        let (p, up, adds) = given_below w items st tree there.place k there.row s.0 refl grafted is_tree there.at spot_is (slice_get_within augments k a at) group in
        let target : p ≡ u.target = same_Some p u.target (sym adds ∙ u.adds) in
        record {
          place = there.place;
          row = there.row;
          at = there.at;
          spot = s.0;
          spot_is = spot_is;
          node = u.node;
          node_is = ap (spot_at spots) up ∙ (ap (slice_get spots) target ∙ u.target_at);
          around = ap (augment_around rows) (ap (slice_get rows) statement ∙ n.at) ∙ n.around;
          untaken = ap (takes u.node.label.kind) (kind_is ∙ ap kind_at n.at) ∙ n.taken;
        }

pub misplacements_by_modules : (files : Files) → RefersToOne files → FinalStands → GivenBelow → StandsBelow → Once → ModuleBlocksAreOne files → MisplacementsByModulesAreOne files
misplacements_by_modules files one_meant final_stands given_below below once blocks_are_one choice f its m r sound roots final tells E =
    let marks : List Bool = marks_of choice files in
    let order : List ℕ = order_of choice files in
    let augments : List ℕ = augments_of (map brief_of files) (rows_of files) marks in
    let w : Whole = expansion_of files marks f.items in
    let given : AreGiven files marks order = record { sound = sound; roots = roots; marked = order_marked choice files } in
    let grafted : AreAugmented w f.items f.state =
    subst (λ a. AreAugmented (whole (map brief_of files) (rows_of files) a (length f.items)) f.items f.state) final.augments final.grafted in
    let tree : IsTree (labels_in files marks f.items) f.state.groups f.tree =
    subst (λ a. IsTree (labels_of (layout_of (whole (map brief_of files) (rows_of files) a (length f.items)) f.items).spots) f.state.groups f.tree) final.augments final.is_tree in
    let blocks = blocks_are_one choice f its m r sound roots final tells E in
    let At : List ℕ → ℕ → ℕ → Type 0 = λ bs k a. IsUntaken (whole (map brief_of files) (rows_of files) bs (length f.items)) f.items f.state k a in
    let By : List ℕ → Type 0 = λ a. MisplacedByModule (whole (map brief_of files) (rows_of files) a (length f.items)) f.items (final_items f) r in (
      (λ bad.
          let (a, there, h, (row, found, is)) = subst By final.augments bad in
          let k = contains_at augments a there in
          let u : At augments k.0 a = block_untaken files marks order final.own f.items final.expanded f.state f.tree grafted tree given_below below k.0 a k.1 h in
          let at : slice_get f.augments k.0 ≡ Some a = ap (λ z. slice_get z k.0) final.augments ∙ k.1 in
          blocks.0 (k.0, slice_get_within f.augments k.0 a at, a, at, (subst (λ z. At z k.0 a) (sym final.augments) u, (row, found, is)))),
      (λ refused.
          let (k, less, a, at, (u, (row, found, is))) = blocks.1 refused in
          let at' : slice_get augments k ≡ Some a = ap (λ z. slice_get z k) (sym final.augments) ∙ at in
          let h = item_misplaced files marks order final.own f.items final.expanded f.state f.tree grafted tree given_below below its given tells one_meant once final_stands k a at'
          (subst (λ z. At z k a) final.augments u) in
          subst By (sym final.augments) (a, at_there augments k a at', h, (row, found, is))),
    )
