-- Nodes stand as deep in the final tree by number as they do in the tree that it shows.
use Rattle.std.proofs.Common.{inl, inr, ◌≡◌, ℕ, zero, suc, ◌+◌, ◌<◌, not, Bool, true, false, if◌then◌else◌, List, [], ◌∷◌, length, map, Option, Some, None, refl, sym, ap, ◌∙◌, subst, arith}
use Rattle.std.specs.List.{slice_get}
use Rattle.std.specs.Option.{option_map}
use Rattle.std.proofs.lemmas.Bool.{false≢true}
use Rattle.std.proofs.lemmas.Option.{same_Some, slice_get-map, slice_get_within}
use Rattle.yv_text_statement.specs.declared.refusal.Refusal.{Refusal}
use Rattle.yv_link_scopes.specs.Files.{Files, brief_of}
use Rattle.yv_link_scopes.specs.RowList.{rows_of}
use Rattle.yv_expand_statements.specs.Origin.{number_of}
use Rattle.yv_expand.specs.Tree.{Item}
use Rattle.yv_expand_rounds.specs.declared.label.Label.{Label}
use Rattle.yv_expand_rounds.specs.declared.row.ItemRow.{ItemRow}
use Rattle.yv_expand_rounds.specs.Groups.{Groups}
use Rattle.yv_expand_statements.specs.Kinds as kinds_are
use Rattle.yv_expand_rounds.specs.Placements.{StandOnce}
use Rattle.yv_expand_rounds.specs.Tree.{IsTree, Tree, item, tree_list}
use Rattle.yv_expand_rounds.specs.Tree as by_number
use Rattle.yv_expand_augments.specs.Refusals.{TooDeep}
use Rattle.yv_expand_augments.specs.Augmentation.{AreAugmented}
use Rattle.yv_expand_statements.specs.Kinds.{is_uses}
use Rattle.yv_expand_uses.specs.Spots.{Whole, labels_of, layout_of, whole}
use Rattle.yv_expand_uses.specs.declared.spot.Spot.{Spot}
use Rattle.yv_expand_tree.specs.Final.{spots_of, final_items}
use Rattle.yv_expand_statements.specs.FileOrder.{marks_of}
use Rattle.yv_expand_tree.proofs.NodePositions.{Every, every_row, in_first, in_lists, in_second}
use Rattle.yv_expand_definition.specs.Nodes.{Forest, Node, node}
use Rattle.yv_expand_definition.specs.Refusals.{Stands, here, under, later}
use Rattle.yv_expand_definition.proofs.GivenNodeUniqueness.{RefersToOne}
use Rattle.yv_expand_laws.specs.Depths.{DepthsAreOne, RefusesDepth}
use Rattle.yv_expand_laws.specs.Files.{ShowFiles, expansion_of, labels_in}
use Rattle.yv_expand_laws.specs.Shows.{Items}
use Rattle.yv_expand_laws.specs.ItemProperties.{is_some_node}
use Rattle.yv_expand_laws.specs.Trees.{forest_shown}
use Rattle.yv_expand_laws.proofs.Below.{AreLowest, IsUses, make_lowest, uses_empty}
use Rattle.yv_expand_laws.proofs.FinalTree.{EachOnce, final_tree_shows}
use Rattle.yv_expand_laws.proofs.FoundItems.{not_none}
use Rattle.yv_expand_laws.proofs.KeywordKinds.{node_is}
use Rattle.yv_expand_laws.proofs.LabelsAndPaths.{laid_many, there_is, told_at}

module _ (its : Items) where
  abbrev chosen : Bool → ℕ → Tree → Tree → Forest
  chosen b i below behind = if b then node (its.node_of i) (forest_shown its below) (forest_shown its behind) else forest_shown its behind

  -- a row of the tree that is a node stands as deep in the forest
  record StandsSo (t : Tree) (outer : List Node) (row : ItemRow) : Type 0 where
    below : Forest
    above : List Node
    stands : Stands (forest_shown its t) outer (its.node_of row.number) below above
    depth : length above + 1 ≡ row.depth

  rows_stand : (IsShut : ℕ → Type 0) (t : Tree) (parent : Option ℕ) (depth : ℕ) (outer : List Node) → AreLowest IsShut t
      → Every (λ p i. its.is_node i ≡ false → IsShut i) parent t → length outer + 1 ≡ depth → (k : ℕ) (row : ItemRow)
      → slice_get (tree_list parent depth t) k ≡ Some row → its.is_node row.number ≡ true → StandsSo t outer row
  rows_stand IsShut by_number.none parent depth outer low every deep k row at is = absurd (not_none at)
  rows_stand IsShut (item i below behind) parent depth outer low every deep zero row at is =
      let same : record { number = i; parent = parent; depth = depth } ≡ row = same_Some (record { number = i; parent = parent; depth = depth }) row at in
      let number : i ≡ row.number = ap (λ (z : ItemRow). z.number) same in
      record {
        below = forest_shown its below;
        above = outer;
        stands = subst (λ (n : ℕ). Stands (forest_shown its (item i below behind)) outer (its.node_of n) (forest_shown its below) outer) number
            (subst (λ (b : Bool). Stands (chosen b i below behind) outer (its.node_of i) (forest_shown its below) outer) (sym (ap its.is_node number ∙ is)) here);
        depth = deep ∙ ap (λ (z : ItemRow). z.depth) same;
      }
  rows_stand IsShut (item i below behind) parent depth outer low every deep (suc k) row at is =
      let inside : List ItemRow = tree_list (Some i) (depth + 1) below in
      let beside : List ItemRow = tree_list parent depth behind in
      elim (in_lists inside beside k row at) [
        | inl inner ↦ down (its.is_node i) refl inner (λ is_one. rows_stand IsShut below (Some i) (depth + 1) (its.node_of i ∷ outer) low.1.0 every.1.0 (omega (arith, deep)) k row inner is)
        | inr outside ↦ along (its.is_node i) refl (rows_stand IsShut behind parent depth outer low.1.1 every.1.1 deep outside.0 row outside.2 is)
      ]
    where
      down : (b : Bool) → its.is_node i ≡ b → slice_get (tree_list (Some i) (depth + 1) below) k ≡ Some row
          → (its.is_node i ≡ true → StandsSo below (its.node_of i ∷ outer) row) → StandsSo (item i below behind) outer row
      down false isnt inner go =
          absurd (not_none (sym (ap (λ t. slice_get (tree_list (Some i) (depth + 1) t) k) (low.0 (every.0 isnt))) ∙ inner))
      down true yes_it inner go =
          let s = go yes_it in
          record {
            below = s.below;
            above = s.above;
            stands =
                subst (λ (b : Bool). Stands (chosen b i below behind) outer (its.node_of row.number) s.below s.above) (sym yes_it) (under s.stands);
            depth = s.depth;
          }

      along : (b : Bool) → its.is_node i ≡ b → StandsSo behind outer row → StandsSo (item i below behind) outer row
      along false isnt s = record {
        below = s.below;
        above = s.above;
        stands = subst (λ (b : Bool). Stands (chosen b i below behind) outer (its.node_of row.number) s.below s.above) (sym isnt) s.stands;
        depth = s.depth;
      }
      along true yes_it s = record {
        below = s.below;
        above = s.above;
        stands =
            subst (λ (b : Bool). Stands (chosen b i below behind) outer (its.node_of row.number) s.below s.above) (sym yes_it) (later s.stands);
        depth = s.depth;
      }

  -- a node of the forest has a row
  record HasRow (t : Tree) (parent : Option ℕ) (depth : ℕ) (g : Node) (above : List Node) : Type 0 where
    k : ℕ
    row : ItemRow
    at : slice_get (tree_list parent depth t) k ≡ Some row
    is_node : its.is_node row.number ≡ true
    shows : its.node_of row.number ≡ g
    deep : length above + 1 ≡ row.depth

  stands_row : (t : Tree) (parent : Option ℕ) (depth : ℕ) {outer above : List Node} {g : Node} {low : Forest} → length outer + 1 ≡ depth
      → Stands (forest_shown its t) outer g low above → HasRow t parent depth g above
  stands_row by_number.none parent depth deep s = absurd (no_stand s)
    where
      no_stand : {outer above : List Node} {g : Node} {low : Forest} → Stands Rattle.yv_expand_definition.specs.Nodes.none outer g low above → ⊥
      no_stand s = elim s [ ]
  stands_row (item i below behind) parent depth {outer = outer} deep s =
      by (its.is_node i) refl s deep (λ above g low s. stands_row below (Some i) (depth + 1) (omega (arith, deep)) s) (λ above g low s. stands_row behind parent depth deep s)
    where
      inner : {above : List Node} {g : Node} → HasRow below (Some i) (depth + 1) g above → HasRow (item i below behind) parent depth g above
      inner r = record {
        k = suc r.k;
        row = r.row;
        at = in_first (tree_list (Some i) (depth + 1) below) (tree_list parent depth behind) r.k r.row r.at;
        is_node = r.is_node;
        shows = r.shows;
        deep = r.deep;
      }

      beside : {above : List Node} {g : Node} → HasRow behind parent depth g above → HasRow (item i below behind) parent depth g above
      beside r =
          let first : List ItemRow = tree_list (Some i) (depth + 1) below in
          record {
            k = suc (length first + r.k);
            row = r.row;
            at = in_second first (tree_list parent depth behind) (length first + r.k) r.k r.row refl r.at;
            is_node = r.is_node;
            shows = r.shows;
            deep = r.deep;
          }

      by : (b : Bool) {outer above : List Node} {g : Node} {low : Forest} → its.is_node i ≡ b
          → Stands (chosen b i below behind) outer g low above → length outer + 1 ≡ depth
          → ((above : List Node) (g : Node) (low : Forest) → Stands (forest_shown its below) (its.node_of i ∷ outer) g low above → HasRow below (Some i) (depth + 1) g above)
          → ((above : List Node) (g : Node) (low : Forest) → Stands (forest_shown its behind) outer g low above → HasRow behind parent depth g above)
          → HasRow (item i below behind) parent depth g above
      by false is s deep below_row behind_row = beside (behind_row _ _ _ s)
      by true is here deep below_row behind_row =
          record { k = 0; row = record { number = i; parent = parent; depth = depth }; at = refl; is_node = is; shows = refl; deep = deep }
      by true is (under s) deep below_row behind_row = inner (below_row _ _ _ s)
      by true is (later s) deep below_row behind_row = beside (behind_row _ _ _ s)

-- each item of the tree is one of the expansion
abbrev pub AllWithin : Type 0
AllWithin =
    (labels : List Label) (groups : Groups) (items k : ℕ) (row : ItemRow) (t : Tree) → IsTree labels groups t → StandOnce items groups
    → slice_get (tree_list None 1 t) k ≡ Some row → row.number < items

module _ (files : Files) (marks : List Bool) (items : List Item) (its : Items) (tells : ShowFiles files marks items its) where
  abbrev w : Whole
  w = expansion_of files marks items

  abbrev spots : List Spot
  spots = (layout_of w items).spots

  label_at : (i : ℕ) (s : Spot) → slice_get spots i ≡ Some s → its.is_node i ≡ kinds_are.is_node s.label.kind
  label_at i s at =
      tells.told.node i ∙ ap is_some_node (slice_get-map (λ (z : Spot). z.label) spots i ∙ ap (option_map (λ (z : Spot). z.label)) at)

  flipped : (b : Bool) → not b ≡ false → b ≡ true
  flipped true h = refl
  flipped false h = absurd (false≢true (sym h))

  -- an item that is no node is a uses
  pub uses_is : (i : ℕ) → i < length items → its.is_node i ≡ false → IsUses w items refl i
  uses_is i less isnt =
      let long = laid_many w items in
      let s = there_is spots i (omega (arith, less, long)) in
      (s.0, s.1, flipped (is_uses s.0.label.kind) (sym (node_is s.0.label.kind) ∙ (sym (label_at i s.0 s.1) ∙ isnt)))

  -- the statement that gives a node is that of its item's spot
  statement_is : (i : ℕ) (s : Spot) → slice_get spots i ≡ Some s → number_of (its.node_of i).origin ≡ s.statement
  statement_is i s at =
      let x = told_at w items i s at in
      ap number_of (tells.origin i x.0 x.1) ∙ sym x.2.statement

  module _ (tree : Tree) (low : AreLowest (IsUses w items refl) tree) (every : Every (λ p i. its.is_node i ≡ false → IsUses w items refl i) None tree)
      (within : (k : ℕ) (row : ItemRow) → slice_get (tree_list None 1 tree) k ≡ Some row → row.number < length items) where
    to : (f : Refusal) → TooDeep (rows_of files) spots (tree_list None 1 tree) f → RefusesDepth files (forest_shown its tree) f
    to f (k, less, row, at, (s, there, (r, found, ((deep, no_uses), is)))) =
        let node : its.is_node row.number ≡ true = label_at row.number s there ∙ (node_is s.label.kind ∙ ap not no_uses) in
        let st = rows_stand its (IsUses w items refl) tree None 1 [] low every refl k row at node in (
          s.statement,
          record {
            deep = its.node_of row.number;
            below = st.below;
            above = st.above;
            stands = st.stands;
            depth = (let a = st.depth in omega (arith, a, deep));
            gives = statement_is row.number s there;
          },
          (r, found, is),
        )

    from : (f : Refusal) → RefusesDepth files (forest_shown its tree) f → TooDeep (rows_of files) spots (tree_list None 1 tree) f
    from f (k, too_deep, (r, found, is)) =
        let h = stands_row its tree None 1 refl too_deep.stands in
        let long = laid_many w items in
        let less = within h.k h.row h.at in
        let s = there_is spots h.row.number (omega (arith, less, long)) in
        let node = sym (node_is s.0.label.kind) ∙ (sym (label_at h.row.number s.0 s.1) ∙ h.is_node) in
        let statement : k ≡ s.0.statement = sym too_deep.gives ∙ (ap (λ (g : Node). number_of g.origin) (sym h.shows) ∙ statement_is h.row.number s.0 s.1) in (
          h.k,
          slice_get_within (tree_list None 1 tree) h.k h.row h.at,
          h.row,
          h.at,
          (
            s.0,
            s.1,
            (
              r,
              ap (slice_get (rows_of files)) (sym statement) ∙ found,
              (((let a = h.deep in let b = too_deep.depth in omega (arith, a, b)), not_it (is_uses s.0.label.kind) node), is),
            ),
          ),
        )
      where
        not_it : (b : Bool) → not b ≡ true → b ≡ false
        not_it true h = absurd (false≢true h)
        not_it false h = refl

pub depths_are_one : (files : Files) → RefersToOne files → EachOnce → AllWithin → DepthsAreOne files
depths_are_one files one_meant once all_within choice f its m r sound roots final tells E =
    let marks : List Bool = marks_of choice files in
    let w : Whole = expansion_of files marks f.items in
    let grafted : AreAugmented w f.items f.state =
    subst (λ a. AreAugmented (whole (map brief_of files) (rows_of files) a (length f.items)) f.items f.state) final.augments final.grafted in
    let tree : IsTree (labels_in files marks f.items) f.state.groups f.tree =
    subst (λ a. IsTree (labels_of (layout_of (whole (map brief_of files) (rows_of files) a (length f.items)) f.items).spots) f.state.groups f.tree) final.augments final.is_tree in
    let stand = once w f.items f.state refl grafted in
    let within : (k : ℕ) (row : ItemRow) → slice_get (tree_list None 1 f.tree) k ≡ Some row → row.number < length f.items = λ k row at.
    all_within (labels_in files marks f.items) f.state.groups (length f.items) k row f.tree tree stand at in
    let low = make_lowest (labels_in files marks f.items) f.state.groups (IsUses w f.items refl) (uses_empty w f.items refl f.state grafted) tree.2 in
    let every = every_row (λ p i. its.is_node i ≡ false → IsUses w f.items refl i) None 1 f.tree (λ k row at. uses_is files marks f.items its tells row.number (within k row at)) in
    let shows : m.nodes ≡ forest_shown its f.tree = final_tree_shows files one_meant once choice f its m sound roots final tells E in
    let same : spots_of files f ≡ (layout_of w f.items).spots = ap (λ a. (layout_of (whole (map brief_of files) (rows_of files) a (length f.items)) f.items).spots) final.augments in (
      (λ deep.
          subst (λ n. RefusesDepth files n r) (sym shows)
          (to files marks f.items its tells f.tree low every within r (subst (λ z. TooDeep (rows_of files) z (final_items f) r) same deep))),
      (λ deep.
          subst (λ z. TooDeep (rows_of files) z (final_items f) r) (sym same)
          (from files marks f.items its tells f.tree low every within r (subst (λ n. RefusesDepth files n r) shows deep))),
    )
