-- An augment of a uses gives an item to a node that doesn't take it exactly where it adds, at a
-- uses in the final tree, to a node that doesn't take its block.
use Rattle.std.proofs.Common.{inl, inr, ◌≡◌, ℕ, ◌+◌, ◌<◌, Bool, true, false, if◌then◌else◌, List, drop, length, map, Option, Some, None, refl, sym, ◌∙◌, ap, subst, arith}
use Rattle.std.specs.List.{Contains, slice_get}
use Rattle.std.proofs.lemmas.Bool.{false≢true}
use Rattle.std.proofs.lemmas.Option.{same_Some, slice_get_within}
use Rattle.yv_link_scopes.specs.Files.{Files, brief_of}
use Rattle.yv_link_scopes.specs.RowList.{rows_of}
use Rattle.yv_link_scopes.specs.Rows.{Row}
use Rattle.yv_expand_statements.specs.StatementBlocks.{block_of, augments_of, is_at, is_augment, is_node_or_uses, those}
use Rattle.yv_expand_statements.specs.Origin.{number_of}
use Rattle.yv_expand.specs.Tree.{Item, all_of, join}
use Rattle.yv_expand_statements.specs.declared.origin.Origin.{Origin}
use Rattle.yv_expand_statements.specs.declared.origin.Origin.TheVariants.{Input, Output, Statement}
use Rattle.yv_expand.specs.Expansion.{IsWhole}
use Rattle.yv_expand_rounds.specs.Groups.{IsIn, group_of_augment}
use Rattle.yv_expand_rounds.specs.Placements.{StandOnce}
use Rattle.yv_expand_rounds.specs.Tree.{IsTree, Tree, group_under}
use Rattle.yv_expand_rounds.specs.Tree as by_number
use Rattle.yv_expand_rounds.specs.Turns.{State, given_group, group_of_target, target_of}
use Rattle.yv_expand_statements.specs.declared.statement_kind.StatementKind.{StatementKind}
use Rattle.yv_expand_statements.specs.declared.statement_kind.StatementKind.TheVariants as kind
use Rattle.yv_expand_rounds.specs.declared.label.Label.{Label}
use Rattle.yv_expand_rounds.specs.declared.row.ItemRow.{ItemRow}
use Rattle.yv_expand_uses.specs.Ends.{end_at}
use Rattle.yv_expand_augments.specs.Augmentation.{AreAugmented, placed_from}
use Rattle.yv_expand_uses.specs.AugmentOrder.{is_giving, place_of}
use Rattle.yv_expand_statements.specs.Kinds.{is_uses, takes}
use Rattle.yv_expand_uses.specs.Kinds.{kind_at, kind_of}
use Rattle.yv_expand_augments.specs.MissingTargets.{after_turns, next_number, node_reached}
use Rattle.yv_expand_uses.specs.AugmentOrder.{augments_in}
use Rattle.yv_expand_augments.specs.Placement.{augment_around, augment_at}
use Rattle.yv_expand_uses.specs.Spots.{Whole, copy_group, group_below, layout_of, spot_at, top_group, top_group_of}
use Rattle.yv_expand_uses.specs.declared.spot.Spot.{Spot}
use Rattle.yv_expand_augments.proofs.ModuleAugments.{once_of}
use Rattle.yv_expand_changes.specs.Refusals.{IsThere}
use Rattle.yv_expand_tree.proofs.NodePositions.{parents_first}
use Rattle.yv_expand_definition.specs.Expansion.{AllRefer}
use Rattle.yv_expand_laws.specs.CopiesGive.{CopiesGive}
use Rattle.yv_expand_laws.specs.CopyEnds.{CopiesEnd}
use Rattle.yv_expand_laws.specs.Files.{expansion_of, labels_in}
use Rattle.yv_expand_laws.specs.Misplacements.{HasMisplaced}
use Rattle.yv_expand_laws.specs.Under.{Under}
use Rattle.yv_expand_laws.specs.Under.Under.{below_item}
use Rattle.yv_expand_laws.specs.UsesBlocks.{HasUntaken}
use Rattle.yv_expand_laws.proofs.AugmentItems.{item_added}
use Rattle.yv_expand_laws.proofs.AugmentLaws.{Laws}
use Rattle.yv_expand_laws.proofs.BlockStatements.{augments_are, block_scope, filter_in, row_at}
use Rattle.yv_expand_laws.proofs.CopiesGive.{copy_fits, follows_laid}
use Rattle.yv_expand_laws.proofs.FoundItems.{not_none}
use Rattle.yv_expand_laws.proofs.FinalTreeOrigins.{tree_under, under_tree}
use Rattle.yv_expand_laws.proofs.KeywordKinds.{statement_kind, uses_no_augment}
use Rattle.yv_expand_laws.proofs.ItemPositions.{group_at}
use Rattle.yv_expand_laws.proofs.ModulesMisplaced.{GivenBelow, StandsBelow, part_taken}
use Rattle.yv_expand_laws.proofs.AugmentBlocks.{IsOf, MayBelow, items_stand}
use Rattle.yv_expand_laws.proofs.Orders.{at_there, place_none}
use Rattle.yv_expand_laws.proofs.Parents.{stays_laid}
use Rattle.yv_expand_laws.proofs.Scopes.{item_uses}
use Rattle.yv_expand_laws.proofs.TakenBlocks.{scope_of, stands_there, targets_take}
use Rattle.yv_expand_laws.proofs.Targets.{contains_at}
use Rattle.yv_expand_laws.proofs.LabelsAndPaths.{laid_many, there_is, told_at}
use Rattle.yv_expand_laws.proofs.Together.{above, there_in, with_target}
use Rattle.yv_expand_laws.proofs.UsesGroups.{copy_laid, item_gives}

-- the augment around a statement is that in whose block it stands
around_row : (rows : List Row) (r : Row) (a : ℕ) → augment_around rows (Some r) ≡ Some a → (r.scope ≡ a) × (q : Row) × (slice_get rows a ≡ Some q) × (is_augment q ≡ true)
around_row rows r a h = by (slice_get rows r.scope) refl h
  where
    chosen : (q : Row) → slice_get rows r.scope ≡ Some q → (b : Bool) → is_augment q ≡ b → (if b then Some r.scope else None) ≡ Some a
        → (r.scope ≡ a) × (q : Row) × (slice_get rows a ≡ Some q) × (is_augment q ≡ true)
    chosen q at true is e = (let same : r.scope ≡ a = same_Some r.scope a e in (same, q, ap (slice_get rows) (sym same) ∙ at, is))
    chosen q at false is e = absurd (not_none e)

    by : (o : Option Row) → slice_get rows r.scope ≡ o → augment_at r.scope o ≡ Some a → (r.scope ≡ a) × (q : Row) × (slice_get rows a ≡ Some q) × (is_augment q ≡ true)
    by None at e = absurd (not_none e)
    by (Some q) at e = chosen q at (is_augment q) refl e

module _ (files : Files) (marks : List Bool) (order : List ℕ) (own : ℕ) (items : List Item) (expanded : IsWhole files marks order own items)
    (st : State) (tree : Tree) (grafted : AreAugmented (expansion_of files marks items) items st) (is_tree : IsTree (labels_in files marks items) st.groups tree)
    (given_below : GivenBelow) (stands_below : StandsBelow) (laws : Laws) (ends_there : CopiesEnd) (gives_there : CopiesGive) where
  abbrev rows : List Row
  rows = rows_of files

  abbrev augments : List ℕ
  augments = augments_of (map brief_of files) rows marks

  abbrev w : Whole
  w = expansion_of files marks items

  abbrev spots : List Spot
  spots = (layout_of w items).spots

  abbrev labels : List Label
  labels = labels_in files marks items

  abbrev placed : List ItemRow
  placed = by_number.tree_list None 1 tree

  -- the augments of a uses by both definitions
  adding : (k : ℕ) (r : Row) → slice_get rows k ≡ Some r → is_augment r ≡ false → augments_in rows k ≡ those is_augment rows (block_of rows k)
  adding k r at isnt = augments_are rows k (λ z z_at. ap is_augment (same_Some z r (sym z_at ∙ at)) ∙ isnt)

  module _ (a : ℕ) (never : Contains augments a → ⊥) (h : HasMisplaced rows spots placed a) where
    around_is : (x : Item) → h.spot.statement ≡ number_of x.origin → (j : ℕ) (r : Row) → x.origin ≡ Statement j → slice_get rows j ≡ Some r → augment_around rows (Some r) ≡ Some a
    around_is x statement j r origin at_j = sym (ap (augment_around rows) (ap (slice_get rows) (statement ∙ ap number_of origin) ∙ at_j)) ∙ h.around

    no_node : (parent : Option ℕ) → group_under parent ≡ 0 → spot_at spots parent ≡ Some h.node → ⊥
    no_node None e at = not_none at
    no_node (Some q) e at = omega (arith, e)

    -- what an augment of a uses gives is not at the top
    top_case : (x : Item) → slice_get items h.row.number ≡ Some x → h.spot.statement ≡ number_of x.origin → (j : ℕ) (r : Row) → x.parent ≡ None → x.origin ≡ Statement j
        → slice_get rows j ≡ Some r → ⊥
    top_case x x_at statement j r top origin at_j =
        let around = around_row rows r a (around_is x statement j r origin at_j) in
        let (before, more, are, long, group) = group_at w items h.row.number h.spot x h.spot_is x_at in
        let in_top : h.spot.group ≡ 0 =
        group ∙ (ap (λ (o : Origin). group_below w (slice_get rows (number_of o)) x.parent (spot_at before x.parent)) origin
        ∙ (ap (λ (p : Option ℕ). group_below w (slice_get rows j) p (spot_at before p)) top
        ∙ (ap (top_group w) at_j ∙ (ap (λ (n : ℕ). top_group_of w (place_of augments n)) around.0 ∙ ap (top_group_of w) (place_none augments a never))))) in
        let last : IsIn h.row.number 0 st.groups =
        stays_laid laws.room laws.many laws.enters laws.stays laws.turned laws.applied w items st h.row.number 0 h.spot refl grafted h.spot_is (omega arith) in_top in
        let once : StandOnce (length items) st.groups = once_of laws.stand w items st refl grafted in
        no_node h.row.parent
        (laws.one st.groups (length items) h.row.number (group_under h.row.parent) 0 once (laws.below labels st.groups h.place h.row tree is_tree h.at) last) h.node_is

    uses_case : (p : ℕ) (y x : Item) → slice_get items h.row.number ≡ Some x → h.spot.statement ≡ number_of x.origin → h.spot.label.kind ≡ kind_of rows x.origin → x.parent ≡ Some p
        → slice_get items p ≡ Some y → (j : ℕ) (r : Row) → x.origin ≡ Statement j → slice_get rows j ≡ Some r → is_node_or_uses r ≡ true → IsOf files marks y.origin r.scope
        → (i : ℕ) × IsThere placed i × HasUntaken w items i a
    uses_case p y x x_at statement kind_is up at_y j r origin at_j is_one of =
        let around : augment_around rows (Some r) ≡ Some a = around_is x statement j r origin at_j in
        let (scope, q, at_a, is_aug) = around_row rows r a around in
        let first : p < h.row.number = parents_first (join (all_of expanded.trees) (all_of expanded.added)) items expanded.listed h.row.number p x x_at up in
        let few = slice_get_within items h.row.number x x_at in
        let many = laid_many w items in
        let (s, at_s) = there_is spots p (omega (arith, few, many, first)) in
        let t = told_at w items p s at_s in
        let same : t.0 ≡ y = same_Some t.0 y (sym t.1 ∙ at_y) in
        let of_k : s.statement ≡ of.statement = t.2.statement ∙ (ap (λ (u : Item). number_of u.origin) same ∙ ap number_of of.is) in
        let uses_is : is_uses s.label.kind ≡ true =
        ap (λ (l : Label). is_uses l.kind) t.2.label ∙ (ap (λ (u : Item). is_uses (kind_of rows u.origin)) same
        ∙ (ap (λ (o : Origin). is_uses (kind_of rows o)) of.is ∙ (statement_kind rows of.statement of.row of.at of.item ∙ of.of_uses))) in
        let among : Contains (those is_augment rows (block_of rows of.statement)) a =
        subst (λ (n : ℕ). Contains (those is_augment rows (block_of rows of.statement)) n) scope of.among in
        let in_uses : Contains (augments_in rows s.statement) a =
        subst (λ (n : ℕ). Contains (augments_in rows n) a) (sym of_k)
        (subst (λ (ks : List ℕ). Contains ks a) (sym (adding of.statement of.row of.at (uses_no_augment of.row of.of_uses))) among) in
        let (place, at_place) = contains_at (augments_in rows s.statement) a in_uses in
        let b = block_scope rows of.statement a (filter_in (is_at is_augment rows) (block_of rows of.statement) a among).0 in
        let scope_a : q.scope ≡ s.statement = ap (λ (z : Row). z.scope) (same_Some q b.0 (sym at_a ∙ b.1)) ∙ (b.2 ∙ sym of_k) in
        let gives = item_gives rows s.statement a j q r at_a is_aug scope_a at_j scope is_one in
        let group = copy_laid w items p place a h.row.number s h.spot x r at_s uses_is h.spot_is x_at up first (ap (λ (o : Origin). slice_get rows (number_of o)) origin ∙ at_j) scope
        at_place gives in
        let (target, parent, reaches) = gives_there w items st tree h.place p place a h.row s h.spot refl grafted is_tree h.at h.spot_is at_s first uses_is at_place gives group in
        let here : IsIn h.row.number (target + 1) st.groups =
        subst (λ (o : Option ℕ). IsIn h.row.number (group_under o) st.groups) parent (laws.below labels st.groups h.place h.row tree is_tree h.at) in
        let in_end : Under st.groups 0 h.row.number =
        tree_under labels st.groups tree is_tree h.row.number (record { place = h.place; row = h.row; at = h.at; is = refl }) in
        let target_there : Under st.groups 0 target = above laws w items st refl grafted p place s at_s uses_is target h.row.number here in_end in
        let uses_there : Under st.groups 0 p = (with_target laws w items st refl grafted p place s at_s uses_is a target reaches).1 target_there in
        let same_kind : kind_at (Some r) ≡ h.spot.label.kind = sym (kind_is ∙ (ap (kind_of rows) origin ∙ ap kind_at at_j)) in (
          p,
          under_tree labels st.groups tree is_tree p uses_there,
          record {
            spot = s;
            at = at_s;
            of_uses = uses_is;
            place = place;
            there = at_place;
            target = target;
            reaches = reaches;
            node = h.node;
            target_at = ap (spot_at spots) (sym parent) ∙ h.node_is;
            untaken = (targets_take rows a q h.node.label.kind at_a is_aug).1 (record {
              statement = j;
              row = r;
              at = at_j;
              item = is_one;
              around = around;
              taken = ap (takes h.node.label.kind) same_kind ∙ h.untaken;
            });
          },
        )

    -- where an item of its block isn't taken, the block isn't
    pub uses_untaken : (i : ℕ) × IsThere placed i × HasUntaken w items i a
    uses_untaken =
        let t = told_at w items h.row.number h.spot h.spot_is in
        let kind_is : h.spot.label.kind ≡ kind_of rows t.0.origin = ap (λ (l : Label). l.kind) t.2.label in
        elim (items_stand files marks order own items expanded h.row.number t.0 t.1) [
          | inl (top, (j, r, origin, at_j, is_one)) ↦ absurd (top_case t.0 t.1 t.2.statement j r top origin at_j)
          | inr (p, y, up, at_y, may) ↦ by p y t.0 t.1 t.2.statement kind_is up at_y t.0.origin refl may
        ]
      where
        by : (p : ℕ) (y x : Item) → slice_get items h.row.number ≡ Some x → h.spot.statement ≡ number_of x.origin → h.spot.label.kind ≡ kind_of rows x.origin → x.parent ≡ Some p
            → slice_get items p ≡ Some y → (o : Origin) → x.origin ≡ o → MayBelow files marks y.origin o → (i : ℕ) × IsThere placed i × HasUntaken w items i a
        by p y x x_at statement kind_is up at_y (Statement j) origin (r, at_j, not_module, inl alone) =
            absurd (not_none (sym alone ∙ around_is x statement j r origin at_j))
        by p y x x_at statement kind_is up at_y (Statement j) origin (r, at_j, not_module, inr (of, is_one)) =
            uses_case p y x x_at statement kind_is up at_y j r origin at_j is_one of
        by p y x x_at statement kind_is up at_y (Input j) origin taken =
            let t = part_taken files marks order own items expanded st tree grafted is_tree given_below stands_below h.row.number h.spot x h.spot_is x_at statement kind_is h.place p y h.row
            h.node kind.Input h.at refl h.node_is up at_y taken in
            absurd (false≢true (sym h.untaken ∙ (ap (takes h.node.label.kind) (kind_is ∙ ap (kind_of rows) origin) ∙ t)))
        by p y x x_at statement kind_is up at_y (Output j) origin taken =
            let t = part_taken files marks order own items expanded st tree grafted is_tree given_below stands_below h.row.number h.spot x h.spot_is x_at statement kind_is h.place p y h.row
            h.node kind.Output h.at refl h.node_is up at_y taken in
            absurd (false≢true (sym h.untaken ∙ (ap (takes h.node.label.kind) (kind_is ∙ ap (kind_of rows) origin) ∙ t)))

  -- an augment of a uses leads there in its turn
  abbrev Reaches : (i place a : ℕ) → Spot → ℕ → Type 0
  Reaches i place a s target =
      node_reached w labels s (end_at items i) (next_number rows s place) a
      (after_turns w labels s place (placed_from w labels (layout_of w items).copies (i + 1) (drop (i + 1) spots))) ≡ Some target

  -- its copy gives an item
  record GivesItem (i place a : ℕ) (s : Spot) (z : ℕ) (g : Spot) : Type 0 where
    at : slice_get spots i ≡ Some s
    of_uses : is_uses s.label.kind ≡ true
    there : slice_get (augments_in rows s.statement) place ≡ Some a
    gives : is_giving rows s.statement a ≡ true
    first : i < z
    at_item : slice_get spots z ≡ Some g
    group : g.group ≡ copy_group w (next_number rows s place)

  -- this is in the group of the target
  in_target : (i place a z target : ℕ) (s g : Spot) → GivesItem i place a s z g → Reaches i place a s target → IsIn z (target + 1) st.groups
  in_target i place a z target s g x reaches =
      let c : ℕ = next_number rows s place in
      let first = x.first in
      let (fits, later) = copy_fits w items i place a s refl x.at x.of_uses x.there x.gives in
      let last : IsIn z (given_group labels st.ends c) st.groups =
      follows_laid laws.room laws.many laws.enters laws.stays laws.given_turned laws.given_applied w items st z c g refl grafted x.at_item fits
      (λ j v le at_j. later j v (omega (arith, first, le)) at_j) x.group in
      let refine_targets : target_of labels st.ends c ≡ Some target = ends_there w items st i place a s refl grafted x.at x.of_uses x.there x.gives ∙ reaches in
      subst (λ (m : ℕ). IsIn z m st.groups) (ap (group_of_target (group_of_augment labels c)) refine_targets) last

  -- so it is in the tree with the uses
  item_there : (i place a z target : ℕ) (s g : Spot) → GivesItem i place a s z g → Reaches i place a s target → IsThere placed i → IsThere placed z
  item_there i place a z target s g x reaches there =
      let target_there : Under st.groups 0 target =
      (with_target laws w items st refl grafted i place s x.at x.of_uses a target reaches).0 (tree_under labels st.groups tree is_tree i there) in
      under_tree labels st.groups tree is_tree z (below_item target_there (there_in z (target + 1) st (in_target i place a z target s g x reaches)))

  item_below : (i place a z target : ℕ) (s g : Spot) → GivesItem i place a s z g → Reaches i place a s target → (t : IsThere placed z) → t.row.parent ≡ Some target
  item_below i place a z target s g x reaches t =
      let r = gives_there w items st tree t.place i place a t.row s g refl grafted is_tree t.at (ap (slice_get spots) t.is ∙ x.at_item) x.at
      (subst (λ (m : ℕ). i < m) (sym t.is) x.first) x.of_uses x.there x.gives x.group in
      r.1 ∙ (sym r.2 ∙ reaches)

  -- a statement that gives an item in the block of an augment of a uses has one there
  abbrev HasItem : (i place a : ℕ) → Spot → (j : ℕ) → Type 0
  HasItem i place a s j =
      (z : ℕ) × (g : Spot) × GivesItem i place a s z g × (g.statement ≡ j) × (g.label.kind ≡ kind_at (slice_get rows j))

  laid_item : (i place a j z : ℕ) (s : Spot) (q r : Row) → slice_get spots i ≡ Some s → is_uses s.label.kind ≡ true → slice_get (augments_in rows s.statement) place ≡ Some a
      → slice_get rows a ≡ Some q → is_augment q ≡ true → q.scope ≡ s.statement → slice_get rows j ≡ Some r → r.scope ≡ a → is_node_or_uses r ≡ true
      → slice_get items z ≡ Some (record { origin = Statement j; parent = Some i }) → HasItem i place a s j
  laid_item i place a j z s q r at of_uses at_place at_a is_aug scope_a at_j scope is_one x_at =
      let x : Item = record { origin = Statement j; parent = Some i } in
      let few = slice_get_within items z x x_at in
      let many = laid_many w items in
      let (g, at_g) = there_is spots z (omega (arith, few, many)) in
      let u = told_at w items z g at_g in
      let same : u.0 ≡ x = same_Some u.0 x (sym u.1 ∙ x_at) in
      let first : i < z = parents_first (join (all_of expanded.trees) (all_of expanded.added)) items expanded.listed z i x x_at refl in
      let gives = item_gives rows s.statement a j q r at_a is_aug scope_a at_j scope is_one in (
        z,
        g,
        record {
          at = at;
          of_uses = of_uses;
          there = at_place;
          gives = gives;
          first = first;
          at_item = at_g;
          group = copy_laid w items i place a z s g x r at of_uses at_g x_at refl first at_j scope at_place gives;
        },
        u.2.statement ∙ ap (λ (y : Item). number_of y.origin) same,
        ap (λ (l : Label). l.kind) u.2.label ∙ ap (λ (y : Item). kind_of rows y.origin) same,
      )

  -- an augment of a uses is one, in its block
  record IsAmong (i a : ℕ) (s : Spot) : Type 0 where
    item : Item
    item_at : slice_get items i ≡ Some item
    statement : ℕ
    origin : item.origin ≡ Statement statement
    of_uses : is_uses (kind_of rows item.origin) ≡ true
    among : Contains (those is_augment rows (block_of rows statement)) a
    row : Row
    at : slice_get rows a ≡ Some row
    is : is_augment row ≡ true
    scope : row.scope ≡ s.statement

  augment_among : (i a : ℕ) (h : HasUntaken w items i a) → IsAmong i a h.spot
  augment_among i a h =
      let t = told_at w items i h.spot h.at in
      let of_uses : is_uses (kind_of rows t.0.origin) ≡ true = ap (λ (l : Label). is_uses l.kind) (sym t.2.label) ∙ h.of_uses in
      let (k, r, origin, at_k, word) = item_uses files marks order own items expanded i t.0 t.1 of_uses in
      let of_k : h.spot.statement ≡ k = t.2.statement ∙ ap number_of origin in
      let among : Contains (those is_augment rows (block_of rows k)) a =
      subst (λ (ks : List ℕ). Contains ks a) (adding k r at_k (uses_no_augment r word))
      (subst (λ (n : ℕ). Contains (augments_in rows n) a) of_k (at_there (augments_in rows h.spot.statement) h.place a h.there)) in
      let f = filter_in (is_at is_augment rows) (block_of rows k) a among in
      let (q, at_a, is_aug) = row_at is_augment rows a f.1 in
      let b = block_scope rows k a f.0 in
      record {
        item = t.0;
        item_at = t.1;
        statement = k;
        origin = origin;
        of_uses = of_uses;
        among = among;
        row = q;
        at = at_a;
        is = is_aug;
        scope = ap (λ (z : Row). z.scope) (same_Some q b.0 (sym at_a ∙ b.1)) ∙ (b.2 ∙ sym of_k);
      }

  untaken_item : AllRefer (map brief_of files) rows → (i a j : ℕ) (r : Row) (h : HasUntaken w items i a) → IsAmong i a h.spot → slice_get rows j ≡ Some r → is_node_or_uses r ≡ true
      → augment_around rows (Some r) ≡ Some a → HasItem i h.place a h.spot j
  untaken_item refer i a j r h m at_j is_one around =
      let node : StatementKind = h.node.label.kind in
      let scope : r.scope ≡ a = scope_of rows a m.row node m.at m.is r around in
      let in_block : Contains (block_of rows a) j = stands_there rows a m.row node m.at m.is j r at_j is_one around in
      let (z, x_at) = item_added files marks order own items refer expanded i m.statement j m.item m.item_at m.origin m.of_uses
      (record { augment = a; row = r; among = m.among; there = in_block; at = at_j; item = is_one }) in
      laid_item i h.place a j z h.spot m.row r h.at h.of_uses h.there m.at m.is m.scope at_j scope is_one x_at

  -- where the block isn't taken an item of it isn't
  pub uses_misplaced : AllRefer (map brief_of files) rows → (i a : ℕ) → IsThere placed i → HasUntaken w items i a → HasMisplaced rows spots placed a
  uses_misplaced refer i a there h =
      let m = augment_among i a h in
      let n = (targets_take rows a m.row h.node.label.kind m.at m.is).0 h.untaken in
      let (z, g, x, statement, kind_is) = untaken_item refer i a n.statement n.row h m n.at n.item n.around in
      let t : IsThere placed z = item_there i h.place a z h.target h.spot g x h.reaches there in
      let parent : t.row.parent ≡ Some h.target = item_below i h.place a z h.target h.spot g x h.reaches t in
      record {
        place = t.place;
        row = t.row;
        at = t.at;
        spot = g;
        spot_is = ap (slice_get spots) t.is ∙ x.at_item;
        node = h.node;
        node_is = ap (spot_at spots) parent ∙ h.target_at;
        around = ap (augment_around rows) (ap (slice_get rows) statement ∙ n.at) ∙ n.around;
        untaken = ap (takes h.node.label.kind) (kind_is ∙ ap kind_at n.at) ∙ n.taken;
      }
