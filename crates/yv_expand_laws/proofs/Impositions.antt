-- The final tree by number refuses the same augments for mandatory nodes as the tree that it shows.
use Rattle.std.proofs.Common.{inl, inr, ◌⊎◌, ◌≡◌, ◌≢◌, ℕ, zero, suc, ◌+◌, ◌<◌, ◌&&◌, ◌||◌, not, Bool, true, false, if◌then◌else◌, List, [], ◌∷◌, ◌++◌, length, map, Option, Some, None, refl, sym, ap, ◌∙◌, subst, arith}
use Rattle.std.specs.Prelude.{slice_index_or}
use Rattle.std.specs.List.{list_any, slice_get}
use Rattle.std.specs.Option.{is_some, option_map, unwrap_or}
use Rattle.std.proofs.lemmas.Bool.{false≢true}
use Rattle.std.proofs.lemmas.Option.{same_Some, slice_get-map}
use Rattle.yv_text_statement.specs.Order.{refusal_at}
use Rattle.yv_text_statement.specs.declared.refusal.Code.TheVariants as code
use Rattle.yv_text_statement.specs.declared.refusal.Refusal.{Refusal}
use Rattle.yv_link_scopes.specs.Files.{Files, brief_of}
use Rattle.yv_link_scopes.specs.RowList.{rows_of}
use Rattle.yv_link_scopes.specs.Rows.{Row}
use Rattle.yv_expand.specs.Tree.{Item}
use Rattle.yv_expand_statements.specs.declared.origin.Origin.{Origin}
use Rattle.yv_expand.specs.Expansion.{IsWhole}
use Rattle.yv_expand_statements.specs.declared.statement_kind.StatementKind.{StatementKind}
use Rattle.yv_expand_rounds.specs.declared.label.Label.{Label}
use Rattle.yv_expand_rounds.specs.declared.row.ItemRow.{ItemRow}
use Rattle.yv_expand_statements.specs.Kinds as kinds_are
use Rattle.yv_expand_rounds.specs.Tree.{IsTree, Tree, item, tree_list}
use Rattle.yv_expand_rounds.specs.Tree as by_number
use Rattle.yv_expand_uses.specs.Ends.{end_at}
use Rattle.yv_expand_augments.specs.Augmentation.{AreAugmented}
use Rattle.yv_expand_augments.specs.MandatoryNodes.{Around, ImposesMandatory, MarksView, source_of, inside, is_container_without, is_given, is_some_operation, nothing_around}
use Rattle.yv_expand_statements.specs.Kinds.{is_container, is_operation_or_notification, is_uses}
use Rattle.yv_expand_augments.specs.MandatoryNodes as by_item
use Rattle.yv_expand_uses.specs.Kinds.{kind_of}
use Rattle.yv_expand_augments.specs.RefineMeanings.{refined_all}
use Rattle.yv_expand_uses.specs.Spots.{Whole, source_in, labels_of, layout_of, spot_at, whole}
use Rattle.yv_expand_uses.specs.declared.spot.Spot.{Spot}
use Rattle.yv_expand_changes.specs.Changes.{all_changes, changes, changes_from}
use Rattle.yv_expand_refines.specs.Targets.{RefineMeaning}
use Rattle.yv_node_properties.specs.Marks.{is_mandatory, stated_of}
use Rattle.yv_node_properties.specs.Properties.{last_said, statements_of_origin}
use Rattle.yv_node_properties.specs.declared.properties.StatedProperties.{StatedProperties}
use Rattle.yv_expand_changes.specs.Properties.{said_of_all, told_of}
use Rattle.yv_expand_changes.specs.Properties as marked
use Rattle.yv_expand_statements.specs.FileOrder.{marks_of, order_of}
use Rattle.yv_expand_tree.proofs.NodePositions.{Every, every_row}
use Rattle.yv_expand_definition.specs.Nodes.{Forest, Node, node}
use Rattle.yv_expand_definition.specs.Nodes as nodes
use Rattle.yv_expand_definition.specs.Refusals.{Imposes, Stands, has_mandatory, here, is_config, is_configuration, is_needed, later, under}
use Rattle.yv_expand_definition.specs.Refusals as by_node
use Rattle.yv_expand_definition.proofs.GivenNodeUniqueness.{RefersToOne}
use Rattle.yv_expand_laws.specs.Files.{ShowFiles, expansion_of, giver_by, labels_in}
use Rattle.yv_expand_laws.specs.Impositions.{ImpositionsAreOne, UsesAreOptional}
use Rattle.yv_expand_laws.specs.Shows.{Items}
use Rattle.yv_expand_laws.specs.ItemProperties.{is_some_node}
use Rattle.yv_expand_laws.specs.Trees.{forest_shown}
use Rattle.yv_expand_laws.proofs.Below.{AreLowest, IsUses, make_lowest, uses_empty}
use Rattle.yv_expand_laws.proofs.BlockStatements.{left_is, right_is}
use Rattle.yv_expand_laws.proofs.Depths.{AllWithin, uses_is}
use Rattle.yv_expand_laws.proofs.FinalTree.{EachOnce, final_tree_shows}
use Rattle.yv_expand_laws.proofs.FoundItems.{not_none}
use Rattle.yv_expand_laws.proofs.KeywordKinds.{node_is, uses_only}
use Rattle.yv_expand_laws.proofs.RefineTargets.{no_changes}
use Rattle.yv_expand_laws.proofs.Scopes.{item_uses}
use Rattle.yv_expand_laws.proofs.StatementMarks.{both_true}
use Rattle.yv_expand_laws.proofs.LabelsAndPaths.{laid_many, there_is, told_at}

read_at : {A B : Type 0} (f : A → B) (d : B) (xs : List A) (i : ℕ) (x : A) → slice_get xs i ≡ Some x → slice_index_or (map f xs) i d ≡ f x
read_at f d [] i x at = absurd (not_none at)
read_at f d (y ∷ xs) zero x at = ap f (same_Some y x at)
read_at f d (y ∷ xs) (suc i) x at = read_at f d xs i x at

and_false : (b : Bool) → (b && false) ≡ false
and_false true = refl
and_false false = refl

or_false : (b : Bool) → (b || false) ≡ b
or_false true = refl
or_false false = refl

and_twice : (a b c : Bool) → ((a && b) && c) ≡ (a && (b && c))
and_twice true b c = refl
and_twice false b c = refl

module _ (files : Files) (marks : List Bool) (order : List ℕ) (own : ℕ) (items : List Item) (its : Items) (expanded : IsWhole files marks order own items)
    (tells : ShowFiles files marks items its) (optional : UsesAreOptional files) where
  abbrev w : Whole
  w = expansion_of files marks items

  abbrev spots : List Spot
  spots = (layout_of w items).spots

  abbrev refined : List RefineMeaning
  refined = refined_all w items

  abbrev said : List StatedProperties
  said = said_of_all files items (all_changes files spots refined)

  abbrev told : MarksView
  told = told_of said

  said_at : (n : ℕ) (xs : List Item) (ss : List Spot) → length ss ≡ length xs → (i : ℕ) (x : Item) → slice_get xs i ≡ Some x
      → slice_get (said_of_all files xs (changes_from files spots refined n ss)) i ≡ Some (marked.said_of files x (changes files spots refined (n + i)))
  said_at n [] ss many i x at = absurd (not_none at)
  said_at n (y ∷ xs) [] many i x at = absurd (omega (arith, many))
  said_at n (y ∷ xs) (s ∷ ss) many zero x at =
      ap (λ (z : Item). Some (marked.said_of files z (changes files spots refined n))) (same_Some y x at)
      ∙ ap (λ (m : ℕ). Some (marked.said_of files x (changes files spots refined m))) (let e : n ≡ n + 0 = omega arith in e)
  said_at n (y ∷ xs) (s ∷ ss) many (suc i) x at =
      said_at (n + 1) xs ss (omega (arith, many)) i x at
      ∙ ap (λ (m : ℕ). Some (marked.said_of files x (changes files spots refined m))) (let e : n + 1 + i ≡ n + suc i = omega arith in e)

  -- what is said of an item is said of the node that it shows
  said_here : (i : ℕ) (x : Item) → slice_get items i ≡ Some x → slice_get said i ≡ Some (by_node.said_of files (its.node_of i))
  said_here i x at =
      said_at 0 items spots (laid_many w items) i x at
      ∙ (ap (λ (m : ℕ). Some (marked.said_of files x (changes files spots refined m))) (let e : 0 + i ≡ i = omega arith in e)
      ∙ (ap (λ (o : Origin). Some (stated_of (last_said files (statements_of_origin o ++ changes files spots refined i)))) (sym (tells.origin i x at))
      ∙ ap (λ (ks : List ℕ). Some (stated_of (last_said files (statements_of_origin (its.node_of i).origin ++ ks)))) (sym (tells.refines i))))

  -- an item of the tree with its spot
  pub record IsThere (i : ℕ) : Type 0 where
    pub x : Item
    pub s : Spot
    pub found : slice_get items i ≡ Some x
    pub spot : slice_get spots i ≡ Some s
    pub kind_is : s.label.kind ≡ kind_of (rows_of files) x.origin

  there : (i : ℕ) → i < length items → IsThere i
  there i less =
      let long = laid_many w items in
      let s = there_is spots i (omega (arith, less, long)) in
      let t = told_at w items i s.0 s.1 in
      record { x = t.0; s = s.0; found = t.1; spot = s.1; kind_is = ap (λ (l : Label). l.kind) t.2.label }

  module _ (i : ℕ) (t : IsThere i) where
    abbrev g : Node
    g = its.node_of i

    mandatory_is : told.mandatory i ≡ is_mandatory (by_node.said_of files g)
    mandatory_is = read_at is_mandatory false said i (by_node.said_of files g) (said_here i t.x t.found)

    presence_is : told.presence i ≡ (by_node.said_of files g).presence
    presence_is = read_at (λ (s : StatedProperties). s.presence) false said i (by_node.said_of files g) (said_here i t.x t.found)

    config_is : told.config i ≡ (by_node.said_of files g).config
    config_is = read_at (λ (s : StatedProperties). s.config) None said i (by_node.said_of files g) (said_here i t.x t.found)

    kind_here : g.kind ≡ t.s.label.kind
    kind_here = tells.told.kind i t.s t.spot

    needed_is : (has : Bool) → by_item.is_mandatory spots told i has ≡ is_needed files g has
    needed_is has =
        ap (λ (b : Bool). b || (is_container_without (told.presence i) (slice_get spots i) && has)) mandatory_is
        ∙ (ap (λ o. is_mandatory (by_node.said_of files g) || (is_container_without (told.presence i) o && has)) t.spot
        ∙ (ap (λ (b : Bool). is_mandatory (by_node.said_of files g) || ((is_container t.s.label.kind && not b) && has)) presence_is
        ∙ (ap (λ (k : StatementKind). is_mandatory (by_node.said_of files g) || ((is_container k && not (by_node.said_of files g).presence) && has)) (sym kind_here)
        ∙ ap (λ (b : Bool). is_mandatory (by_node.said_of files g) || b) (shape (is_container g.kind) (not (by_node.said_of files g).presence) has))))
      where
        shape : (a b c : Bool) → ((a && b) && c) ≡ (a && b && c)
        shape true true c = refl
        shape true false c = refl
        shape false b c = refl

    giver_is : source_of (length spots) w.augments (slice_get spots i) ≡ g.giver
    giver_is =
        ap (source_of (length spots) w.augments) t.spot
        ∙ (ap (λ (n : ℕ). source_in n w.augments t.s.group) (laid_many w items) ∙ (ap (giver_by w) (sym t.spot) ∙ sym (tells.giver i)))

    -- a uses is not mandatory
    uses_needs : is_uses t.s.label.kind ≡ true → (has : Bool) → by_item.is_mandatory spots told i has ≡ false
    uses_needs of_uses has =
        ap (λ (b : Bool). b || (is_container_without (told.presence i) (slice_get spots i) && has)) (mandatory_is ∙ silent)
        ∙ (ap (λ o. is_container_without (told.presence i) o && has) t.spot ∙ no_container t.s.label.kind of_uses (told.presence i))
      where
        no_container : (k : StatementKind) → is_uses k ≡ true → (p : Bool) → ((is_container k && not p) && has) ≡ false
        no_container k is p = ap (λ (z : StatementKind). (is_container z && not p) && has) (uses_only k is)

        unchanged : g.refines ≡ []
        unchanged =
            tells.refines i ∙ no_changes (labels_of spots) w files spots (layout_of w items).copies (end_at items) spots i
            (ap is_some_node (slice_get-map (λ (z : Spot). z.label) spots i ∙ ap (option_map (λ (z : Spot). z.label)) t.spot)
            ∙ (node_is t.s.label.kind ∙ ap not of_uses))

        silent : is_mandatory (by_node.said_of files g) ≡ false
        silent =
            let u = item_uses files marks order own items expanded i t.x t.found (ap is_uses (sym t.kind_is) ∙ of_uses) in
            ap (λ (o : Origin). is_mandatory (stated_of (last_said files (statements_of_origin o ++ g.refines)))) (tells.origin i t.x t.found ∙ u.2)
            ∙ (ap (λ (ks : List ℕ). is_mandatory (stated_of (last_said files (u.0 ∷ [] ++ ks)))) unchanged
            ∙ optional u.0 u.1 u.3 u.4)

  -- the items of the tree are those of the expansion, and nothing stands below a uses
  pub record IsSound (parent : Option ℕ) (t : Tree) : Type 0 where
    pub low : AreLowest (IsUses w items refl) t
    pub within : Every (λ p i. i < length items) parent t

  below_of : {parent : Option ℕ} {i : ℕ} {below behind : Tree} → IsSound parent (item i below behind) → IsSound (Some i) below
  below_of s = record { low = s.low.1.0; within = s.within.1.0 }

  behind_of : {parent : Option ℕ} {i : ℕ} {below behind : Tree} → IsSound parent (item i below behind) → IsSound parent behind
  behind_of s = record { low = s.low.1.1; within = s.within.1.1 }

  flipped : (b : Bool) → not b ≡ false → b ≡ true
  flipped true h = refl
  flipped false h = absurd (false≢true (sym h))

  label_at : (i : ℕ) (t : IsThere i) → its.is_node i ≡ kinds_are.is_node t.s.label.kind
  label_at i t =
      tells.told.node i ∙ ap is_some_node (slice_get-map (λ (z : Spot). z.label) spots i ∙ ap (option_map (λ (z : Spot). z.label)) t.spot)

  no_node_uses : (i : ℕ) (t : IsThere i) → its.is_node i ≡ false → is_uses t.s.label.kind ≡ true
  no_node_uses i t isnt = flipped (is_uses t.s.label.kind) (sym (node_is t.s.label.kind) ∙ (sym (label_at i t) ∙ isnt))

  abbrev mandatory_among : Tree → Bool
  mandatory_among t = by_item.has_mandatory spots w.augments told t

  pub mandatory_same : {parent : Option ℕ} (t : Tree) → IsSound parent t → mandatory_among t ≡ has_mandatory files (forest_shown its t)
  mandatory_same by_number.none s = refl
  mandatory_same (item i below behind) s = by (its.is_node i) refl (mandatory_same below (below_of s)) (mandatory_same behind (behind_of s))
    where
      t : IsThere i
      t = there i s.within.0

      by : (b : Bool) → its.is_node i ≡ b → mandatory_among below ≡ has_mandatory files (forest_shown its below)
          → mandatory_among behind ≡ has_mandatory files (forest_shown its behind)
          → ((not (is_given spots w.augments i) && by_item.is_mandatory spots told i (mandatory_among below)) || mandatory_among behind)
          ≡ has_mandatory files (if b then node (its.node_of i) (forest_shown its below) (forest_shown its behind) else forest_shown its behind)
      by false isnt inner outer =
          ap (λ (b : Bool). (not (is_given spots w.augments i) && b) || mandatory_among behind) (uses_needs i t (no_node_uses i t isnt) (mandatory_among below))
          ∙ (ap (λ (b : Bool). b || mandatory_among behind) (and_false (not (is_given spots w.augments i))) ∙ outer)
      by true is inner outer =
          ap (λ (b : Bool). (not (is_given spots w.augments i) && b) || mandatory_among behind)
          (needed_is i t (mandatory_among below) ∙ ap (is_needed files (its.node_of i)) inner)
          ∙ (ap (λ o. (not (is_some o) && is_needed files (its.node_of i) (has_mandatory files (forest_shown its below))) || mandatory_among behind) (giver_is i t)
          ∙ ap (λ (b : Bool). (not (is_some (its.node_of i).giver) && is_needed files (its.node_of i) (has_mandatory files (forest_shown its below))) || b) outer)

  -- what is around items, and the nodes above them
  pub record IsAround (parent : Option ℕ) (outer : List Node) (a : Around) : Type 0 where
    pub config : a.is_config ≡ is_config files outer
    pub operation : a.in_operation ≡ list_any (λ (x : Node). is_operation_or_notification x.kind) outer
    pub above : ((parent ≡ None) × (outer ≡ [])) ⊎ ((p : ℕ) × (rest : List Node) × IsThere p × (parent ≡ Some p) × (outer ≡ its.node_of p ∷ rest))

  inside_is : {parent : Option ℕ} {outer : List Node} {a : Around} (i : ℕ) → IsThere i → IsAround parent outer a
      → IsAround (Some i) (its.node_of i ∷ outer) (inside spots told i a)
  inside_is {outer = outer} {a = a} i t r = record {
    config =
        ap (λ o. unwrap_or o a.is_config) (config_is i t) ∙ ap (unwrap_or (by_node.said_of files (its.node_of i)).config) r.config;
    operation =
        ap (λ o. is_some_operation o || a.in_operation) t.spot
        ∙ (ap (λ (k : StatementKind). is_operation_or_notification k || a.in_operation) (sym (kind_here i t)) ∙ ap (λ (b : Bool). is_operation_or_notification (its.node_of i).kind || b) r.operation);
    above = inr (i, outer, t, refl, refl);
  }

  pub configured_is : {parent : Option ℕ} {outer : List Node} {a : Around} (i : ℕ) → IsThere i → IsAround parent outer a
      → by_item.is_configuration (inside spots told i a) ≡ is_configuration files (its.node_of i) outer
  configured_is {outer = outer} {a = a} i t r =
      let s = inside_is i t r in
      ap (λ (b : Bool). b && not (inside spots told i a).in_operation) s.config ∙ ap (λ (b : Bool). is_config files (its.node_of i ∷ outer) && not b) s.operation

  -- an augment adds such a node, among these or below them
  record ImposesAmong (forest : Forest) (outer : List Node) (augment : ℕ) : Type 0 where
    given : Node
    below : Forest
    target : Node
    above : List Node
    stands : Stands forest outer given below (target ∷ above)
    giver : given.giver ≡ Some augment
    foreign : given.module_file ≢ target.module_file
    needed : is_needed files given (has_mandatory files below) ≡ true
    config : is_configuration files given (target ∷ above) ≡ true

  abbrev chosen : Bool → ℕ → Tree → Tree → Forest
  chosen b i below behind = if b then node (its.node_of i) (forest_shown its below) (forest_shown its behind) else forest_shown its behind

  deeper : (i : ℕ) (below behind : Tree) {outer : List Node} {augment : ℕ} → its.is_node i ≡ true
      → ImposesAmong (forest_shown its below) (its.node_of i ∷ outer) augment
      → ImposesAmong (forest_shown its (item i below behind)) outer augment
  deeper i below behind {outer = outer} is m = record {
    given = m.given;
    below = m.below;
    target = m.target;
    above = m.above;
    stands = subst (λ (b : Bool). Stands (chosen b i below behind) outer m.given m.below (m.target ∷ m.above)) (sym is) (under m.stands);
    giver = m.giver;
    foreign = m.foreign;
    needed = m.needed;
    config = m.config;
  }

  further : (i : ℕ) (below behind : Tree) {outer : List Node} {augment : ℕ} → ImposesAmong (forest_shown its behind) outer augment
      → ImposesAmong (forest_shown its (item i below behind)) outer augment
  further i below behind {outer = outer} m = record {
    given = m.given;
    below = m.below;
    target = m.target;
    above = m.above;
    stands = by (its.is_node i);
    giver = m.giver;
    foreign = m.foreign;
    needed = m.needed;
    config = m.config;
  }
    where
      by : (b : Bool) → Stands (chosen b i below behind) outer m.given m.below (m.target ∷ m.above)
      by true = later m.stands
      by false = m.stands

  -- a refusal of an augment by what is so of it
  abbrev IsRefusal : Forest → List Node → Refusal → Type 0
  IsRefusal forest outer f =
      (a : ℕ) × ImposesAmong forest outer a × (r : Row) × (slice_get (rows_of files) a ≡ Some r) × (f ≡ refusal_at code.BadAugment r.file r.head)

  -- what is imposed is imposed by a node of the forest
  imposed_to : (t : Tree) (parent : Option ℕ) (outer : List Node) (a : Around) → IsSound parent t → IsAround parent outer a → (f : Refusal)
      → ImposesMandatory (rows_of files) spots w.augments told parent a t f → IsRefusal (forest_shown its t) outer f
  imposed_to by_number.none parent outer a s r f bad = absurd bad
  imposed_to (item i below behind) parent outer a s r f h = elim h [
    | inl one ↦ at_here (its.is_node i) refl one
    | inr (inl inner) ↦ down (its.is_node i) refl (λ o. imposed_to below (Some i) (its.node_of i ∷ outer) (inside spots told i a) (below_of s) (inside_is i t r) f o) inner
    | inr (inr beside) ↦
        (let x = imposed_to behind parent outer a (behind_of s) r f beside in (x.0, further i below behind x.1, x.2, x.3, x.4))
  ]
    where
      t : IsThere i
      t = there i s.within.0

      down : (b : Bool) → its.is_node i ≡ b
          → (ImposesMandatory (rows_of files) spots w.augments told (Some i) (inside spots told i a) below f → IsRefusal (forest_shown its below) (its.node_of i ∷ outer) f)
          → ImposesMandatory (rows_of files) spots w.augments told (Some i) (inside spots told i a) below f
          → IsRefusal (forest_shown its (item i below behind)) outer f
      down false isnt go inner =
          let nothing : below ≡ by_number.none = s.low.0 (uses_is files marks items its tells i s.within.0 isnt) in
          absurd (subst (λ z. ImposesMandatory (rows_of files) spots w.augments told (Some i) (inside spots told i a) z f) nothing inner)
      down true is go inner = (let x = go inner in (x.0, deeper i below behind is x.1, x.2, x.3, x.4))

      at_here : (b : Bool) → its.is_node i ≡ b
          → by_item.IsMandatoryAdded (rows_of files) spots w.augments parent i
          (by_item.is_mandatory spots told i (mandatory_among below) && by_item.is_configuration (inside spots told i a)) f
          → IsRefusal (forest_shown its (item i below behind)) outer f
      at_here false isnt (sp, up, aug, at, at_up, giver, (row, found, ((foreign, required), is))) =
          absurd (false≢true (sym (uses_needs i t (no_node_uses i t isnt) (mandatory_among below))
          ∙ left_is (by_item.is_mandatory spots told i (mandatory_among below)) (by_item.is_configuration (inside spots told i a)) required))
      at_here true one_node (sp, up, aug, at, at_up, giver, (row, found, ((foreign, required), is))) = elim r.above [
        | inl top ↦ absurd (not_none (ap (spot_at spots) (sym top.0) ∙ at_up))
        | inr (p, rest, tp, parent_is, outer_is) ↦ (
          aug,
          record {
            given = its.node_of i;
            below = forest_shown its below;
            target = its.node_of p;
            above = rest;
            stands =
                subst (λ z. Stands (forest_shown its (item i below behind)) outer (its.node_of i) (forest_shown its below) z) outer_is
                (subst (λ (b : Bool). Stands (chosen b i below behind) outer (its.node_of i) (forest_shown its below) outer) (sym one_node) here);
            giver = sym (giver_is i t) ∙ (ap (source_of (length spots) w.augments) at ∙ giver);
            foreign =
                λ same. foreign (sym (tells.told.module_file i sp at) ∙ (same ∙ tells.told.module_file p up (ap (spot_at spots) (sym parent_is) ∙ at_up)));
            needed =
                ap (is_needed files (its.node_of i)) (sym (mandatory_same below (below_of s)))
                ∙ (sym (needed_is i t (mandatory_among below))
                ∙ left_is (by_item.is_mandatory spots told i (mandatory_among below)) (by_item.is_configuration (inside spots told i a)) required);
            config =
                ap (is_configuration files (its.node_of i)) (sym outer_is)
                ∙ (sym (configured_is i t r)
                ∙ right_is (by_item.is_mandatory spots told i (mandatory_among below)) (by_item.is_configuration (inside spots told i a)) required);
          },
          row,
          found,
          is,
        )
      ]

  -- what is imposed by what stands in a forest is so imposed by items
  abbrev Answers : Forest → (outer : List Node) → (target : Node) → (rest : List Node) → (augment : ℕ) → Type 0 → Type 0
  Answers forest outer target rest augment Bad =
      (above : List Node) (given : Node) (low : Forest) → Stands forest outer given low above → above ≡ target ∷ rest → given.giver ≡ Some augment
      → is_needed files given (has_mandatory files low) ≡ true → is_configuration files given above ≡ true → given.module_file ≢ target.module_file → Bad

  -- what a node of the forest imposes is imposed
  imposed_from : (t : Tree) (parent : Option ℕ) {outer above : List Node} (a : Around) {given : Node} {low : Forest} → IsSound parent t
      → IsAround parent outer a
      → (f : Refusal) (aug : ℕ) (row : Row) → slice_get (rows_of files) aug ≡ Some row → f ≡ refusal_at code.BadAugment row.file row.head
      → Stands (forest_shown its t) outer given low above → (target : Node) (rest : List Node) → above ≡ target ∷ rest → given.giver ≡ Some aug
      → given.module_file ≢ target.module_file → is_needed files given (has_mandatory files low) ≡ true → is_configuration files given above ≡ true
      → ImposesMandatory (rows_of files) spots w.augments told parent a t f
  imposed_from by_number.none parent a s r f aug row found is st target rest up giver foreign needed config = absurd (none_stand st)
    where
      none_stand : {outer above : List Node} {given : Node} {low : Forest} → Stands nodes.none outer given low above → ⊥
      none_stand st = elim st [ ]
  imposed_from (item i below behind) parent {outer = outer} {above = above} a {given = given} {low = low} s r f aug row found is st target rest up giver foreign needed config =
      by (its.is_node i) refl st up giver needed config foreign r
      (λ x y z st up giver needed config foreign. imposed_from below (Some i) (inside spots told i a) (below_of s) (inside_is i t r) f aug row found is st target rest up giver foreign needed config)
      (λ x y z st up giver needed config foreign. imposed_from behind parent a (behind_of s) r f aug row found is st target rest up giver foreign needed config)
    where
      t : IsThere i
      t = there i s.within.0

      by : (b : Bool) {outer above : List Node} {given : Node} {low : Forest} → its.is_node i ≡ b
          → Stands (chosen b i below behind) outer given low above
          → above ≡ target ∷ rest → given.giver ≡ Some aug → is_needed files given (has_mandatory files low) ≡ true
          → is_configuration files given above ≡ true
          → given.module_file ≢ target.module_file → IsAround parent outer a
          → Answers (forest_shown its below) (its.node_of i ∷ outer) target rest aug (ImposesMandatory (rows_of files) spots w.augments told (Some i) (inside spots told i a) below f)
          → Answers (forest_shown its behind) outer target rest aug (ImposesMandatory (rows_of files) spots w.augments told parent a behind f)
          → ImposesMandatory (rows_of files) spots w.augments told parent a (item i below behind) f
      by false isnt st up giver needed config foreign r deep beside = inr (inr (beside _ _ _ st up giver needed config foreign))
      by true one_node (under st) up giver needed config foreign r deep beside = inr (inl (deep _ _ _ st up giver needed config foreign))
      by true one_node (later st) up giver needed config foreign r deep beside = inr (inr (beside _ _ _ st up giver needed config foreign))
      by true one_node here up giver needed config foreign r deep beside = elim r.above [
        | inl top ↦ absurd (let bad : [] ≡ target ∷ rest = sym top.1 ∙ up in cc)
        | inr (p, others, tp, parent_is, outer_is) ↦
            let same : its.node_of p ≡ target = first_same (sym outer_is ∙ up) in
            inl (
              t.s,
              tp.s,
              aug,
              t.spot,
              ap (spot_at spots) parent_is ∙ tp.spot,
              ap (source_of (length spots) w.augments) (sym t.spot) ∙ (giver_is i t ∙ giver),
              (
                row,
                found,
                (
                  (
                    (λ module_files. foreign (tells.told.module_file i t.s t.spot ∙ (module_files ∙ (sym (tells.told.module_file p tp.s tp.spot) ∙ ap (λ (g : Node). g.module_file) same)))),
                    both_true (by_item.is_mandatory spots told i (mandatory_among below)) (by_item.is_configuration (inside spots told i a))
                        (needed_is i t (mandatory_among below) ∙ (ap (is_needed files (its.node_of i)) (mandatory_same below (below_of s)) ∙ needed))
                        (configured_is i t r ∙ config),
                  ),
                  is,
                ),
              ),
            )
      ]
        where
          first_same : {x y : Node} {xs ys : List Node} → x ∷ xs ≡ y ∷ ys → x ≡ y
          first_same e = cc

pub impositions_are_one : (files : Files) → RefersToOne files → EachOnce → AllWithin → ImpositionsAreOne files
impositions_are_one files one_meant once all_within optional choice f its m r sound roots final tells E =
    let marks : List Bool = marks_of choice files in
    let w : Whole = expansion_of files marks f.items in
    let grafted : AreAugmented w f.items f.state =
    subst (λ a. AreAugmented (whole (map brief_of files) (rows_of files) a (length f.items)) f.items f.state) final.augments final.grafted in
    let tree : IsTree (labels_in files marks f.items) f.state.groups f.tree =
    subst (λ a. IsTree (labels_of (layout_of (whole (map brief_of files) (rows_of files) a (length f.items)) f.items).spots) f.state.groups f.tree) final.augments final.is_tree in
    let stand = once w f.items f.state refl grafted in
    let within : (k : ℕ) (row : ItemRow) → slice_get (tree_list None 1 f.tree) k ≡ Some row → row.number < length f.items = λ k row at.
    all_within (labels_in files marks f.items) f.state.groups (length f.items) k row f.tree tree stand at in
    let low = make_lowest (labels_in files marks f.items) f.state.groups (IsUses w f.items refl) (uses_empty w f.items refl f.state grafted) tree.2 in
    let every = every_row (λ p i. i < length f.items) None 1 f.tree within in
    let order : List ℕ = order_of choice files in
    let sound_tree : IsSound files marks order final.own f.items its final.expanded tells optional None f.tree = record { low = low; within = every } in
    let top : IsAround files marks order final.own f.items its final.expanded tells optional None [] nothing_around =
    record { config = refl; operation = refl; above = inl (refl, refl) } in
    let shows : m.nodes ≡ forest_shown its f.tree = final_tree_shows files one_meant once choice f its m sound roots final tells E in
    let By : List ℕ → Type 0 = λ a. ImposesMandatory (rows_of files) (layout_of (whole (map brief_of files) (rows_of files) a (length f.items)) f.items).spots a
    (told_of (said_of_all files f.items (all_changes files (layout_of (whole (map brief_of files) (rows_of files) a (length f.items)) f.items).spots
    (refined_all (whole (map brief_of files) (rows_of files) a (length f.items)) f.items)))) None nothing_around f.tree r in (
      (λ bad.
          let x = imposed_to files marks order final.own f.items its final.expanded tells optional f.tree None [] nothing_around sound_tree top r (subst By final.augments bad) in
          let i = x.1 in (
            x.0,
            record {
              given = i.given;
              below = i.below;
              target = i.target;
              above = i.above;
              stands = subst (λ n. Stands n [] i.given i.below (i.target ∷ i.above)) (sym shows) i.stands;
              giver = i.giver;
              foreign = i.foreign;
              needed = i.needed;
              config = i.config;
            },
            (x.2, x.3, x.4),
          )),
      (λ (a, i, (row, found, is)).
          subst By (sym final.augments)
          (imposed_from files marks order final.own f.items its final.expanded tells optional f.tree None nothing_around sound_tree top r a row found is
          (subst (λ n. Stands n [] i.given i.below (i.target ∷ i.above)) shows i.stands) i.target i.above refl i.giver i.foreign i.needed i.config)),
    )
