-- Each expansion of files has the nodes that its items show.
use Rattle.std.proofs.Common.{◌≡◌, ℕ, zero, suc, ◌+◌, ◌<◌, if◌then◌else◌, List, [], ◌∷◌, ◌++◌, length, length-append, append_assoc, refl, sym, ◌∙◌, ap, arith, Option, Some, None}
use Rattle.std.specs.List.{slice_get}
use Rattle.std.proofs.lemmas.Option.{same_Some}
use Rattle.yv_link_scopes.specs.Files.{Files}
use Rattle.yv_link_scopes.specs.Rows.{Row}
use Rattle.yv_expand_statements.specs.Origin.{number_of}
use Rattle.yv_expand.specs.Tree.{Item, all_of, join}
use Rattle.yv_expand_statements.specs.declared.origin.Origin.TheVariants.{Statement}
use Rattle.yv_expand_statements.specs.declared.statement_kind.StatementKind.TheVariants as kind
use Rattle.yv_expand_rounds.specs.declared.label.Label.{Label}
use Rattle.yv_expand_rounds.specs.Order.{is_given}
use Rattle.yv_expand_statements.specs.Kinds.{is_uses}
use Rattle.yv_expand_uses.specs.Kinds.{kind_of}
use Rattle.yv_expand_augments.specs.RefineMeanings.{refined_all}
use Rattle.yv_expand_uses.specs.Spots.{Whole, labels_of, layout_of, spot_at}
use Rattle.yv_expand_uses.specs.declared.spot.Spot.{Spot}
use Rattle.yv_expand_changes.specs.Changes.{changes}
use Rattle.yv_expand_definition.specs.Nodes.{Node}
use Rattle.yv_expand_tree.proofs.NodePositions.{parents_first}
use Rattle.yv_expand_laws.specs.Files.{ItemsShow, expansion_of, giver_of}
use Rattle.yv_expand_laws.specs.StatementItems.{ShowNodes, around, under_of}
use Rattle.yv_expand_laws.specs.Shows.{Items}
use Rattle.yv_expand_laws.specs.ItemProperties.{is_some_node, name_of}
use Rattle.yv_expand_laws.proofs.FoundItems.{not_none}
use Rattle.yv_expand_laws.proofs.LaidBlocks.{last_at, still_at}
use Rattle.yv_expand_laws.proofs.LabelsAndPaths.{told_at}

module _ (files : Files) (w : Whole) (items : List Item) (giver_at : ℕ → Option ℕ)
    (before : (i p : ℕ) (x : Item) → slice_get items i ≡ Some x → x.parent ≡ Some p → p < i) where
  abbrev spots : List Spot
  spots = (layout_of w items).spots

  -- what stands where there is no item
  abbrev nowhere : Node
  nowhere = record { origin = Statement 0; under = []; module_file = 0; kind = kind.Leaf; name = []; refines = []; giver = None }

  abbrev node_in : Option Node → Node
  node_in None = nowhere
  node_in (Some g) = g

  abbrev module_file_in : Option Spot → ℕ
  module_file_in None = 0
  module_file_in (Some s) = s.module_file

  abbrev under_in : List Node → Option Row → (parent : Option ℕ) → Option Spot → List ℕ
  under_in made r None s = around w.rows r
  under_in made r (Some p) None = []
  under_in made r (Some p) (Some s) =
      if is_uses s.label.kind then around w.rows r ++ s.statement ∷ (node_in (slice_get made p)).under else (node_in (slice_get made p)).under

  -- the node of the next item, where these are those of the items before it
  abbrev next : List Node → Item → Node
  next made x = record {
    origin = x.origin;
    under = under_in made (slice_get w.rows (number_of x.origin)) x.parent (spot_at spots x.parent);
    module_file = module_file_in (slice_get spots (length made));
    kind = kind_of w.rows x.origin;
    name = name_of w.rows x.origin;
    refines = [];
    giver = None;
  }

  abbrev made_from : List Node → List Item → List Node
  made_from made [] = made
  made_from made (x ∷ xs) = made_from (made ++ next made x ∷ []) xs

  -- all nodes are those of which each was the next
  grows : (xs : List Item) (made : List Node) → (more : List Node) × (made_from made xs ≡ made ++ more)
  grows [] made = ([], sym (none_more made))
    where
      none_more : (ys : List Node) → ys ++ [] ≡ ys
      none_more [] = refl
      none_more (y ∷ ys) = ap (λ z. y ∷ z) (none_more ys)
  grows (x ∷ xs) made =
      let r = grows xs (made ++ next made x ∷ []) in
      (next made x ∷ r.0, r.1 ∙ append_assoc made (next made x ∷ []) r.0)

  made_at : (xs : List Item) (made : List Node) (j : ℕ) (x : Item) → slice_get xs j ≡ Some x
      → (first : List Node) × (length first ≡ length made + j) × ((p : ℕ) → p < length first → slice_get (made_from made xs) p ≡ slice_get first p)
      × (slice_get (made_from made xs) (length made + j) ≡ Some (next first x))
  made_at [] made j x at = absurd (not_none at)
  made_at (y ∷ xs) made zero x at =
      let r = grows xs (made ++ next made y ∷ []) in
      let long = length-append made (next made y ∷ []) in
      let whole_is : made_from (made ++ next made y ∷ []) xs ≡ made ++ (next made y ∷ r.0) = r.1 ∙ append_assoc made (next made y ∷ []) r.0 in (
        made,
        omega arith,
        (λ p l. ap (λ z. slice_get z p) whole_is ∙ still_at made (next made y ∷ r.0) p l),
        ap (λ z. slice_get z (length made + 0)) r.1 ∙ (still_at (made ++ next made y ∷ []) r.0 (length made + 0) (omega (arith, long))
            ∙ (last_at made (next made y) (length made + 0) (omega arith) ∙ ap (λ (z : Item). Some (next made z)) (same_Some y x at))),
      )
  made_at (y ∷ xs) made (suc j) x at =
      let long = length-append made (next made y ∷ []) in
      let r = made_at xs (made ++ next made y ∷ []) j x at in
      (r.0, (let e = r.1 in omega (arith, e, long)), r.2, ap (slice_get (made_from (made ++ next made y ∷ []) xs)) (let e : length made + suc j ≡ length (made ++ next made y ∷ []) + j = omega (arith, long) in e) ∙ r.3)

  abbrev all_made : List Node
  all_made = made_from [] items

  abbrev pub its_nodes : Items
  its_nodes = record {
    given = λ i. is_given (labels_of spots) i;
    is_node = λ i. is_some_node (slice_get (labels_of spots) i);
    node_of = λ i. record (node_in (slice_get all_made i)) { refines = changes files spots (refined_all w items) i; giver = giver_at i };
  }

  there : (i : ℕ) (x : Item) → slice_get items i ≡ Some x
      → (first : List Node) × (length first ≡ i) × ((p : ℕ) → p < i → slice_get all_made p ≡ slice_get first p) × (slice_get all_made i ≡ Some (next first x))
  there i x at =
      let r = made_at items [] i x at in
      let e = r.1 in
      (r.0, omega (arith, e), (λ p l. r.2 p (omega (arith, e, l))), ap (slice_get all_made) (let f : i ≡ 0 + i = omega arith in f) ∙ r.3)

  under_so : (i : ℕ) (x : Item) (first : List Node) → slice_get items i ≡ Some x → ((p : ℕ) → p < i → slice_get all_made p ≡ slice_get first p) → (r : Option Row)
      → under_in first r x.parent (spot_at spots x.parent) ≡ under_of w.rows its_nodes r x.parent (spot_at spots x.parent)
  under_so i x first at same r = by x.parent refl (spot_at spots x.parent)
    where
      by : (o : Option ℕ) → x.parent ≡ o → (s : Option Spot) → under_in first r o s ≡ under_of w.rows its_nodes r o s
      by None is s = refl
      by (Some p) is None = refl
      by (Some p) is (Some s) =
          ap (λ z. if is_uses s.label.kind then around w.rows r ++ s.statement ∷ (node_in z).under else (node_in z).under) (sym (same p (before i p x at is)))

  pub nodes_show : ShowNodes files w items giver_at its_nodes
  nodes_show = record {
    told = record {
      given = λ i. refl;
      node = λ i. refl;
      kind = λ i s at. (let x = told_at w items i s at in
          let r = there i x.0 x.1 in
          ap (λ o. (node_in o).kind) r.3 ∙ sym (ap (λ (z : Label). z.kind) x.2.label));
      module_file = λ i s at. (let x = told_at w items i s at in
          let r = there i x.0 x.1 in
          ap (λ o. (node_in o).module_file) r.3 ∙ (ap (λ (n : ℕ). module_file_in (slice_get spots n)) r.1 ∙ ap module_file_in at));
      name = λ i x at. (let r = there i x at in ap (λ o. (node_in o).name) r.3);
    };
    origin = λ i x at. (let r = there i x at in ap (λ o. (node_in o).origin) r.3);
    under = λ i x at. (let r = there i x at in ap (λ o. (node_in o).under) r.3 ∙ under_so i x r.0 at r.2 (slice_get w.rows (number_of x.origin)));
    refines = λ i. refl;
    giver = λ i. refl;
  }

pub items_show : (files : Files) → ItemsShow files
items_show files marks order own items expanded =
    let w : Whole = expansion_of files marks items in
    let first : (i p : ℕ) (x : Item) → slice_get items i ≡ Some x → x.parent ≡ Some p → p < i =
    λ i p x at up. parents_first (join (all_of expanded.trees) (all_of expanded.added)) items expanded.listed i p x at up in
    (its_nodes files w items (giver_of w items) first, nodes_show files w items (giver_of w items) first)
