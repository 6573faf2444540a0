-- The notes of augments by numbered items are those of the tree to which files expand.
use Rattle.std.proofs.Common.{◌≡◌, ℕ, zero, suc, ◌+◌, ◌==◌, List, [], ◌∷◌, ◌++◌, length, map, refl, sym, ◌∙◌, ap, ap₂, subst, arith, Option, Some, None, slice_index_or}
use Rattle.std.specs.List.{slice_get}
use Rattle.std.specs.Option.{option_and_then, option_map}
use Rattle.std.proofs.lemmas.Bool.{eq-eqb, eqb-true}
use Rattle.std.proofs.lemmas.Simd.{map-map}
use Rattle.std.proofs.lemmas.Option.{get_or_from_slice_get, same_Some, slice_get-map}
use Rattle.yv_text_statement.specs.Selection.{ModuleChoice}
use Rattle.yv_base_tables.specs.Families.{is_place, numbers_at}
use Rattle.yv_link_scopes.specs.Files.{Files, brief_of}
use Rattle.yv_link_scopes.specs.RowList.{rows_of}
use Rattle.yv_link_scopes.specs.Rows.{Row}
use Rattle.yv_expand_statements.specs.StatementBlocks.{augments_of}
use Rattle.yv_expand.specs.Tree.{Node, Nodes, item_list}
use Rattle.yv_expand_uses.specs.Spots.{whole}
use Rattle.yv_expand_statements.specs.Truth.{Truth}
use Rattle.yv_expand_tree.specs.Final.{Final, IsFinal, spots_of, whole_of}
use Rattle.yv_expand_statements.specs.FileOrder.{marks_of}
use Rattle.yv_expand_tree.specs.FinalTree.{source_at, source_of_spot, targets_of}
use Rattle.yv_expand_tree.specs.Remains.{AreLeft}
use Rattle.yv_expand_definition.specs.Nodes as expanded
use Rattle.yv_expand_laws.specs.Files.{ShowFiles, giver_of}
use Rattle.yv_expand_laws.proofs.Orders.{augments_rise, rises_one}
use Rattle.yv_expand_laws.specs.Schema.{shown_nodes}
use Rattle.yv_expand_laws.specs.Shows.{Items}
use Rattle.yv_expand_laws.specs.StatementItems.{ShowNodes}
use Rattle.yv_schema.specs.InnerBasis.{IsNumberedBasis, NumberedBasis, nodes_in}
use Rattle.yv_schema.specs.InnerNotes as by_number
use Rattle.yv_schema.specs.Schema.{Basis}
use Rattle.yv_schema.specs.Notes.{parents_from}
use Rattle.yv_schema.specs.Notes as by_tree
use Rattle.yv_schema.proofs.AugmentNodes.{AreApart, first_placed, found_at, giver_at_place, many_spots, same_numbers, same_parents, same_place}
use Rattle.yv_schema.proofs.ShownNodes.{listed, not_none}
use Rattle.yv_schema.proofs.ShownBasis.{shown_basis}

-- a node that an augment of a module gives is below the one to which the augment adds
abbrev pub GivenBelow : Type 0
GivenBelow =
    (choice : ModuleChoice) (files : Files) (truth : Truth) (f : Final) (nodes : Nodes) (place giver : ℕ) (x : Node)
    → IsFinal choice files f → AreLeft truth files f nodes → slice_get (item_list None 0 nodes) place ≡ Some x
    → source_at (spots_of files f) f.augments x.origin ≡ Some giver
    → (target : ℕ) × (node : Node) × (x.parent ≡ Some target) × (slice_get (item_list None 0 nodes) target ≡ Some node)
    × (slice_index_or (targets_of files f) giver None ≡ Some node.origin)

-- no item is left twice
abbrev pub LeftOnce : Type 0
LeftOnce =
    (choice : ModuleChoice) (files : Files) (truth : Truth) (f : Final) (nodes : Nodes) (i k : ℕ) (x y : Node)
    → IsFinal choice files f → AreLeft truth files f nodes → slice_get (item_list None 0 nodes) i ≡ Some x
    → slice_get (item_list None 0 nodes) k ≡ Some y → x.origin ≡ y.origin → i ≡ k

get_back : {A B : Type 0} (f : A → B) (xs : List A) (n : ℕ) (y : B) → slice_get (map f xs) n ≡ Some y → (x : A) × (slice_get xs n ≡ Some x) × (f x ≡ y)
get_back f [] n y at = absurd (not_none at)
get_back f (x ∷ xs) zero y at = (x, refl, same_Some (f x) y at)
get_back f (x ∷ xs) (suc n) y at = get_back f xs n y at

-- the nodes that two augments add are noted in one way, where both add the same below one target
same_note : (b : NumberedBasis) (r : Option Row) (wanted got : Option ℕ) (ns : List ℕ) → ((n : ℕ) (others : List ℕ) → ns ≡ n ∷ others → (t : ℕ) × (wanted ≡ Some t) × (got ≡ Some t))
    → (ns ≡ [] → got ≡ None)
    → by_number.note_of_augment b r wanted (map (λ n. record { 0 = n }) ns) ≡ by_tree.note_of_augment b.files r got ns
same_note b None wanted got ns one empty = refl
same_note b (Some r) None got [] one empty = sym (ap (λ (o : Option ℕ). by_tree.note_of_augment b.files (Some r) o []) (empty refl))
same_note b (Some r) (Some t) got [] one empty = sym (ap (λ (o : Option ℕ). by_tree.note_of_augment b.files (Some r) o []) (empty refl))
same_note b (Some r) wanted got (n ∷ others) one empty =
    let o = one n others refl in
    ap (λ (w : Option ℕ). by_number.note_of_augment b (Some r) w (map (λ n. record { 0 = n }) (n ∷ others))) o.1
    ∙ sym (ap (λ (g : Option ℕ). by_tree.note_of_augment b.files (Some r) g (n ∷ others)) o.2)

module _ (choice : ModuleChoice) (b : NumberedBasis) (its : Items) (is : IsNumberedBasis choice b) (told : ShowFiles b.files (marks_of choice b.files) b.final.items its)
    (given_below : GivenBelow) (once : LeftOnce) (apart : AreApart b.final.augments) where
  abbrev t : Basis
  t = shown_basis its b

  abbrev source : Node → Option ℕ
  source x = source_at (spots_of b.files b.final) b.final.augments x.origin

  giver_is : (i : ℕ) → (its.node_of i).giver ≡ option_and_then (slice_get b.final.augments) (source_at (spots_of b.files b.final) b.final.augments i)
  giver_is i =
      let told : ShowNodes b.files (whole_of b.files b.final) b.final.items (giver_of (whole_of b.files b.final) b.final.items) its =
      subst (λ a. ShowNodes b.files (whole (map brief_of b.files) (rows_of b.files) a (length b.final.items)) b.final.items (giver_of (whole (map brief_of b.files) (rows_of b.files) a (length b.final.items)) b.final.items) its)
      (sym is.final.augments) told in
      told.giver i
      ∙ (giver_at_place (whole_of b.files b.final) (slice_get (spots_of b.files b.final) i)
      ∙ ap (λ (n : ℕ). option_and_then (slice_get b.final.augments) (source_of_spot n b.final.augments (slice_get (spots_of b.files b.final) i)))
      (sym (many_spots (whole_of b.files b.final) b.final.items)))

  -- the nodes that an augment adds, by its place and by its number
  same_added : (place a : ℕ) → slice_get b.final.augments place ≡ Some a
      → numbers_at (map source (nodes_in b)) place ≡ by_tree.nodes_added t a
  same_added place a at =
      same_numbers place a source (λ (x : Node). (its.node_of x.origin).giver) 0 (nodes_in b)
      (λ x. same_place b.final.augments apart place a at (source x) ∙ ap (is_place a) (sym (giver_is x.origin)))
      ∙ ap (λ (os : List (Option ℕ)). numbers_at os a)
      (sym (map-map (λ (g : expanded.Node). g.giver) (λ (x : Node). its.node_of x.origin) (nodes_in b))
      ∙ ap (map (λ (g : expanded.Node). g.giver)) (sym (listed its None 0 b.nodes)))

  -- the number of an item is that of its node
  node_is : (target : ℕ) (above : Node) → slice_get (nodes_in b) target ≡ Some above → by_number.node_of b above.origin ≡ Some target
  node_is target above at =
      found_at (λ (y : Node). y.origin == above.origin) 0 (nodes_in b) target above at (eq-eqb above.origin above.origin refl)
      (λ j y there passes. once choice b.files b.truth b.final b.nodes j target y above is.final is.nodes there at (eqb-true y.origin above.origin passes))
      ∙ ap (λ (m : ℕ). Some m) (let e : 0 + target ≡ target = omega arith in e)

  -- what stands above a node does so in the tree
  parent_is : (n : ℕ) (x : Node) → slice_get (nodes_in b) n ≡ Some x → slice_index_or (parents_from None 0 (shown_nodes its b.nodes)) n None ≡ x.parent
  parent_is n x at =
      ap (λ (os : List (Option ℕ)). slice_index_or os n None) (same_parents its None 0 b.nodes)
      ∙ get_or_from_slice_get (map (λ (y : Node). y.parent) (nodes_in b)) n x.parent None
      (slice_get-map (λ (y : Node). y.parent) (nodes_in b) n ∙ ap (option_map (λ (y : Node). y.parent)) at)

  -- the node to which an augment adds is above the first that it adds
  same_target : (place : ℕ) (n : ℕ) (others : List ℕ) → numbers_at (map source (nodes_in b)) place ≡ n ∷ others
      → (target : ℕ) × (by_number.target_of b place ≡ Some target) × (slice_index_or (parents_from None 0 (shown_nodes its b.nodes)) n None ≡ Some target)
  same_target place n others are =
      let first = first_placed place 0 (map source (nodes_in b)) n others are in
      let same : n ≡ first.0 = (let e = first.1 in omega (arith, e)) in
      let r = get_back source (nodes_in b) n (Some place) (ap (slice_get (map source (nodes_in b))) same ∙ first.2) in
      below n r.0 r.1 (given_below choice b.files b.truth b.final b.nodes n place r.0 is.final is.nodes r.1 r.2)
    where
      below : (n : ℕ) (x : Node) → slice_get (nodes_in b) n ≡ Some x
          → (target : ℕ) × (above : Node) × (x.parent ≡ Some target) × (slice_get (nodes_in b) target ≡ Some above) × (slice_index_or (targets_of b.files b.final) place None ≡ Some above.origin)
          → (target : ℕ) × (by_number.target_of b place ≡ Some target) × (slice_index_or (parents_from None 0 (shown_nodes its b.nodes)) n None ≡ Some target)
      below n x at (target, above, parent, there, adds) = (
        target,
        ap (option_and_then (by_number.node_of b)) adds ∙ node_is target above there,
        parent_is n x at ∙ parent,
      )

  target_there : (place : ℕ) (ns : List ℕ) → numbers_at (map source (nodes_in b)) place ≡ ns → (n : ℕ) (others : List ℕ) → ns ≡ n ∷ others
      → (target : ℕ) × (by_number.target_of b place ≡ Some target) × (by_tree.target_of t ns ≡ Some target)
  target_there place ns are n others split =
      let r = same_target place n others (are ∙ split) in
      (r.0, r.1, ap (by_tree.target_of t) split ∙ r.2)

  same_notes_from : (place : ℕ) (augments : List ℕ) → ((j : ℕ) → slice_get augments j ≡ slice_get b.final.augments (place + j))
      → by_number.notes_from b place augments ≡ by_tree.notes_from t augments
  same_notes_from place [] are = refl
  same_notes_from place (a ∷ others) are =
      let at : slice_get b.final.augments place ≡ Some a = ap (slice_get b.final.augments) (let e : place ≡ place + 0 = omega arith in e) ∙ sym (are 0) in
      ap₂ (λ xs ys. xs ++ ys)
      (ap (λ (ns : List ℕ). by_number.note_of_augment b (slice_get (rows_of b.files) a) (by_number.target_of b place) (map (λ n. record { 0 = n }) ns)) (same_added place a at)
      ∙ same_note b (slice_get (rows_of b.files) a) (by_number.target_of b place) (by_tree.target_of t (by_tree.nodes_added t a)) (by_tree.nodes_added t a)
      (target_there place (by_tree.nodes_added t a) (same_added place a at))
      (λ none. ap (by_tree.target_of t) none))
      (same_notes_from (place + 1) others (λ j. are (suc j) ∙ ap (slice_get b.final.augments) (let e : place + suc j ≡ place + 1 + j = omega arith in e)))

  pub same_notes : by_number.notes_of b ≡ by_tree.notes_of choice t
  same_notes =
      same_notes_from 0 b.final.augments (λ j. ap (slice_get b.final.augments) (let e : j ≡ 0 + j = omega arith in e))
      ∙ ap (by_tree.notes_from t) is.final.augments

-- notes by numbered items are notes by the tree
pub notes_are : GivenBelow → LeftOnce → (choice : ModuleChoice) (b : NumberedBasis) (its : Items) → IsNumberedBasis choice b → ShowFiles b.files (marks_of choice b.files) b.final.items its
    → by_number.notes_of b ≡ by_tree.notes_of choice (shown_basis its b)
notes_are given_below once choice b its is told =
    same_notes choice b its is told given_below once (subst AreApart (sym is.final.augments) (rises_one (augments_of (map brief_of b.files) (rows_of b.files) (marks_of choice b.files)) (augments_rise b.files (marks_of choice b.files))))
