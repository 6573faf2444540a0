-- What augments of modules give, by where it stands in the final tree.
use Rattle.std.proofs.Common.{inl, inr, ◌≡◌, ℕ, zero, suc, ◌+◌, ◌-◌, ◌<◌, ◌&&◌, nat_lt, Bool, true, false, if◌then◌else◌, List, [], ◌∷◌, length, get_or, Option, Some, None, refl, sym, ap, ◌∙◌, arith}
use Rattle.std.specs.List.{slice_get}
use Rattle.std.proofs.lemmas.Bool.{ltb-true}
use Rattle.std.proofs.lemmas.Option.{same_Some}
use Rattle.yv_text_statement.specs.Selection.{ModuleChoice}
use Rattle.yv_link_scopes.specs.Files.{Files}
use Rattle.yv_expand.specs.Tree as expansion
use Rattle.yv_expand.specs.Tree.{Item, Node, Nodes}
use Rattle.yv_expand_rounds.specs.Tree.{IsTree, Tree, tree_list}
use Rattle.yv_expand_rounds.specs.Turns.{State, target_of}
use Rattle.yv_expand_rounds.specs.declared.label.Label.{Label}
use Rattle.yv_expand_rounds.specs.declared.row.ItemRow.{ItemRow}
use Rattle.yv_expand_augments.specs.Augmentation.{AreAugmented}
use Rattle.yv_expand_uses.specs.Spots.{Whole, copy_group, labels_of, layout_of}
use Rattle.yv_expand_uses.specs.declared.spot.Spot.{Spot}
use Rattle.yv_expand_statements.specs.Truth.{Truth}
use Rattle.yv_expand_tree.specs.Final.{Final, IsFinal, spots_of, whole_of}
use Rattle.yv_expand_tree.specs.FinalTree.{source_at, source_of_spot, targets_from, targets_of}
use Rattle.yv_expand_tree.specs.Remains.{AreLeft}
use Rattle.yv_expand_tree.proofs.Finals.{laid_long, left_stands}

giver_told : (items : ℕ) (augments : List ℕ) (s : Spot) (giver : ℕ) → source_of_spot items augments (Some s) ≡ Some giver
    → (giver < length augments) × (s.group ≡ items + 1 + giver)
giver_told items augments s giver is = by (nat_lt items s.group) (nat_lt (s.group - items - 1) (length augments)) refl refl is
  where
    by : (a b : Bool) → nat_lt items s.group ≡ a → nat_lt (s.group - items - 1) (length augments) ≡ b
        → (if a && b then Some (s.group - items - 1) else None) ≡ Some giver → (giver < length augments) × (s.group ≡ items + 1 + giver)
    by false b p q e = absurd (let bad : None ≡ Some giver = e in cc)
    by true false p q e = absurd (let bad : None ≡ Some giver = e in cc)
    by true true p q e =
        let same : s.group - items - 1 ≡ giver = same_Some (s.group - items - 1) giver e in
        let low = ltb-true items s.group p in
        let high = ltb-true (s.group - items - 1) (length augments) q in
        (omega (arith, same, high), omega (arith, same, low))

giver_spot : (spots : List Spot) (augments : List ℕ) (i giver : ℕ) → source_at spots augments i ≡ Some giver
    → (s : Spot) × (slice_get spots i ≡ Some s) × (giver < length augments) × (s.group ≡ length spots + 1 + giver)
giver_spot spots augments i giver is = by (slice_get spots i) refl
  where
    by : (o : Option Spot) → slice_get spots i ≡ o → (s : Spot) × (slice_get spots i ≡ Some s) × (giver < length augments) × (s.group ≡ length spots + 1 + giver)
    by None at = absurd (let bad : None ≡ Some giver = sym (ap (source_of_spot (length spots) augments) at) ∙ is in cc)
    by (Some s) at =
        let told = giver_told (length spots) augments s giver (sym (ap (source_of_spot (length spots) augments) at) ∙ is) in
        (s, at, told.0, told.1)

target_at : (labels : List Label) (st : State) (m : ℕ) (ks : List ℕ) (k : ℕ) → k < length ks → get_or (targets_from labels st m ks) k None ≡ target_of labels st.ends (m + k)
target_at labels st m [] k lt = absurd (omega (arith, lt))
target_at labels st m (a ∷ ks) zero lt = ap (target_of labels st.ends) (omega arith)
target_at labels st m (a ∷ ks) (suc k) lt =
    target_at labels st (m + 1) ks k (omega (arith, lt)) ∙ ap (target_of labels st.ends) (omega arith)

abbrev pub GivenBelow : Type 0
GivenBelow = (w : Whole) (items : List Item) (st : State) (t : Tree) (k place : ℕ) (row : ItemRow) (s : Spot) → w.items ≡ length items → AreAugmented w items st
    → IsTree (labels_of (layout_of w items).spots) st.groups t → slice_get (tree_list None 1 t) k ≡ Some row → slice_get (layout_of w items).spots row.number ≡ Some s → place < length w.augments
    → s.group ≡ copy_group w place → (p : ℕ) × (row.parent ≡ Some p) × (target_of (labels_of (layout_of w items).spots) st.ends place ≡ Some p)

module _ (choice : ModuleChoice) (files : Files) (truth : Truth) (f : Final) (is : IsFinal choice files f) (law : GivenBelow) where
  -- an item that an augment of a module gives stands below the target of that
  abbrev HasTarget : Option ℕ → ℕ → Type 0
  HasTarget parent i = (giver : ℕ) → source_at (spots_of files f) f.augments i ≡ Some giver
      → (p : ℕ) × (parent ≡ Some p) × (get_or (targets_of files f) giver None ≡ Some p)

  rows_have_targets : (k : ℕ) (row : ItemRow) → slice_get (tree_list None 1 f.tree) k ≡ Some row → HasTarget row.parent row.number
  rows_have_targets k row at giver gives =
      let g = giver_spot (spots_of files f) f.augments row.number giver gives in
      let long = laid_long choice files truth f is in
      let e = g.3 in
      let own : g.0.group ≡ copy_group (whole_of files f) giver = (omega (arith, long, e)) in
      let h = law (whole_of files f) f.items f.state f.tree k giver row g.0 refl is.grafted is.is_tree at g.1 g.2 own in
      (h.0, h.1, target_at (labels_of (spots_of files f)) f.state 0 f.augments giver g.2 ∙ ap (target_of (labels_of (spots_of files f)) f.state.ends) (omega arith) ∙ h.2)

  pub nodes_have_targets : (nodes : Nodes) (place giver : ℕ) (x : Node) → AreLeft truth files f nodes → slice_get (expansion.item_list None 0 nodes) place ≡ Some x
      → source_at (spots_of files f) f.augments x.origin ≡ Some giver
      → (target : ℕ) × (node : Node) × (x.parent ≡ Some target) × (slice_get (expansion.item_list None 0 nodes) target ≡ Some node)
      × (get_or (targets_of files f) giver None ≡ Some node.origin)
  nodes_have_targets nodes place giver x are at gives =
      elim (left_stands choice files truth f is HasTarget rows_have_targets nodes are place x at) [
        | inl top ↦ (let h = top.1 giver gives in absurd (let bad : None ≡ Some h.0 = h.1 in cc))
        | inr s ↦ (
            let h = s.4 giver gives in
            (s.0, s.1, s.2 ∙ ap (λ (n : ℕ). Some n) (omega arith), s.3, h.2 ∙ sym h.1))
      ]
