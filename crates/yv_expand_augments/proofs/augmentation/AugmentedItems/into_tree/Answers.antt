use Rattle.std.proofs.Common.{◌≡◌, ◌∙◌, ℕ, length, sym, subst}
use Rattle.std.proofs.lemmas.List.{length-map}
use Rattle.yv_expand_rounds.specs.Placements.{StandOnce}
use Rattle.yv_expand_uses.specs.Spots.{labels_of, layout_of}
use Rattle.yv_expand_augments.proofs.augmentation.AugmentedItems.into_tree.Goals as goal

pub returns : goal.returns
returns c = λ w items st are. (
    let all : length items ≡ length (labels_of (layout_of w items).spots) = sym are.each ∙ sym (length-map (layout_of w items).spots (λ s. s.label)) in
    record {
      grafted = are.grafted;
      tree = c.in_ok-tree.ensures (labels_of (layout_of w items).spots) st are.augmentation (subst (λ (n : ℕ). StandOnce n st.groups) all are.once);
      spots = are.spots;
      refined = are.refined;
      missing = are.missing;
    })
