-- The final tree of files is the forest to which they expand.
use Rattle.std.proofs.Common.{◌≡◌, ℕ, Bool, List, length, map, refl, sym, subst}
use Rattle.yv_link_scopes.specs.Files.{Files, brief_of}
use Rattle.yv_link_scopes.specs.RowList.{rows_of}
use Rattle.yv_expand.specs.Tree.{Item}
use Rattle.yv_expand_rounds.specs.Placements.{StandOnce}
use Rattle.yv_expand_rounds.specs.Tree.{IsTree}
use Rattle.yv_expand_rounds.specs.Turns.{State}
use Rattle.yv_expand_augments.specs.Augmentation.{AreAugmented}
use Rattle.yv_expand_uses.specs.Spots.{Whole, labels_of, layout_of, whole}
use Rattle.yv_expand_statements.specs.FileOrder.{marks_of, order_of}
use Rattle.yv_expand_definition.proofs.GivenNodeUniqueness.{RefersToOne}
use Rattle.yv_expand_laws.specs.Files.{expansion_of, labels_in}
use Rattle.yv_expand_laws.specs.FinalTree.{FinalTreeShows}
use Rattle.yv_expand_laws.proofs.Givers.{many_labels}
use Rattle.yv_expand_laws.proofs.FileMarks.{order_marked}
use Rattle.yv_expand_laws.proofs.LabelsAndPaths.{labels_tell}
use Rattle.yv_expand_laws.proofs.Trees.{tree_shows}
use Rattle.yv_expand_laws.proofs.Whole.{files_show}

-- each item stands in one place when all augments were applied
abbrev pub EachOnce : Type 0
EachOnce = (w : Whole) (items : List Item) (st : State) → w.items ≡ length items → AreAugmented w items st → StandOnce (length items) st.groups

pub final_tree_shows : (files : Files) → RefersToOne files → EachOnce → FinalTreeShows files
final_tree_shows files one_meant once choice f its m sound roots final tells E =
    let marks : List Bool = marks_of choice files in
    let w : Whole = expansion_of files marks f.items in
    let grafted : AreAugmented w f.items f.state = subst (λ a. AreAugmented (whole (map brief_of files) (rows_of files) a (length f.items)) f.items f.state) final.augments final.grafted in
    let tree : IsTree (labels_in files marks f.items) f.state.groups f.tree =
    subst (λ a. IsTree (labels_of (layout_of (whole (map brief_of files) (rows_of files) a (length f.items)) f.items).spots) f.state.groups f.tree) final.augments final.is_tree in
    let S = files_show files one_meant marks (order_of choice files) final.own f.items its m f.state (record { sound = sound; roots = roots; marked = order_marked choice files }) final.expanded tells E grafted in
    tree_shows (labels_in files marks f.items) its (labels_tell w f.items its tells.told) f.state.groups f.tree m.nodes
    (subst (λ (n : ℕ). StandOnce n f.state.groups) (sym (many_labels w f.items refl)) (once w f.items f.state refl grafted)) S tree
