use Rattle.std.proofs.Common.{◌∙◌, ap, sym, refl, None, length}
use Rattle.std.specs.List.{slice_get}
use Rattle.yv_expand.specs.Tree as expansion
use Rattle.yv_expand_augments.specs.Remains.{is_left}
use Rattle.yv_expand_uses.specs.Spots.{labels_of}
use Rattle.yv_expand_tree.specs.Final.{spots_of, whole_of}
use Rattle.yv_expand_tree.proofs.TreeRemains.{no_node_twice}
use Rattle.yv_expand_tree.proofs.laws.no_item_is_left_twice.Goals as goal

pub returns : goal.returns
returns c = λ choice files truth f nodes i k x y is are at at' same. (
    let once = c.items_stand_once.ensures (whole_of files f) f.items f.state refl is.grafted in
    no_node_twice (is_left (spots_of files f) are.marks) f.tree
    (λ i k a b p q e. c.a_tree_has_no_item_twice.ensures.once (labels_of (spots_of files f)) f.state.groups (length f.items) i k a b f.tree is.is_tree once p q e) i k x y
    (ap (λ ns. slice_get (expansion.item_list None 0 ns) i) (sym are.are) ∙ at) (ap (λ ns. slice_get (expansion.item_list None 0 ns) k) (sym are.are) ∙ at') same)
