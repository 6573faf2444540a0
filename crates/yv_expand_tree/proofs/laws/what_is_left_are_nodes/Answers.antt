use Rattle.std.proofs.Common.{◌∙◌, ap, sym, None}
use Rattle.std.specs.List.{slice_get}
use Rattle.yv_expand.specs.Tree as expansion
use Rattle.yv_expand_statements.specs.Kinds.{is_uses}
use Rattle.yv_expand_augments.specs.Remains.{is_left}
use Rattle.yv_expand_tree.specs.Final.{spots_of, whole_of}
use Rattle.yv_expand_tree.proofs.Finals.{left_items}
use Rattle.yv_expand_tree.proofs.TreeRemains.{left_kind, node_kept, spot_item}
use Rattle.yv_expand_tree.proofs.laws.what_is_left_are_nodes.Goals as goal

pub returns : goal.returns
returns c = λ choice files truth f nodes place x is are at. (
    let spot = left_items choice files truth f is c.items_stand_once.ensures c.a_tree_has_no_item_twice.ensures.within nodes are place x at in
    let told = spot_item (whole_of files f) f.items x.origin spot.0 spot.1 in
    let kept = node_kept (is_left (spots_of files f) are.marks) f.tree place x (ap (λ ns. slice_get (expansion.item_list None 0 ns) place) (sym are.are) ∙ at) in
    (spot.0, told.0, spot.1, told.1, ap is_uses (sym told.2) ∙ left_kind (spots_of files f) are.marks x.origin spot.0 kept spot.1))
