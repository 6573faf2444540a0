use Rattle.std.proofs.Common.{◌≡◌, ◌∙◌, List, Some, ap, sym, ℕ}
use Rattle.std.specs.Prelude.{not}
use Rattle.yv_nodes.specs.declared.node.NodeId.{NodeId}
use Rattle.yv_nodes.specs.Rows.{Row, below, forest, row_at}
use Rattle.yv_tree.specs.InnerPart.{others, trimmed_trees}
use Rattle.yv_tree.specs.Lines.{are_some}
use Rattle.yv_tree.specs.Part.{part}
use Rattle.yv_tree.proofs.ParentNodes.{some_trimmed}
use Rattle.yv_tree.proofs.way.shows_below.Goals as goal

pub returns : goal.returns
returns c =
    let s = c.args.schema.now in
    let way = c.args.way.now in
    let file : c.module_file-module_file.result ≡ (row_at s c.args.id).label.module_file = c.module_file-module_file.ensures ∙ ap (λ (r : Row). r.label.module_file) c.node.ensures.value in
    let shown : part (Some (row_at s c.args.id).label.module_file) way (below s c.args.id) ≡ trimmed_trees (others way) (forest s c.shown_ids.result.now) =
    ap (λ (n : ℕ). part (Some n) way (below s c.args.id)) (sym file)
    ∙ ap (λ (l : List NodeId). part (Some c.module_file-module_file.result) way (forest s l)) (sym c.children.ensures.value) ∙ c.shown_ids.ensures.part in
    ap not c.is_empty.ensures ∙ some_trimmed s (others way) c.shown_ids.result.now ∙ ap are_some (sym shown)
