use Rattle.std.proofs.Common.{◌∙◌, ap}
use Rattle.yv_nodes.specs.Rows.{Module}
use Rattle.yv_tree.specs.InnerDraw.{drawing_with}
use Rattle.yv_tree.proofs.Parts.{ready_put}
use Rattle.yv_tree.proofs.tree_diagram.TreeDiagram.draw.Goals as goal

pub returns : goal.returns
returns g c =
    let all = c.self.inside in
    ready_put all.schema.now all.shown.now all.modules c.shown.inside.module_file (drawing_with all.depth all.below.now all.columns) c.as_str.result.now c.args.self.now
    all.data_nodes.items all.rpcs.items all.notifications.items
    c.as_slice.result.now c.as_slice-2.result.now c.as_slice-notifications.result.now
    (g.P.Paper.output c.args.page.now c.args.paper.now)
    (g.P.Paper.output c.put_header.new.page c.put_header.new.paper)
    (g.P.Paper.output c.top_nodes.new.page c.top_nodes.new.paper)
    (g.P.Paper.output c.augments.new.page c.augments.new.paper)
    (g.P.Paper.output c.tops_section.new.page c.tops_section.new.paper)
    (g.P.Paper.output c.tops_section-2.new.page c.tops_section-2.new.paper)
    c.self.invariant c.self.view_is (ap (λ (m : Module). m.module_file) c.shown.view_is)
    (c.as_str.ensures.value ∙ ap (λ (m : Module). m.name) c.shown.view_is)
    c.as_slice.ensures.value c.as_slice-2.ensures.value c.as_slice-notifications.ensures.value
    c.put_header.ensures c.top_nodes.ensures c.augments.ensures c.tops_section.ensures c.tops_section-2.ensures
