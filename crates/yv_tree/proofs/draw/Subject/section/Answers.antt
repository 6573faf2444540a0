use Rattle.std.proofs.Common.{◌∙◌, ◌++◌, ap, codes, sym}
use Rattle.yv_nodes.specs.Rows.{forest}
use Rattle.yv_tree.specs.DrawnDiagram.{drawn_section}
use Rattle.yv_tree.specs.DrawnNodes.{drawn_nodes}
use Rattle.yv_tree.specs.InnerDraw.{sheet_with}
use Rattle.yv_tree.specs.InnerPart.{trimmed_trees}
use Rattle.yv_tree.specs.InnerSections.{next_due}
use Rattle.yv_tree.proofs.Spaces.{section_put, with_nodes}
use Rattle.yv_tree.proofs.draw.Subject.section.Goals as goal

pub returns-clause-put : goal.returns-clause-put
returns-clause-put g c =
    let s = c.args.self.now.schema.now in
    let sheet = sheet_with c.args.self.now.modules.now c.args.self.now.own c.args.self.now.columns in
    let in_choice = c.args.group.now.in_choice in
    let title = c.args.word.now ++ c.args.argument.now in
    let ts = trimmed_trees c.args.group.now.way.now (forest s c.args.group.now.ids.now) in
    section_put c.args.is_due c.args.word.now c.args.argument.now (drawn_section sheet in_choice c.args.self.now.depth title ts)
    (drawn_nodes sheet in_choice c.args.self.now.depth (codes "    ") ts) c.line_feed_if.result.now
    (g.P.Paper.output c.args.page.now c.args.paper.now) (g.P.Paper.output c.put.new.page c.put.new.self) (g.P.Paper.output c.put-2.new.page c.put-2.new.self)
    (g.P.Paper.output c.put-3.new.page c.put-3.new.self) (g.P.Paper.output c.put-4.new.page c.put-4.new.self) (g.P.Paper.output c.put-5.new.page c.put-5.new.self)
    (g.P.Paper.output c.nodes.new.page c.nodes.new.paper)
    (with_nodes sheet in_choice c.args.self.now.depth title s c.args.group.now.way.now c.args.group.now.ids.now (sym c.is_empty.ensures ∙ c.if-is_empty.false))
    c.line_feed_if.ensures c.put.ensures c.put-2.ensures c.put-3.ensures c.put-4.ensures c.put-5.ensures c.nodes.ensures

pub returns-clause-next : goal.returns-clause-next
returns-clause-next g c =
    let s = c.args.self.now.schema.now in
    let sheet = sheet_with c.args.self.now.modules.now c.args.self.now.own c.args.self.now.columns in
    let title = c.args.word.now ++ c.args.argument.now in
    sym (ap (next_due c.args.self.now.columns c.args.is_due)
    (with_nodes sheet c.args.group.now.in_choice c.args.self.now.depth title s c.args.group.now.way.now c.args.group.now.ids.now (sym c.is_empty.ensures ∙ c.if-is_empty.false)))
