use Rattle.std.proofs.Common.{◌≡◌, ◌∙◌, List, ℕ, ap, map, subst, true}
use Rattle.yv_base_streams.specs.Pages.{Adds}
use Rattle.yv_nodes.specs.Rows.{Note}
use Rattle.yv_tree.specs.Diagram.{text_of}
use Rattle.yv_tree.specs.DrawnDiagram.{drawn_augment, spaced_sections}
use Rattle.yv_tree.specs.InnerDraw.{drawing_with}
use Rattle.yv_tree.specs.InnerSections.{apart, next_due, spaced_from}
use Rattle.yv_tree.proofs.Spaces.{section_step, sections_end, spaced_is}
use Rattle.yv_tree.proofs.draw.Subject.augments.Goals as goal

pub loop-augment-preserved : goal.loop-augment-preserved
loop-augment-preserved g c =
    let section = drawn_augment c.args.self.now.schema.now c.args.self.now.own (drawing_with c.args.self.now.depth c.args.self.now.below.now c.args.self.now.columns) in
    let items = c.augments-augment-items.result.now in
    let columns = c.args.self.now.columns in
    let mid = g.P.Paper.output c.loop-augment.page c.loop-augment.paper in
    let new = g.P.Paper.output c.augment-is_due.new.page c.augment-is_due.new.paper in
    section_step section columns c.loop-augment.is_due c.augment-is_due.result items c.loop-augment.augment-index c.augment-item.result
    (text_of (spaced_from columns true (map section items)))
    (g.P.Paper.output c.args.page.now c.args.paper.now) mid new c.loop-augment-test.true
    (c.augment-is_due.ensures.next ∙ ap (λ (n : Note). next_due columns c.loop-augment.is_due (section n)) c.augment-item.is)
    c.loop-augment.invariant
    (subst (λ (n : Note). Adds (text_of (apart c.loop-augment.is_due (section n))) mid new) c.augment-item.is c.augment-is_due.ensures.put)

pub returns : goal.returns
returns g c =
    let s = c.args.self.now.schema.now in
    let section = drawn_augment s c.args.self.now.own (drawing_with c.args.self.now.depth c.args.self.now.below.now c.args.self.now.columns) in
    let items = c.augments-augment-items.result.now in
    let columns = c.args.self.now.columns in
    let old = g.P.Paper.output c.args.page.now c.args.paper.now in
    let new = g.P.Paper.output c.loop-augment.page c.loop-augment.paper in
    let all = text_of (spaced_from columns true (map section items)) in
    let same : all ≡ text_of (spaced_sections columns (map section s.augments)) =
    ap text_of (spaced_is columns (map section items)) ∙ ap (λ (l : List Note). text_of (spaced_sections columns (map section l))) c.augments-augment-items.ensures.value in
    subst (λ (l : List ℕ). Adds l old new) same
    (sections_end section columns c.loop-augment.is_due items c.loop-augment.augment-index all old new c.loop-augment-test.false c.loop-augment.invariant)
