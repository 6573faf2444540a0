use Rattle.std.proofs.Common.{drop, map, true}
use Rattle.yv_tree.specs.Diagram.{text_of}
use Rattle.yv_tree.specs.DrawnDiagram.{drawn_augment}
use Rattle.yv_tree.specs.InnerDraw.{Leaves, drawing_with}
use Rattle.yv_tree.specs.InnerSections.{spaced_from}
use Rattle.yv_tree.proofs.draw.Subject.augments.Given as goal

-- the sections of the augments behind are left of all
abbrev pub invariant-loop-augment : goal.invariant-loop-augment
invariant-loop-augment g l =
    let s = l.self.schema.now in
    let section = drawn_augment s l.self.own (drawing_with l.self.depth l.self.below.now l.self.columns) in
    Leaves (text_of (spaced_from l.self.columns true (map section l.augment-items)))
    (text_of (spaced_from l.self.columns l.is_due (map section (drop l.augment-index l.augment-items))))
    (g.P.Paper.output l.initial.page l.initial.paper) (g.P.Paper.output l.page l.paper)
