use Rattle.std.proofs.Common.{◌+◌, ◌*◌, ◌-◌, length, drop}
use Rattle.std.specs.Prelude.{IfSome}
use Rattle.yv_nodes.specs.Rows.{rank, forest}
use Rattle.yv_tree.specs.InnerDraw.{IsShown, Leaves, form_with, sheet_with, trees_text, waiting_trees}
use Rattle.yv_tree.specs.InnerMargin.{margin_text}
use Rattle.yv_tree.proofs.draw.Subject.+draw.Given as goal

-- the node that waits and those behind are left of all; and the one that waits has a line
abbrev pub invariant-each-loop-id : goal.invariant-each-loop-id
invariant-each-loop-id g l =
    let s = l.self.schema.now in
    let form = form_with (sheet_with l.self.modules.now l.self.own l.self.columns) l.group.in_choice l.width l.left (margin_text l.margin) l.group.way.now in
    record {
      text : Leaves (trees_text form (forest s l.group.ids.now)) (trees_text form (waiting_trees s l.last (forest s (drop l.id-index l.group.ids.now))))
          (g.P.Paper.output l.initial.page l.initial.paper) (g.P.Paper.output l.page l.paper);
      last : IfSome l.last (IsShown s l.group.way.now l.group.parent);
    }

-- the nodes behind, and the turns that each takes
abbrev pub decreases-nodes : goal.decreases-nodes
decreases-nodes g l = 6 * (length l.self.now.schema.now.nodes - rank l.group.now.parent) + 5

abbrev pub decreases-each : goal.decreases-each
decreases-each g l = 6 * (length l.self.now.schema.now.nodes - rank l.group.now.parent) + 4

abbrev pub decreases-draw_waiting : goal.decreases-draw_waiting
decreases-draw_waiting g l = 6 * (length l.self.now.schema.now.nodes - rank l.group.now.parent) + 3

abbrev pub decreases-node : goal.decreases-node
decreases-node g l = 6 * (length l.self.now.schema.now.nodes - l.id.0) + 2

abbrev pub decreases-node_lines : goal.decreases-node_lines
decreases-node_lines g l = 6 * (length l.self.now.schema.now.nodes - l.id.0) + 1
