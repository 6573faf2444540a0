use Rattle.std.proofs.Common.{◌≡◌, drop}
use Rattle.yv_nodes.specs.Rows.{forest}
use Rattle.yv_tree.specs.InnerPart.{trimmed_trees}
use Rattle.yv_tree.specs.Lines.{any_line}
use Rattle.yv_tree.proofs.draw.Subject.any_line.Given as goal

-- one with a line is among those that are left
abbrev pub invariant-loop-id : goal.invariant-loop-id
invariant-loop-id l =
    let s = l.self.schema.now in
    any_line (trimmed_trees l.group.way.now (forest s (drop l.id-index l.group.ids.now))) ≡ any_line (trimmed_trees l.group.way.now (forest s l.group.ids.now))
