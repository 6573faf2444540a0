use Rattle.std.proofs.Common.{◌≡◌, drop, max}
use Rattle.yv_nodes.specs.Rows.{forest}
use Rattle.yv_tree.specs.Columns.{width}
use Rattle.yv_tree.specs.InnerDraw.{sheet_with}
use Rattle.yv_tree.specs.InnerPart.{trimmed_trees}
use Rattle.yv_tree.proofs.draw.Subject.greatest.Given as goal

-- the width of all is this or that of those that are left
abbrev pub invariant-loop-id : goal.invariant-loop-id
invariant-loop-id l =
    let s = l.self.schema.now in
    let sheet = sheet_with l.self.modules.now l.self.own l.self.columns in
    max l.greatest (width sheet (trimmed_trees l.group.way.now (forest s (drop l.id-index l.group.ids.now)))) ≡ width sheet (trimmed_trees l.group.way.now (forest s l.group.ids.now))
