use Rattle.std.proofs.Common.{◌≡◌, ◌++◌, drop}
use Rattle.std.specs.Prelude.{filter}
use Rattle.yv_tree.specs.Diagram.{is_top}
use Rattle.yv_tree.proofs.draw.Subject.tops.Given as goal

-- with those among the nodes that are left, these are all
abbrev pub invariant-loop-id : goal.invariant-loop-id
invariant-loop-id l =
    let p = is_top l.self.schema.now l.self.own l.part in
    l.found.items ++ filter p (drop l.id-index l.id-items) ≡ filter p l.id-items
