use Rattle.yv_schema_tables.proofs.PickedTrees.{IsOpening, left_of}
use Rattle.yv_schema_tables.proofs.data_children.DataChildren.+add.Given as goal

-- the nodes behind
abbrev pub decreases-add : goal.decreases-add
decreases-add l = left_of l.nodes.now.rows l.numbers.now

abbrev pub invariant-loop-number : goal.invariant-loop-number
invariant-loop-number l = IsOpening l.nodes.rows l.numbers l.number-index l.fn.self.inside.items l.fn.self.told.items l.self.inside.items l.self.told.items
