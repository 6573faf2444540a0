use Rattle.std.proofs.Common.{◌-◌, drop, length}
use Rattle.yv_nodes.specs.Rows.{below, forest, rank}
use Rattle.yv_schema_tables.proofs.SchemaMeasures.{IsMeasured}
use Rattle.yv_schema_tables.proofs.schema.Schema.+passage.Given as goal

-- the nodes behind
abbrev pub decreases-passage : goal.decreases-passage
decreases-passage l = length l.self.now.nodes - rank l.parent

abbrev pub invariant-loop-child : goal.invariant-loop-child
invariant-loop-child l = IsMeasured l.all (forest l.self (drop l.child-index l.child-items)) (below l.self l.fn.parent)
