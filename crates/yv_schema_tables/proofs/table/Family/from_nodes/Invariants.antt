use Rattle.yv_schema_tables.specs.InnerTables.{held_at}
use Rattle.yv_schema_tables.proofs.ChildDirectories.{Keeps}
use Rattle.yv_schema_tables.proofs.table.Family.from_nodes.Given as goal

abbrev pub invariant-loop-child : goal.invariant-loop-child
invariant-loop-child l = Keeps l.nodes.rows l.around l.numbers (held_at l.directory) l.duplicate l.child-index
