use Rattle.yv_text_statement.specs.Order.{Among, IsLeast}
use Rattle.yv_schema_tables.specs.InnerTables.{Namesakes}
use Rattle.yv_schema_tables.specs.InnerSits.{family_in}
use Rattle.yv_schema_tables.proofs.ChildDirectories.{AreDirectoriesUpTo}
use Rattle.yv_schema_tables.proofs.tables.node_tables.Given as goal

abbrev pub invariant-loop-node : goal.invariant-loop-node
invariant-loop-node l = record {
  built : AreDirectoriesUpTo l.nodes.rows l.directories.items l.node-index;
  least : IsLeast (Among l.nodes.rows (λ k row. Namesakes (family_in l.nodes.rows row)) l.node-index) l.duplicate;
}
