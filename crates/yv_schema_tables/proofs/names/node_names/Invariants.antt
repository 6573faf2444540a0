use Rattle.yv_schema_tables.proofs.Numbering.{NamesFirst}
use Rattle.yv_schema_tables.proofs.names.node_names.Given as goal

-- the nodes before this one are numbered
abbrev pub invariant-loop-number : goal.invariant-loop-number
invariant-loop-number l = NamesFirst l.nodes.rows l.names l.of_nodes.items l.number
