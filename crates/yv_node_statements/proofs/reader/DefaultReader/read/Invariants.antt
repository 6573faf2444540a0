use Rattle.yv_link_scopes.specs.Views.{lent_in}
use Rattle.yv_node_statements.specs.InnerSharedValues.{IsReader}
use Rattle.yv_node_statements.proofs.reader.DefaultReader.read.Given as goal

abbrev pub invariant-loop-number : goal.invariant-loop-number
invariant-loop-number l = IsReader l.types (lent_in l.rows) l.reader
