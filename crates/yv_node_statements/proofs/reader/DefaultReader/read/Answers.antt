use Rattle.yv_link_scopes.specs.Views.{lent_in}
use Rattle.yv_node_statements.proofs.SharedDefaults.{shared_none}
use Rattle.yv_node_statements.proofs.reader.DefaultReader.read.Goals as goal

pub loop-number-init : goal.loop-number-init
loop-number-init c = record {
  scopes = c.in_ok-scopes.ensures;
  shared = shared_none c.args.types.now (lent_in c.args.rows.now) c.new-shared.result c.new-shared.ensures.empty;
}
