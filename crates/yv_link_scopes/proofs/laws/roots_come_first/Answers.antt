use Rattle.yv_link_scopes.proofs.Bodies.{rows_past_roots}
use Rattle.yv_link_scopes.proofs.Within.{rows_of_files, rows_of_roots}
use Rattle.yv_link_scopes.proofs.laws.roots_come_first.Goals as goal

pub returns-clause-count : goal.returns-clause-count
returns-clause-count c = rows_past_roots

pub returns-clause-roots : goal.returns-clause-roots
returns-clause-roots c = rows_of_roots

pub returns-clause-files : goal.returns-clause-files
returns-clause-files c = rows_of_files
