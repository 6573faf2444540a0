use Rattle.std.proofs.Common.{Option, ap, ◌∙◌}
use Rattle.std.specs.Option.{unwrap_or}
use Rattle.std.proofs.lemmas.Option.{unwrap_or-slice_get}
use Rattle.yv_text_statement.specs.Tree.{Tree}
use Rattle.yv_link_scopes.specs.Views.{trees_in}
use Rattle.yv_node_properties.specs.Statements.{no_statement}
use Rattle.yv_node_statements.proofs.statements.statement_at.Goals as goal

pub returns : goal.returns
returns c = ap (λ (found : Option Tree). unwrap_or found no_statement) c.statement.ensures ∙ unwrap_or-slice_get (trees_in c.args.rows.now) c.args.number no_statement
