use Rattle.std.proofs.Common.{◌≡◌, ◌∙◌, None, sym}
use Rattle.std.specs.List.{slice_get}
use Rattle.yv_link_scopes.specs.Views.{lent_in, trees_in}
use Rattle.yv_node_properties.specs.Statements.{no_statement}
use Rattle.yv_expand_changes.proofs.PropertyOverrides.{none_said}
use Rattle.yv_expand_changes.proofs.StatementReadings.{not_there}
use Rattle.yv_expand_changes.proofs.properties.said_at.Goals as goal

pub returns-in-None : goal.returns-in-None
returns-in-None c =
    let statements = trees_in c.args.rows.now in
    let none : slice_get statements c.args.number ≡ None = sym (rw c.in-None.is at c.statement.ensures) in
    c.nothing.ensures ∙ none_said (lent_in c.args.rows.now) c.args.number (not_there statements c.args.number no_statement none)
