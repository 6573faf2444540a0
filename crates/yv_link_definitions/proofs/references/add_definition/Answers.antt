use Rattle.std.proofs.Common.{sym, ◌∙◌}
use Rattle.yv_link_scopes.specs.Rows.{row}
use Rattle.yv_link_definitions.proofs.DefinitionReferences.{defined_more, defined_other}
use Rattle.yv_link_definitions.proofs.references.add_definition.Goals as goal

pub returns-in_ok-insert : goal.returns-in_ok-insert
returns-in_ok-insert c = λ rows at before.
    defined_more rows c.args.number c.args.definitions.now (row c.args.entry.now) at before c.insert.new.self c.reference.result c.reference.ensures c.in_ok-insert.ensures.updates

pub returns-else-is_definition : goal.returns-else-is_definition
returns-else-is_definition c = λ rows at before.
    defined_other rows c.args.number c.args.definitions.now (row c.args.entry.now) at before (sym c.is_definition.ensures ∙ c.if-is_definition.false)
