use Rattle.yv_link_scopes.specs.Rows.{row}
use Rattle.yv_link_scopes.specs.Views.{files_in, rows_in}
use Rattle.yv_link_definitions.proofs.Harmless.{nothing_wrong}
use Rattle.yv_link_definitions.proofs.draft.Draft.row_refusal.Goals as goal

pub returns-else-has_definition : goal.returns-else-has_definition
returns-else-has_definition c =
    let unset = c.if-has_definition.false in
    nothing_wrong (files_in c.args.self.now.rows.now) (rows_in c.args.self.now.rows.now) c.args.number (row c.args.entry.now) (c.has_definition.ensures.defines unset) (c.has_definition.ensures.types unset) (c.has_definition.ensures.uses unset)
