use Rattle.std.proofs.Common.{◌∙◌, sym}
use Rattle.yv_text_statement.specs.Selection.{selected_of}
use Rattle.yv_schema.proofs.parts.schema_parts.Goals as goal

pub parts_of-requires-clause-basis : goal.parts_of-requires-clause-basis
parts_of-requires-clause-basis c =
    let choice = selected_of c.args.selection.now in
    let b = c.requires.basis.basis in
    let is = c.requires.basis.is in
    let said = c.new-context.ensures.tells b choice (c.in_ok-definitions.ensures.files ∙ sym is.of_files) (c.in_ok-definitions.ensures.typing ∙ is.typing) c.in_ok-refined.ensures is.kept is.final is.nodes in
    record { basis = b; of_files = is.of_files; tells = said.0; chosen = said.1 }

pub returns-clause-parts : goal.returns-clause-parts
returns-clause-parts c = λ b is.
    let choice = selected_of c.args.selection.now in
    let said = c.new-context.ensures.tells b choice (c.in_ok-definitions.ensures.files ∙ sym is.of_files) (c.in_ok-definitions.ensures.typing ∙ is.typing) c.in_ok-refined.ensures is.kept is.final is.nodes in
    c.in_ok-parts.ensures.parts b said.0 is.of_files
