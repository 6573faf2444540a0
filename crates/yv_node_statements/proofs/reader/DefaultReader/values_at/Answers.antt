use Rattle.std.proofs.Common.{◌≡◌, Some, sym, ◌∙◌}
use Rattle.std.specs.Option.{option_copied}
use Rattle.yv_link_scopes.specs.Views.{lent_in}
use Rattle.yv_types.specs.Types.{sharing_at}
use Rattle.yv_node_properties.specs.Statements.{file_at, statement_at}
use Rattle.yv_node_statements.proofs.SharedDefaults.{at_type, if_some}
use Rattle.yv_node_statements.proofs.reader.DefaultReader.values_at.Goals as goal

pub returns : goal.returns
returns c = λ reader.
    let types = c.args.types.now in
    let files = lent_in c.args.rows.now in
    let file = file_at files c.args.number in
    let found = c.in_ok-found.found.now in
    let numbers = c.in_ok-numbers.numbers in
    let at : sharing_at types file found.head.offset ≡ Some numbers =
    (λ i. sharing_at types (sym c.file_at-file.ensures i) (sym c.offset.ensures i)) ∙ sym c.in_ok-numbers.ensures.numbers in
    if_some (option_copied c.get.result) _ (λ values kept. at_type types files file (statement_at files c.args.number).children found numbers values.value (sym c.in_ok-found.ensures) at (reader.shared numbers values (sym c.get.ensures.value ∙ kept)))
