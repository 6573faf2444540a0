use Rattle.std.proofs.Common.{◌∙◌, ◌++◌, List, reverse, sym, ap, append-nil}
use Rattle.yv_link_scopes.specs.Views.{files_in, rows_in}
use Rattle.yv_expand_statements.specs.declared.origin.Origin.{Origin}
use Rattle.yv_expand.specs.InnerItems.{items_below}
use Rattle.yv_expand.proofs.ItemsBelow.{none_in, none_out}
use Rattle.yv_expand.proofs.blocks.Blocks.put_below.Goals as goal

pub returns-in-Input-clause-below : goal.returns-in-Input-clause-below
returns-in-Input-clause-below c = λ these names blocks stand.
    sym (append-nil c.args.stack.now.items)
    ∙ ap (λ (l : List Origin). c.args.stack.now.items ++ reverse (items_below c.args.parent l))
    (sym (none_in (files_in c.args.rows.now) (rows_in c.args.rows.now) c.in-Input.field-0 c.args.origin these c.in-Input.is stand))

pub returns-in-Output-clause-below : goal.returns-in-Output-clause-below
returns-in-Output-clause-below c = λ these names blocks stand.
    sym (append-nil c.args.stack.now.items)
    ∙ ap (λ (l : List Origin). c.args.stack.now.items ++ reverse (items_below c.args.parent l))
    (sym (none_out (files_in c.args.rows.now) (rows_in c.args.rows.now) c.in-Output.field-0 c.args.origin these c.in-Output.is stand))
