use Rattle.std.proofs.Common.{◌≡◌, ◌∙◌, Bool, List, None, subst}
use Rattle.std.specs.Result.{OnOk}
use Rattle.yv_text_statement.specs.Order.{IsLeast}
use Rattle.yv_text_statement.specs.Selection.{selected_of}
use Rattle.yv_link_scopes.specs.Views.{lent_in}
use Rattle.yv_expand_statements.specs.Limit.{TooMany}
use Rattle.yv_expand_statements.specs.FileOrder.{marks_of}
use Rattle.yv_expand_tree.proofs.whole.expand_files.Goals as goal

pub returns-clause-fits : goal.returns-clause-fits
returns-clause-fits c = λ names. (
    let files = lent_in c.args.rows.now in
    let given : c.deref.result.now ≡ marks_of (selected_of c.args.selection.now) files = c.deref.ensures.value ∙ c.in_ok-given.ensures in
    subst (λ (ms : List Bool). OnOk c.expand.result (IsLeast (TooMany files ms c.args.limit) None)) given (c.expand.ensures.fits names))
