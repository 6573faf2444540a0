use Rattle.std.proofs.Common.{Some, None}
use Rattle.std.proofs.lemmas.Result.{on_ok_weaker}
use Rattle.yv_text_statement.specs.Selection.{selected_of}
use Rattle.yv_link_scopes.specs.Views.{lent_in}
use Rattle.yv_expand_tree.proofs.Phases.{least_fits, least_many}
use Rattle.yv_expand_tree.proofs.whole.final_tree.Goals as goal

pub returns-in-Ok-clause-clear : goal.returns-in-Ok-clause-clear
returns-in-Ok-clause-clear c = λ names.
    on_ok_weaker c.finish.result (λ h. least_fits (selected_of c.args.selection.now) (lent_in c.args.rows.now) c.args.limit None (c.in-Ok.ensures.fits names) h)
    (c.finish.ensures.clear (selected_of c.args.selection.now) (c.in-Ok.ensures.whole names) c.in-Ok.ensures.augments)

pub returns-in-Ok-clause-refusal : goal.returns-in-Ok-clause-refusal
returns-in-Ok-clause-refusal c = λ names r e.
    least_fits (selected_of c.args.selection.now) (lent_in c.args.rows.now) c.args.limit (Some r) (c.in-Ok.ensures.fits names)
    (c.finish.ensures.refusal (selected_of c.args.selection.now) r (c.in-Ok.ensures.whole names) c.in-Ok.ensures.augments e)

pub returns-in-Err-clause-refusal : goal.returns-in-Err-clause-refusal
returns-in-Err-clause-refusal c = λ names r e.
    least_many (selected_of c.args.selection.now) (lent_in c.args.rows.now) c.args.limit r (c.in-Err.ensures.refusal names r (cc))
