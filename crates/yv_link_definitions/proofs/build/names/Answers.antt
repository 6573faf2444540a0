use Rattle.std.proofs.Common.{None, Some, ◌≡◌, length, subst}
use Rattle.yv_link_definitions.specs.Leads.{IsOrderOf}
use Rattle.yv_text_statement.specs.Order.{IsLeast}
use Rattle.yv_text_statement.specs.declared.refusal.Stop.TheVariants.{Fault}
use Rattle.yv_link_definitions.specs.Refusals.{BadIn}
use Rattle.yv_link_scopes.specs.declared.rows.Rows.{Rows}
use Rattle.yv_link_scopes.specs.Views.{files_in, rows_in}
use Rattle.yv_link_definitions.specs.InnerAnswers.{TellFirst}
use Rattle.yv_link_definitions.proofs.StatementAnswers.{meanings_read, meanings_told, refs_told, types_told, uses_told}
use Rattle.yv_link_definitions.proofs.build.names.Goals as goal

pub order-requires : goal.order-requires
order-requires c = meanings_read (files_in c.in_ok-draft.draft.rows.now) (rows_in c.in_ok-draft.draft.rows.now) c.in_ok-answers.answers _ c.deref.ensures.value c.in_ok-answers.ensures

pub returns-clause-makes : goal.returns-clause-makes
returns-clause-makes c =
    let told : TellFirst (files_in c.args.rows.now) (rows_in c.args.rows.now) (length (rows_in c.args.rows.now)) c.in_ok-answers.answers =
    subst (λ (x : Rows). TellFirst (files_in x) (rows_in x) (length (rows_in x)) c.in_ok-answers.answers) c.in_ok-draft.ensures c.in_ok-answers.ensures in
    record {
      meant = (meanings_told (files_in c.args.rows.now) (rows_in c.args.rows.now) c.in_ok-answers.answers told).exact;
      refs = refs_told (files_in c.args.rows.now) (rows_in c.args.rows.now) c.in_ok-answers.answers told;
      types = types_told (files_in c.args.rows.now) (rows_in c.args.rows.now) c.in_ok-answers.answers told;
      uses = uses_told (files_in c.args.rows.now) (rows_in c.args.rows.now) c.in_ok-answers.answers told;
      order = subst (λ (x : Rows). IsOrderOf (files_in x) (rows_in x) c.in-Ok.order.items) c.in_ok-draft.ensures c.in-Ok.ensures.makes;
    }

pub returns-in-Err-clause-refusal : goal.returns-in-Err-clause-refusal
returns-in-Err-clause-refusal c r e =
    let same : c.in-Err.stop ≡ Fault r = (let h = e in cc) in
    subst (λ (x : Rows). IsLeast (BadIn (files_in x) (rows_in x)) (Some r)) c.in_ok-draft.ensures (c.in-Err.ensures.refusal r cc)

pub returns-clause-clear : goal.returns-clause-clear
returns-clause-clear c = subst (λ (x : Rows). IsLeast (BadIn (files_in x) (rows_in x)) None) c.in_ok-draft.ensures c.in-Ok.ensures.clear
