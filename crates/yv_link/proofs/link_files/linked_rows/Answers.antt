use Rattle.std.proofs.Common.{Some, None}
use Rattle.yv_link_scopes.specs.Views.{lent_in}
use Rattle.yv_link.proofs.Phases.{err_again, least_features, least_identities}
use Rattle.yv_link.proofs.link_files.linked_rows.Goals as goal

pub returns-in-Err-clause-refusal : goal.returns-in-Err-clause-refusal
returns-in-Err-clause-refusal c = λ r e. least_features (lent_in c.args.rows) r c.requires (c.in-Err.ensures.refusal r (err_again _ _ e))

pub returns-in-Err-identities-clause-refusal : goal.returns-in-Err-identities-clause-refusal
returns-in-Err-identities-clause-refusal c =
    λ r e. least_identities (lent_in c.args.rows) (Some r) c.requires c.in-Ok.ensures.clear (c.in-Err-identities.ensures.refusal r (err_again _ _ e))

pub returns-clause-clear : goal.returns-clause-clear
returns-clause-clear c = least_identities (lent_in c.args.rows) None c.requires c.in-Ok.ensures.clear c.in-Ok-identities.ensures.clear
