use Rattle.std.proofs.Common.{Some, None, map, subst, sym, OnOk}
use Rattle.yv_text_statement.specs.Order.{IsLeast}
use Rattle.yv_link_scopes.specs.Files.{Files, brief_of}
use Rattle.yv_link_scopes.specs.RowList.{rows_of}
use Rattle.yv_link_modules.specs.Modules.{BadModules}
use Rattle.yv_link.specs.Links.{BadLinks}
use Rattle.yv_link.proofs.Phases.{err_again, least_modules}
use Rattle.yv_link.proofs.link_files.link.Goals as goal

pub linked_rows-requires : goal.linked_rows-requires
linked_rows-requires c = subst (λ (files : Files). IsLeast (BadModules (map brief_of files) (rows_of files)) None) (sym c.in-Ok.ensures.lends) c.in-Ok.ensures.clear

pub returns-in-Ok-clause-clear : goal.returns-in-Ok-clause-clear
returns-in-Ok-clause-clear c = subst (λ (files : Files). OnOk c.linked_rows.result (IsLeast (BadLinks files) None)) c.in-Ok.ensures.lends c.linked_rows.ensures.clear

pub returns-in-Ok-clause-refusal : goal.returns-in-Ok-clause-refusal
returns-in-Ok-clause-refusal c = λ r e. subst (λ (files : Files). IsLeast (BadLinks files) (Some r)) c.in-Ok.ensures.lends (c.linked_rows.ensures.refusal r e)

pub returns-in-Err-clause-refusal : goal.returns-in-Err-clause-refusal
returns-in-Err-clause-refusal c = λ r e. least_modules c.args.files.now r (c.in-Err.ensures.refusal r (err_again _ _ e))
