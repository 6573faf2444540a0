use Rattle.std.proofs.Common.{◌≡◌, Some, map, subst}
use Rattle.yv_text_statement.specs.declared.refusal.Refusal.{Refusal}
use Rattle.yv_text_statement.specs.Order.{IsLeast}
use Rattle.yv_link_scopes.specs.Files.{brief_of}
use Rattle.yv_link_scopes.specs.RowList.{rows_of}
use Rattle.yv_link_modules.specs.Modules.{BadModules}
use Rattle.yv_link.proofs.link_files.read_rows.Goals as goal

pub returns-in-Some-clause-refusal : goal.returns-in-Some-clause-refusal
returns-in-Some-clause-refusal c =
    let files = c.args.files.now in
    let modules = rw (c.in_ok-rows.ensures.lends, c.in-Some.is) at c.in_ok-refusal.ensures in
    λ r e. let same : c.in-Some.refusal ≡ r = cc in subst (λ (x : Refusal). IsLeast (BadModules (map brief_of files) (rows_of files)) (Some x)) same modules

pub returns-clause-clear : goal.returns-clause-clear
returns-clause-clear c = rw (c.in_ok-rows.ensures.lends, c.in_default.is) at c.in_ok-refusal.ensures
