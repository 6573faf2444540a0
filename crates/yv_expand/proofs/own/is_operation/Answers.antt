use Rattle.std.proofs.Common.{sym, ◌∙◌, ap}
use Rattle.yv_link_scopes.specs.Rows.{row}
use Rattle.yv_expand.specs.InnerKeywords.{is_operation_keyword}
use Rattle.yv_expand.proofs.KeywordKinds.{operation_by_kind}
use Rattle.yv_expand.proofs.own.is_operation.Goals as goal

pub returns : goal.returns
returns c = c.is_operation_keyword.ensures ∙ ap is_operation_keyword c.kind.ensures ∙ sym (operation_by_kind (row c.args.entry.now))
