use Rattle.std.proofs.Common.{sym, ◌∙◌, ap}
use Rattle.yv_link_scopes.specs.Rows.{row}
use Rattle.yv_expand.specs.InnerKeywords.{is_item_keyword}
use Rattle.yv_expand.proofs.KeywordKinds.{item_by_kind}
use Rattle.yv_expand.proofs.own.is_node_or_uses.Goals as goal

pub returns : goal.returns
returns c = c.is_item_keyword.ensures ∙ ap is_item_keyword c.kind.ensures ∙ sym (item_by_kind (row c.args.entry.now))
