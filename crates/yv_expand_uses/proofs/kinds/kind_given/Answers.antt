use Rattle.std.proofs.Common.{sym, ◌∙◌, ap}
use Rattle.yv_expand_uses.specs.InnerKinds.{kind_by}
use Rattle.yv_expand_uses.proofs.KeywordKinds.{kind_by_keyword}
use Rattle.yv_expand_uses.proofs.kinds.kind_given.Goals as goal

pub returns : goal.returns
returns c = c.kind_by.ensures ∙ ap kind_by c.kind.ensures ∙ sym (kind_by_keyword c.args.entry.now.statement.now.head.keyword)
