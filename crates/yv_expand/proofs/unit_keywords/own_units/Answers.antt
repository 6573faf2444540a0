use Rattle.std.proofs.Common.{sym, ◌∙◌, ap}
use Rattle.yv_expand.specs.InnerKeywords.{units_by}
use Rattle.yv_expand.proofs.KeywordKinds.{units_by_kind}
use Rattle.yv_expand.proofs.unit_keywords.own_units.Goals as goal

pub returns : goal.returns
returns c = c.units_by.ensures ∙ ap units_by c.kind.ensures ∙ sym (units_by_kind c.args.entry.now.statement.now.head.keyword)
