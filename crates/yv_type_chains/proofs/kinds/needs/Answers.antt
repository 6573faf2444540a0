use Rattle.std.proofs.Common.{sym, ◌∙◌, ap}
use Rattle.yv_type_chains.specs.Kinds.{needs}
use Rattle.yv_type_chains.specs.InnerPairs.{is_paired, may_be_needed}
use Rattle.yv_type_chains.proofs.KeywordMeanings.{needed, needed_by, needs_none}
use Rattle.yv_type_chains.proofs.kinds.needs.Goals as goal

pub returns-then-may_be_needed : goal.returns-then-may_be_needed
unfolding needs
returns-then-may_be_needed c =
    c.is_paired.ensures ∙ ap (is_paired needed c.args.kind.now) c.kind-keyword.ensures ∙ sym (needed_by c.args.kind.now c.args.statement.now.head.keyword)

pub returns-else-may_be_needed : goal.returns-else-may_be_needed
unfolding needs
returns-else-may_be_needed c =
    c.if-may_be_needed.false
    ∙ sym (needs_none c.args.kind.now c.args.statement.now.head.keyword (ap may_be_needed (sym c.kind-keyword.ensures) ∙ sym c.may_be_needed.ensures ∙ c.if-may_be_needed.false))
