use Rattle.std.proofs.Common.{sym, ◌∙◌, ap}
use Rattle.yv_type_chains.specs.Kinds.{is_of_built_in}
use Rattle.yv_type_chains.specs.InnerPairs.{is_one_of}
use Rattle.yv_type_chains.proofs.KeywordMeanings.{of_built_in_by, of_built_in_only}
use Rattle.yv_type_chains.proofs.kinds.is_of_built_in.Goals as goal

pub returns : goal.returns
unfolding is_of_built_in
returns c = c.is_one_of.ensures ∙ ap (is_one_of of_built_in_only) c.kind.ensures ∙ sym (of_built_in_by c.args.statement.now.head.keyword)
