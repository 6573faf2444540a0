use Rattle.std.proofs.Common.{List, [], ◌++◌, append-nil, sym, subst}
use Rattle.yv_text_if_feature.specs.Reads.{HasRead}
use Rattle.yv_text_if_feature.specs.Tokens.{Token}
use Rattle.yv_text_if_feature.specs.Truth.{IsTruth}
use Rattle.yv_text_if_feature.proofs.evaluator.Evaluator.truth.Goals as goal

pub returns : goal.returns
unfolding HasRead
returns c = λ names tokens read.
    let all : IsTruth names (tokens ++ []) c.outcome.result = subst (IsTruth names (tokens ++ [])) (sym (c.outcome.ensures names)) (read []) in
    subst (λ (ts : List Token). IsTruth names ts c.outcome.result) (append-nil tokens) all
