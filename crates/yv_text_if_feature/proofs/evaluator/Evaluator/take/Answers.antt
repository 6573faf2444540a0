use Rattle.std.proofs.Common.{List, [], ◌∷◌, ◌++◌, append_assoc, sym, subst}
use Rattle.yv_text_if_feature.specs.State.{completion}
use Rattle.yv_text_if_feature.specs.Reads.{HasRead}
use Rattle.yv_text_if_feature.specs.WordTokens.{token_shown}
use Rattle.yv_text_if_feature.specs.Tokens.{Token}
use Rattle.yv_text_if_feature.specs.Truth.{IsTruth}
use Rattle.yv_text_if_feature.proofs.evaluator.Evaluator.take.Goals as goal

pub returns : goal.returns
unfolding HasRead
returns c = λ names before read agrees rest.
    let word = token_shown c.args.word in
    let told : IsTruth names (before ++ word ∷ rest) (completion names c.step.new.self rest) = subst (IsTruth names (before ++ word ∷ rest)) (sym (c.step.ensures names agrees rest)) (read (word ∷ rest)) in
    subst (λ (ts : List Token). IsTruth names ts (completion names c.step.new.self rest)) (sym (append_assoc before (word ∷ []) rest)) told
